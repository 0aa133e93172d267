-- The occurrences of the groups before this place are the same.
use Rattle.std.proofs.Common.{◌≡◌, ◌<◌, ℕ, true}
use Rattle.std.specs.Cmp.Lexicographic.{pointwise}
use Rattle.getopts.specs.Accessors.{occurrences_of_group}
use Rattle.getopts.specs.Same.{same_group_occurrence}
use Rattle.getopts.proofs.matches.MatchedOptions.same.Given as goal

abbrev pub invariant-loop-place : goal.invariant-loop-place
invariant-loop-place l = (k : ℕ) → k < l.place
    → pointwise same_group_occurrence (occurrences_of_group l.self k)
    (occurrences_of_group l.other k) ≡ true
