-- Both have the same number of occurrences, and those so far are equal.
use Rattle.std.proofs.Common.{◌≡◌, true, length, take}
use Rattle.std.specs.Cmp.Lexicographic.{pointwise}
use Rattle.getopts.specs.Same.{same_group_occurrence}
use Rattle.getopts.proofs.occurrences.Occurrences.same.Given as goal

abbrev pub invariant-loop-nth : goal.invariant-loop-nth
invariant-loop-nth l = record {
  as_many : length l.self ≡ length l.other;
  same : pointwise same_group_occurrence (take l.nth l.self) (take l.nth l.other) ≡ true;
}
