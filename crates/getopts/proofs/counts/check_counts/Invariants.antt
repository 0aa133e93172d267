-- The groups before this place keep their counts, so the first that doesn't is among the others.
use Rattle.std.proofs.Common.{◌≡◌, drop}
use Rattle.getopts.specs.Stored.Index.{count_in, first_wrong, indices_in}
use Rattle.getopts.proofs.counts.check_counts.Given as goal

abbrev pub invariant-loop-place : goal.invariant-loop-place
invariant-loop-place l = first_wrong 0 l.signatures (count_in (indices_in l.index))
    ≡ first_wrong l.place (drop l.place l.signatures) (count_in (indices_in l.index))
