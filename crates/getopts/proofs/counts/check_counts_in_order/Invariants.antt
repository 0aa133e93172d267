-- The groups before this place keep their counts, so the first that doesn't is among the others.
use Rattle.std.proofs.Common.{◌≡◌, drop, map}
use Rattle.getopts.specs.Accessors.{borrowed_given}
use Rattle.getopts.specs.Stored.Index.{count_given, first_wrong}
use Rattle.getopts.proofs.counts.check_counts_in_order.Given as goal

abbrev pub invariant-loop-place : goal.invariant-loop-place
invariant-loop-place l = first_wrong 0 l.signatures (count_given (map borrowed_given l.order))
    ≡ first_wrong l.place (drop l.place l.signatures) (count_given (map borrowed_given l.order))
