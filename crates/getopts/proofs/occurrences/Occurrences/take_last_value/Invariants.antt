-- What was taken off has no value.
use Rattle.std.proofs.Common.{◌≡◌, length}
use Rattle.getopts.specs.Accessors.{values_of}
use Rattle.getopts.proofs.occurrences.Occurrences.take_last_value.Given as goal

abbrev pub invariant-loop-value : goal.invariant-loop-value
invariant-loop-value l = values_of l.self ≡ values_of l.fn.self

abbrev pub decreases-loop-value : goal.decreases-loop-value
decreases-loop-value l = length l.self
