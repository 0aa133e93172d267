-- The positions so far are those of the occurrences so far.
use Rattle.std.proofs.Common.{◌≡◌, take}
use Rattle.getopts.specs.Accessors.{positions_of}
use Rattle.getopts.proofs.occurrences.Occurrences.positions.Given as goal

abbrev pub invariant-loop-nth : goal.invariant-loop-nth
invariant-loop-nth l = l.positions.items ≡ positions_of (take l.nth l.self)
