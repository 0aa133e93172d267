-- The values so far are those of the occurrences so far.
use Rattle.std.proofs.Common.{◌≡◌, map, take}
use Rattle.std.specs.String.{string_bytes}
use Rattle.getopts.specs.Accessors.{values_of}
use Rattle.getopts.proofs.occurrences.Occurrences.values.Given as goal

abbrev pub invariant-loop-nth : goal.invariant-loop-nth
invariant-loop-nth l = map string_bytes l.values.items ≡ values_of (take l.nth l.self)
