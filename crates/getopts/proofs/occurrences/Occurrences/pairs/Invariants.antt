-- The pairs so far are those of the occurrences so far.
use Rattle.std.proofs.Common.{◌≡◌, map, take}
use Rattle.getopts.specs.Accessors.{pairs_of, pair_view}
use Rattle.getopts.proofs.occurrences.Occurrences.pairs.Given as goal

abbrev pub invariant-loop-nth : goal.invariant-loop-nth
invariant-loop-nth l = map pair_view l.pairs.items ≡ pairs_of (take l.nth l.self)
