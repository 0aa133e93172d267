-- The copies equal the stored values.
use Rattle.std.proofs.Common.{rules}
use Rattle.getopts.proofs.matches.MatchedOptionsClone.clone.Goals as goal

pub invariant_of-result : goal.invariant_of-result
invariant_of-result c = search rules
