-- The copies equal the stored values.
use Rattle.std.proofs.Common.{rules}
use Rattle.getopts.proofs.Lists.{map-alike}
use Rattle.getopts.proofs.matches.MatchesClone.clone.Goals as goal

pub returns : goal.returns
returns c = search (rules, map-alike)
