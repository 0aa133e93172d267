-- The comparison of two matches decides whether they are equal.
use Rattle.std.proofs.Common.{rules}
use Rattle.getopts.proofs.Stored.Same.{same_matches-decides}
use Rattle.getopts.proofs.matches.MatchesPartialEq.eq.Goals as goal

pub returns-then-same_words-clause-same : goal.returns-then-same_words-clause-same
returns-then-same_words-clause-same c = search (rules, same_matches-decides c.args.self.now c.args.other.now)

pub returns-else-same_words-clause-same : goal.returns-else-same_words-clause-same
returns-else-same_words-clause-same c = search (rules, same_matches-decides c.args.self.now c.args.other.now)
