-- The first group that breaks its count has the error, if there is one.
use Rattle.std.proofs.Common.{rules}
use Rattle.getopts.proofs.MainTheorem.Counted.{counted_result-kept, counted_result-broken, KeepsCounts-kept}
use Rattle.getopts.proofs.MainTheorem.Counted.{IsCountFault-broken}
use Rattle.getopts.proofs.matches.Matches.check_counts.Goals as goal

pub returns-clause-result : goal.returns-clause-result
returns-clause-result c = search (rules, counted_result-kept, counted_result-broken)

pub returns-clause-kept : goal.returns-clause-kept
returns-clause-kept c = search (rules, KeepsCounts-kept)

pub returns-clause-broken : goal.returns-clause-broken
returns-clause-broken c = search (rules, IsCountFault-broken)
