-- Matches that keep the counts are the result.
use Rattle.std.proofs.Common.{rules}
use Rattle.std.proofs.lemmas.Result.{IfOk-weaker}
use Rattle.getopts.proofs.MainTheorem.Results.{is_accepted, is_refused}
use Rattle.getopts.proofs.parse.Holds.{FitOptionsAndCounts-accepted}
use Rattle.getopts.proofs.options.Options.parse_words.Goals as goal

pub returns-clause-accepted : goal.returns-clause-accepted
returns-clause-accepted g c = search (rules, is_accepted)

pub returns-clause-refused : goal.returns-clause-refused
returns-clause-refused g c = search (rules, is_refused)

pub returns-clause-declared : goal.returns-clause-declared
returns-clause-declared g c = IfOk-weaker c.read_matches.result _ _
    (λ matches accepted. FitOptionsAndCounts-accepted _ _ _ accepted.accepted) (returns-clause-accepted g c)
