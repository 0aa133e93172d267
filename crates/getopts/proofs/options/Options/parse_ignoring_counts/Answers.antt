-- The result is the only one, and its matches fit the options and end in the words after the stop.
-- If they keep the counts, they are what `parse` returns.
use Rattle.std.proofs.Common.{rules}
use Rattle.std.proofs.lemmas.Result.{IfOk-weaker, MatchResult-weaker}
use Rattle.getopts.proofs.MainTheorem.BeforeFree.{Accepts-accepted}
use Rattle.getopts.proofs.MainTheorem.Counted.{parse_result-counted, parse_result-unread}
use Rattle.getopts.proofs.MainTheorem.Results.{is_read, isnt_read}
use Rattle.getopts.proofs.parse.Holds.{FitOptions-read, FitOptionsAndCounts-accepted, EndsInTrailing-read}
use Rattle.getopts.proofs.Errors.{IsOutOfMemoryOr-weaker}
use Rattle.getopts.proofs.options.Options.parse_ignoring_counts.Goals as goal

pub returns-clause-read : goal.returns-clause-read
returns-clause-read g c = search (rules, is_read)

pub returns-clause-refused : goal.returns-clause-refused
returns-clause-refused g c = search (rules, MatchResult-weaker, IsOutOfMemoryOr-weaker, isnt_read)

pub returns-clause-given : goal.returns-clause-given
returns-clause-given g c =
    IfOk-weaker c.read_matches.result _ _ (λ matches. FitOptions-read _ _ matches)
    (returns-clause-read g c)

pub returns-clause-trailing : goal.returns-clause-trailing
returns-clause-trailing g c =
    IfOk-weaker c.read_matches.result _ _ (λ matches. EndsInTrailing-read _ _ matches)
    (returns-clause-read g c)

pub returns-clause-counted : goal.returns-clause-counted
returns-clause-counted g c = search (rules, parse_result-counted)

pub returns-clause-same_error : goal.returns-clause-same_error
returns-clause-same_error g c = search (rules, MatchResult-weaker, IsOutOfMemoryOr-weaker, parse_result-unread)

pub returns-clause-accepted : goal.returns-clause-accepted
returns-clause-accepted g c =
    IfOk-weaker c.read_matches.result _ _ (λ matches has kept. Accepts-accepted _ c.read_matches.ensures.declared _
    matches (record { read = has; counts = kept })) (returns-clause-read g c)

pub returns-clause-declared : goal.returns-clause-declared
returns-clause-declared g c =
    IfOk-weaker c.read_matches.result _ _ (λ matches has kept. FitOptionsAndCounts-accepted _ _ matches
    (record { read = has; counts = kept })) (returns-clause-read g c)
