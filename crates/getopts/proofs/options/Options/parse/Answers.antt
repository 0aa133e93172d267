-- The collected words are those of the iterator.
use Rattle.std.proofs.Common.{◌∙◌}
use Rattle.std.proofs.lemmas.Result.{IfOk-weaker, IfErr-weaker, MatchResult-weaker}
use Rattle.getopts.proofs.Errors.{IsOutOfMemoryOr-weaker}
use Rattle.getopts.proofs.options.Options.parse.Goals as goal

pub returns-clause-accepted : goal.returns-clause-accepted
returns-clause-accepted g c =
    let run = c.in_ok-words.ensures in
    IfOk-weaker c.parse_words.result _ _ (λ matches is. (run.0, run.1, run.2, is))
    (rw (c.deref.ensures.value ∙ run.3) at c.parse_words.ensures.accepted)

pub returns-clause-refused : goal.returns-clause-refused
returns-clause-refused g c =
    let run = c.in_ok-words.ensures in
    IfErr-weaker c.parse_words.result _ _
    (λ fail told. IsOutOfMemoryOr-weaker fail _ _ told (λ fault is. (run.0, run.1, run.2, is)))
    (rw (c.deref.ensures.value ∙ run.3) at c.parse_words.ensures.refused)

pub returns-clause-result : goal.returns-clause-result
returns-clause-result g c =
    let run = c.in_ok-words.ensures in
    MatchResult-weaker c.parse_words.result
    (rw (c.deref.ensures.value ∙ run.3) at c.parse_words.ensures.result)
    (λ value is. (run.0, run.1, run.2, is))
    (λ fail told. IsOutOfMemoryOr-weaker fail _ _ told (λ fault is. (run.0, run.1, run.2, is)))
