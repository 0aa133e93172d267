-- The collected words are those of the iterator.
use Rattle.std.proofs.Common.{◌∙◌}
use Rattle.std.proofs.lemmas.Result.{IfOk-weaker, IfErr-weaker, MatchResult-weaker}
use Rattle.std.proofs.lemmas.Option.{IfSome_then}
use Rattle.getopts.proofs.Errors.{IfNone-weaker, IsOutOfMemoryOr-weaker}
use Rattle.getopts.proofs.options.Options.canonical.Goals as goal

pub returns-clause-written : goal.returns-clause-written
returns-clause-written g c =
    let run = c.in_ok-words.ensures in
    IfOk-weaker c.canonical_words.result _ _
    (λ returned given. IfSome_then returned given (λ line is. (run.0, run.1, run.2, is)))
    (rw (c.deref.ensures.value ∙ run.3) at c.canonical_words.ensures.written)

pub returns-clause-unwritable : goal.returns-clause-unwritable
returns-clause-unwritable g c =
    let run = c.in_ok-words.ensures in
    IfOk-weaker c.canonical_words.result _ _
    (λ returned. IfNone-weaker returned _ _ (λ is. (run.0, run.1, run.2, is)))
    (rw (c.deref.ensures.value ∙ run.3) at c.canonical_words.ensures.unwritable)

pub returns-clause-refused : goal.returns-clause-refused
returns-clause-refused g c =
    let run = c.in_ok-words.ensures in
    IfErr-weaker c.canonical_words.result _ _
    (λ fail told. IsOutOfMemoryOr-weaker fail _ _ told (λ fault is. (run.0, run.1, run.2, is)))
    (rw (c.deref.ensures.value ∙ run.3) at c.canonical_words.ensures.refused)

pub returns-clause-result : goal.returns-clause-result
returns-clause-result g c =
    let run = c.in_ok-words.ensures in
    MatchResult-weaker c.canonical_words.result
    (rw (c.deref.ensures.value ∙ run.3) at c.canonical_words.ensures.result)
    (λ value is. (run.0, run.1, run.2, is))
    (λ fail told. IsOutOfMemoryOr-weaker fail _ _ told (λ fault is. (run.0, run.1, run.2, is)))
