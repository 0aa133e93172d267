-- The order of the accepted words gives their canonical line.
use Rattle.std.proofs.Common.{◌∙◌, sym, refl, Ok, Some, None, rules}
use Rattle.getopts.proofs.MainTheorem.SameContent.{LinesReadAgain_lem}
use Rattle.getopts.proofs.MainTheorem.Results.{HasResults-declared}
use Rattle.getopts.proofs.canon.OneResult.{KeepsLineLaws-lawful}
use Rattle.getopts.proofs.parse.Made.{canonical_result-order}
use Rattle.getopts.proofs.options.Options.canonical_words.Goals as goal

pub returns-then-are_plain-clause-result : goal.returns-then-are_plain-clause-result
returns-then-are_plain-clause-result g c =
    canonical_result-order _ _ _ c.in_ok-order.ensures.result
    ∙ rw (
      c.in_ok-canonical_line.ensures,
      c.deref-then-are_plain.ensures.value,
      ← c.deref.ensures.value,
      ← c.groups-groups.ensures,
      ← c.are_plain.ensures,
      c.if-are_plain.true,
    ) refl

pub returns-clause-result : goal.returns-clause-result
returns-clause-result g c =
    canonical_result-order _ _ _ c.in_ok-order.ensures.result
    ∙ rw (
      ← c.deref.ensures.value,
      ← c.groups-groups.ensures,
      ← c.are_plain.ensures,
      c.if-are_plain.false,
    ) refl

pub returns-then-are_plain-clause-written : goal.returns-then-are_plain-clause-written
returns-then-are_plain-clause-written g c =
    ((HasResults-declared _ c.names_resolve.ensures.declared _ c.words_are_texts.ensures.texts).canonical (Ok (Some _))).1
    (sym (returns-then-are_plain-clause-result g c))

pub returns-clause-unwritable : goal.returns-clause-unwritable
returns-clause-unwritable g c =
    ((HasResults-declared _ c.names_resolve.ensures.declared _ c.words_are_texts.ensures.texts).canonical (Ok None)).1
    (sym (returns-clause-result g c))

pub returns-then-are_plain-clause-laws : goal.returns-then-are_plain-clause-laws
returns-then-are_plain-clause-laws g c = KeepsLineLaws-lawful _ c.names_resolve.ensures.declared

pub returns-clause-laws : goal.returns-clause-laws
returns-clause-laws g c = KeepsLineLaws-lawful _ c.names_resolve.ensures.declared

pub returns-then-are_plain-clause-read_again : goal.returns-then-are_plain-clause-read_again
returns-then-are_plain-clause-read_again g c = search (rules, LinesReadAgain_lem, returns-then-are_plain-clause-laws)

pub returns-clause-read_again : goal.returns-clause-read_again
returns-clause-read_again g c = search (rules, LinesReadAgain_lem, returns-clause-laws)
