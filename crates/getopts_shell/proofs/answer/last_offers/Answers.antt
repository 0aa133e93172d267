use Rattle.std.proofs.Common.{◌≡◌, ◌-◌, arith, length, map, refl, string_bytes, subst}
use Rattle.std.specs.Prelude.{IfOk, take}
use Rattle.std.proofs.lemmas.Result.{IfOk-weaker}
use Rattle.getopts.specs.Options.{Declared}
use Rattle.getopts_shell.specs.Completion.{offer}
use Rattle.getopts_shell.specs.Program.{last_word}
use Rattle.getopts_shell.specs.Stored.{entries_of}
use Rattle.getopts_shell.proofs.Offers.{at_last}
use Rattle.getopts_shell.proofs.answer.last_offers.Goals as goal

pub returns : goal.returns
returns c =
    let words = map string_bytes c.args.words.now in
    let entries = entries_of c.args.script.table.now.rows.items in
    subst (λ (options : Declared). IfOk c.offers-2.result (λ text. string_bytes text
    ≡ offer options entries (take (length words - 1) words) (last_word words)))
    c.args.script.options_are
    (IfOk-weaker c.offers-2.result _ _
    (λ text is. at_last c.args.script.options.now entries c.args.words.now _
    c.index-words-count.result _ (length c.args.words.now - 1) _ (string_bytes text)
    (omega (arith, c.if-count-eq0.false)) refl refl c.index-words-count.is c.as_str.ensures.value
    (rw c.deref-2.ensures.value at is))
    c.offers-2.ensures)
