use Rattle.std.proofs.Common.{◌∷◌, Some, None, ap, lit<, refl, sym, ◌∙◌}
use Rattle.std.proofs.lemmas.Str.Pattern.{strip_prefix_char}
use Rattle.getopts.specs.Names.{Text}
use Rattle.getopts_shell.specs.Table.{bare, bracketed}
use Rattle.getopts_shell.proofs.Items.{no_bracket, none_closed, none_meant}
use Rattle.getopts_shell.proofs.item.unbracketed.Goals as goal

pub returns-in_default : goal.returns-in_default
returns-in_default c =
    let none = strip_prefix_char 91 c.args.text.now None c.in_default.ensures.cases (lit< tt) in
    bare refl (no_bracket c.args.text.now none)

pub returns-in_err-inside : goal.returns-in_err-inside
returns-in_err-inside c =
    rw c.from_residual.ensures (none_closed c.args.text.now c.in-Some.opened.now
    (strip_prefix_char 91 c.args.text.now (Some c.in-Some.opened) c.in-Some.ensures.cases (lit< tt))
    c.in_err-inside.ensures)

pub returns-in_err-frequency : goal.returns-in_err-frequency
returns-in_err-frequency c =
    rw c.from_residual-in_err-frequency.ensures (none_meant c.args.text.now c.in-Some.opened.now
    c.in_ok-inside.inside.now c.in_ok-inside.end.now
    (strip_prefix_char 91 c.args.text.now (Some c.in-Some.opened) c.in-Some.ensures.cases (lit< tt))
    c.in_ok-inside.ensures.0 c.in_ok-inside.ensures.1 (sym c.in_err-frequency.ensures))

pub returns : goal.returns
returns c =
    bracketed c.in_ok-inside.end.now _
    (strip_prefix_char 91 c.args.text.now (Some c.in-Some.opened) c.in-Some.ensures.cases (lit< tt)
    ∙ ap (λ (t : Text). 91 ∷ t) c.in_ok-inside.ensures.0)
    (sym c.in_ok-frequency.ensures)
