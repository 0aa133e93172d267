use Rattle.std.proofs.Common.{ℕ, ◌++◌, ◌∙◌, Bool, ap, sym}
use Rattle.std.specs.Prelude.{codes, if◌then◌else◌}
use Rattle.std.proofs.lemmas.Result.{IfOk-weaker}
use Rattle.getopts.specs.Names.{Text}
use Rattle.getopts_shell.specs.Program.{of_line}
use Rattle.getopts_shell.proofs.message.late_operand_line.Goals as goal

-- the line, by whether the earlier operand has dots
abbrev line : ℕ → Text → Text → Bool → Text
line number item earlier dots = of_line number (item
    ++ (if dots then codes ": no operand may follow '" ++ (earlier ++ codes "', which has dots")
    else codes ": no required operand may follow '" ++ (earlier
    ++ codes "', which is optional")))

pub returns-then-may_repeat : goal.returns-then-may_repeat
returns-then-may_repeat c =
    IfOk-weaker c.format.result _ _
    (λ text is. is ∙ ap (line c.args.number c.args.operand.item.now c.args.earlier.item.now)
    (sym (sym c.may_repeat.ensures ∙ c.if-may_repeat.true)))
    c.format.ensures.ok

pub returns-else-may_repeat : goal.returns-else-may_repeat
returns-else-may_repeat c =
    IfOk-weaker c.format-else-may_repeat.result _ _
    (λ text is. is ∙ ap (line c.args.number c.args.operand.item.now c.args.earlier.item.now)
    (sym (sym c.may_repeat.ensures ∙ c.if-may_repeat.false)))
    c.format-else-may_repeat.ensures.ok
