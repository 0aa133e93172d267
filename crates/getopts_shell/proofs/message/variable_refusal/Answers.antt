use Rattle.std.proofs.Common.{◌∙◌, ap, sym}
use Rattle.std.proofs.lemmas.Result.{IfOk-weaker}
use Rattle.getopts_shell.specs.Program.{variable_fault_line}
use Rattle.getopts_shell.specs.Stored.{variable_fault_told}
use Rattle.getopts_shell.proofs.message.variable_refusal.Goals as goal

pub returns-in-NoVariable : goal.returns-in-NoVariable
returns-in-NoVariable c =
    IfOk-weaker c.format-in-NoVariable.result _ _
    (λ text is. is ∙ sym (ap (λ error. variable_fault_line (variable_fault_told error))
    c.in-NoVariable.is))
    c.format-in-NoVariable.ensures.ok

pub returns-in-ShellVariable : goal.returns-in-ShellVariable
returns-in-ShellVariable c =
    IfOk-weaker c.format-in-ShellVariable.result _ _
    (λ text is. is ∙ sym (ap (λ error. variable_fault_line (variable_fault_told error))
    c.in-ShellVariable.is))
    c.format-in-ShellVariable.ensures.ok

pub returns-in-VariableTwice : goal.returns-in-VariableTwice
returns-in-VariableTwice c =
    IfOk-weaker c.format-in-VariableTwice.result _ _
    (λ text is. is ∙ sym (ap (λ error. variable_fault_line (variable_fault_told error))
    c.in-VariableTwice.is))
    c.format-in-VariableTwice.ensures.ok
