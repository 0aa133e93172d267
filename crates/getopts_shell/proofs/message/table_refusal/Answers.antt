use Rattle.std.proofs.Common.{◌≡◌, ◌++◌, ◌∙◌, ap, string_bytes}
use Rattle.std.specs.Prelude.{codes, decimal}
use Rattle.getopts.specs.Names.{Text}
use Rattle.std.proofs.lemmas.Result.{IfOk-weaker}
use Rattle.getopts_shell.specs.Stored.{fault_told, operand_of}
use Rattle.getopts_shell.specs.Table.{late_operand, name_twice, no_option}
use Rattle.getopts_shell.proofs.message.table_refusal.Goals as goal

pub returns-in-NoOption : goal.returns-in-NoOption
returns-in-NoOption c =
    IfOk-weaker c.format.result _ _
    (λ text is.
    let line = λ (reason : Text). codes "getopts_shell: line " ++ (decimal c.in-NoOption.number
    ++ (codes " of the table: " ++ (c.in-NoOption.item.now
    ++ (codes ": " ++ reason)))) in
    let text_is : string_bytes text ≡ line c.reason_of-reason.result.now = is in (
      no_option c.in-NoOption.number c.in-NoOption.item.now,
      ap fault_told c.in-NoOption.is,
      text_is ∙ ap line c.reason_of-reason.ensures,
    ))
    c.format.ensures.ok

pub returns-in-NameTwice : goal.returns-in-NameTwice
returns-in-NameTwice c =
    IfOk-weaker c.format-in-NameTwice.result _ _
    (λ text is. (
      name_twice c.in-NameTwice.number c.in-NameTwice.name.now,
      ap fault_told c.in-NameTwice.is,
      is,
    ))
    c.format-in-NameTwice.ensures.ok

pub returns-in-LateOperand : goal.returns-in-LateOperand
returns-in-LateOperand c =
    IfOk-weaker c.late_operand_line.result _ _
    (λ text is. (
      late_operand c.in-LateOperand.number (operand_of c.in-LateOperand.operand)
          (operand_of c.in-LateOperand.earlier),
      ap fault_told c.in-LateOperand.is,
      is,
    ))
    c.late_operand_line.ensures
