use Rattle.std.proofs.Common.{ap, map, string_bytes, sym, ◌∙◌}
use Rattle.std.specs.Option.{option_map}
use Rattle.std.proofs.lemmas.Result.{IfOk-weaker}
use Rattle.getopts.specs.Matches.{Matched}
use Rattle.getopts_shell.specs.Program.{free_fault}
use Rattle.getopts_shell.specs.Stored.{operand_fault_told, operands_of}
use Rattle.getopts_shell.proofs.Chosen.{at_none, at_ok, at_some}
use Rattle.getopts_shell.proofs.answer.parsed_answer.Goals as goal

pub returns-in-Some : goal.returns-in-Some
returns-in-Some c =
    let fault = free_fault (operands_of c.args.script.table.now.operands.items) in
    let free_is = ap (λ (matches : Matched). fault matches.free) (sym c.matches.view_is)
    ∙ ap (λ free. fault (map string_bytes free)) (sym c.deref-2.ensures.value)
    ∙ ap (λ operands. free_fault (operands_of operands) (map string_bytes c.deref-2.result.now))
    (sym c.deref.ensures.value) in
    IfOk-weaker c.operand_refusal.result _ _
    (λ outcome is. at_ok _ _ c.args.matches.now c.requires (at_some _ _ _
    (free_is ∙ sym c.free_error.ensures ∙ ap (option_map operand_fault_told) c.in-Some.is) is))
    c.operand_refusal.ensures

pub returns-in-None : goal.returns-in-None
returns-in-None c =
    let fault = free_fault (operands_of c.args.script.table.now.operands.items) in
    let free_is = ap (λ (matches : Matched). fault matches.free) (sym c.matches.view_is)
    ∙ ap (λ free. fault (map string_bytes free)) (sym c.deref-2.ensures.value)
    ∙ ap (λ operands. free_fault (operands_of operands) (map string_bytes c.deref-2.result.now))
    (sym c.deref.ensures.value) in
    IfOk-weaker c.accepted_answer.result _ _
    (λ outcome is. at_ok _ _ c.args.matches.now c.requires (at_none _ _
    (free_is ∙ sym c.free_error.ensures ∙ ap (option_map operand_fault_told) c.in-None.is) is))
    c.accepted_answer.ensures
