use Rattle.std.proofs.Common.{ap, ◌∙◌}
use Rattle.std.proofs.lemmas.Result.{IfOk-weaker}
use Rattle.getopts_shell.specs.Program.{misused}
use Rattle.getopts_shell.proofs.Chosen.{at_err, at_ok}
use Rattle.getopts_shell.proofs.answer.answer_to.Goals as goal

pub returns-in-Ok : goal.returns-in-Ok
returns-in-Ok c =
    IfOk-weaker c.own_answer.result _ _
    (λ outcome is. at_ok _ _ _ (rw c.in_ok-options.ensures at c.in-Ok.ensures.result) is)
    c.own_answer.ensures

pub returns : goal.returns
returns c =
    let said = c.in_ok-fault_line-in-Err.ensures in
    IfOk-weaker c.misused.result _ _
    (λ outcome is. at_err _ _ said.0 (rw c.in_ok-options.ensures at (rw said.1 at c.in-Err.ensures.result))
    (is ∙ ap misused said.2))
    c.misused.ensures
