use Rattle.getopts_shell.proofs.Chosen.{at_true}
use Rattle.getopts_shell.proofs.answer.script_answer.Goals as goal

pub returns-then-script : goal.returns-then-script
returns-then-script c = at_true _ _ c.if-script.true (_, c.in_ok-help_of.ensures, c.done.ensures)
