use Rattle.std.proofs.lemmas.Result.{IfOk-weaker}
use Rattle.getopts_shell.proofs.Chosen.{at_err}
use Rattle.getopts_shell.proofs.answer.rejected_answer.Goals as goal
use Rattle.std.proofs.Common.{rules}

pub returns-in-Err : goal.returns-in-Err
returns-in-Err c = search (rules, IfOk-weaker, at_err)
