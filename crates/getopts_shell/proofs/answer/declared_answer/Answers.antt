use Rattle.std.proofs.Common.{string_bytes, rules}
use Rattle.std.proofs.lemmas.Result.{IfOk-weaker}
use Rattle.getopts_shell.proofs.Chosen.{at_some}
use Rattle.getopts_shell.proofs.answer.declared_answer.Goals as goal

pub returns-in-Some : goal.returns-in-Some
returns-in-Some c = search (rules, IfOk-weaker, at_some, string_bytes)
