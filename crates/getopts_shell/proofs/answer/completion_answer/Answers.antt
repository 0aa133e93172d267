use Rattle.std.proofs.Common.{string_bytes, rules}
use Rattle.std.proofs.lemmas.Result.{IfOk-weaker}
use Rattle.getopts_shell.proofs.answer.completion_answer.Goals as goal

pub returns-in-Some : goal.returns-in-Some
returns-in-Some c = search (rules, string_bytes)

pub returns-in-None : goal.returns-in-None
returns-in-None c = search (rules, IfOk-weaker, string_bytes)
