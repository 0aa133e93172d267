use Rattle.std.proofs.Common.{string_bytes, rules}
use Rattle.std.proofs.lemmas.Result.{IfOk-weaker}
use Rattle.std.proofs.lemmas.Str.{IsUtf8-string_bytes}
use Rattle.getopts_shell.proofs.answer.alone_line.Goals as goal

pub returns-clause-text : goal.returns-clause-text
returns-clause-text c = search (rules, IfOk-weaker, string_bytes)

pub returns-clause-words : goal.returns-clause-words
returns-clause-words c = search (rules, IsUtf8-string_bytes c.in_ok-word.word, IsUtf8-string_bytes c.in_ok-stop.stop)
