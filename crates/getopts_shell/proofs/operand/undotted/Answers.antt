use Rattle.std.proofs.Common.{lit<, rules}
use Rattle.std.proofs.lemmas.List.{take_all}
use Rattle.std.proofs.lemmas.Str.Pattern.{split_once_first}
use Rattle.getopts_shell.proofs.operand.undotted.Goals as goal

pub returns-in-Some : goal.returns-in-Some
returns-in-Some c = search (rules, split_once_first, lit<)

pub returns-in-None : goal.returns-in-None
returns-in-None c = search (rules, split_once_first, lit<, take_all)
