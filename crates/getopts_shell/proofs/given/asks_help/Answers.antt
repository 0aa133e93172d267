use Rattle.std.proofs.Common.{rules}
use Rattle.getopts_shell.proofs.Lines.{list_any_map}
use Rattle.getopts_shell.proofs.given.asks_help.Goals as goal

pub returns-then-offers_help : goal.returns-then-offers_help
returns-then-offers_help c = search (rules, list_any_map)

pub returns-else-offers_help : goal.returns-else-offers_help
returns-else-offers_help c = search (rules, list_any_map)
