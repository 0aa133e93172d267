use Rattle.getopts_shell.proofs.Lines.{list_any_map}
use Rattle.getopts_shell.proofs.table.any_has_name.Goals as goal
use Rattle.std.proofs.Common.{rules}

pub returns-then-not-is_empty : goal.returns-then-not-is_empty
returns-then-not-is_empty c = search (rules, list_any_map)
