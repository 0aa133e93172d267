use Rattle.std.proofs.Common.{rules}
use Rattle.getopts_shell.proofs.Lines.{no_blank}
use Rattle.getopts_shell.proofs.table.has_gap.Goals as goal

pub returns-else-is_blank-clause-is : goal.returns-else-is_blank-clause-is
returns-else-is_blank-clause-is c = search (rules, no_blank)
