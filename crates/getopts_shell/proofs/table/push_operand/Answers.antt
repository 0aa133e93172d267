use Rattle.std.proofs.Common.{rules}
use Rattle.getopts_shell.proofs.table.push_operand.Goals as goal

pub returns-in-Some-clause-fault : goal.returns-in-Some-clause-fault
returns-in-Some-clause-fault c = search rules

pub returns-in-Ok-clause-in_order : goal.returns-in-Ok-clause-in_order
returns-in-Ok-clause-in_order c = search rules
