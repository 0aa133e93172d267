use Rattle.getopts_shell.proofs.Only.{one_table}
use Rattle.getopts_shell.proofs.table.one_table_one_list.Goals as goal

pub returns : goal.returns
returns c = record { one_list = one_table }
