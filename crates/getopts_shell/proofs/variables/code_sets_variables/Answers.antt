use Rattle.getopts_shell.proofs.Written.{code_sets}
use Rattle.getopts_shell.proofs.variables.code_sets_variables.Goals as goal

pub returns : goal.returns
returns c = record { sets_variables = code_sets }
