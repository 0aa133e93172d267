use Rattle.std.proofs.Common.{append_assoc}
use Rattle.getopts_shell.proofs.Assignments.{name_written}
use Rattle.getopts_shell.proofs.variables.push_variable.Goals as goal

pub returns : goal.returns
returns c = simp (c.in_ok-push_replaced.ensures, c.in_ok-push_str.ensures.bytes, name_written, append_assoc)
