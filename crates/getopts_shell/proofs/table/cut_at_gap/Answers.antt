use Rattle.std.proofs.Common.{rules}
use Rattle.getopts_shell.proofs.Lines.{no_gap}
use Rattle.getopts_shell.proofs.table.cut_at_gap.Goals as goal

pub loop-at-preserved : goal.loop-at-preserved
loop-at-preserved c = search (rules, no_gap)
