use Rattle.getopts_shell.proofs.Lines.{trimmed_is}
use Rattle.getopts_shell.proofs.table.trimmed.Goals as goal

pub returns : goal.returns
returns c = trimmed_is c.args.text.now c.trim_ascii.result.now c.trim_ascii.ensures.value
