use Rattle.getopts_shell.proofs.Items.{last_close}
use Rattle.getopts_shell.proofs.item.cut_at_bracket.Goals as goal

pub returns : goal.returns
returns c = last_close c.args.text.now c.rsplit_once.result c.rsplit_once.ensures.cases
