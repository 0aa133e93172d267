use Rattle.getopts_shell.proofs.OneAnswer.{one_answer}
use Rattle.getopts_shell.proofs.laws.words_have_one_answer.Goals as goal

pub returns : goal.returns
returns c = record { one_answer = one_answer }
