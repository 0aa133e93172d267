use Rattle.getopts_shell.proofs.QuotedBytes.{words_given}
use Rattle.getopts_shell.proofs.Quoting.{words_same, words_only}
use Rattle.getopts_shell.proofs.quote.words_come_back.Goals as goal

pub returns-clause-same : goal.returns-clause-same
returns-clause-same c = words_same

pub returns-clause-only : goal.returns-clause-only
returns-clause-only c = words_only

pub returns-clause-bytes : goal.returns-clause-bytes
returns-clause-bytes c = words_given
