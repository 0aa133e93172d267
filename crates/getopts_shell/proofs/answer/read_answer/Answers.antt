use Rattle.std.proofs.Common.{ap, sym, ◌∙◌}
use Rattle.getopts_shell.specs.Program.{done}
use Rattle.getopts_shell.proofs.Chosen.{at_true}
use Rattle.getopts_shell.proofs.Written.{one_word}
use Rattle.getopts_shell.proofs.answer.read_answer.Goals as goal

pub returns-then-asks_help : goal.returns-then-asks_help
returns-then-asks_help c =
    let code = c.in_ok-help_code.ensures in
    at_true _ _ (rw c.deref.ensures.value at (sym c.asks_help.ensures ∙ c.if-asks_help.true))
    (code.0, code.1, one_word code.0 code.2, c.done.ensures ∙ ap done code.3)
