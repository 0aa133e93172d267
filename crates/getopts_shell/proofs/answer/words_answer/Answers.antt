use Rattle.std.proofs.Common.{map, string_bytes}
use Rattle.std.proofs.lemmas.Result.{IfOk-weaker}
use Rattle.getopts_shell.specs.Program.{read_options}
use Rattle.getopts_shell.specs.StoredScript.{script_of}
use Rattle.getopts_shell.proofs.Asked.{read_of_parsed}
use Rattle.getopts_shell.proofs.Chosen.{at_ok}
use Rattle.getopts_shell.proofs.answer.words_answer.Goals as goal

pub returns-in-Ok : goal.returns-in-Ok
returns-in-Ok c =
    IfOk-weaker c.read_answer.result _ _
    (λ outcome is. at_ok _ _ _ (read_of_parsed (read_options (script_of c.args.script))
    (map string_bytes c.args.words.now) _
    (rw c.args.script.options_are at c.in-Ok.ensures.result)) is)
    c.read_answer.ensures
