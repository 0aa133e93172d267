use Rattle.std.proofs.Common.{Some, ap, map, string_bytes, ◌∙◌, rules}
use Rattle.std.proofs.lemmas.Result.{IfOk-weaker}
use Rattle.getopts_shell.proofs.Plain.{ArePlainlyNamed, plain_rows}
use Rattle.getopts_shell.specs.Program.{done}
use Rattle.getopts_shell.specs.Variables.{line_code}
use Rattle.getopts_shell.proofs.Chosen.{at_err, at_ok}
use Rattle.getopts_shell.proofs.Line.{never_unwritable, tells_words}
use Rattle.getopts_shell.proofs.Written.{strings_are_texts}
use Rattle.getopts_shell.proofs.answer.line_answer.Goals as goal

pub unreachable-requires : goal.unreachable-requires
unreachable-requires c = search (rules, never_unwritable, string_bytes, ArePlainlyNamed, plain_rows)

pub returns-in_ok-line_code-in-Ok-Some : goal.returns-in_ok-line_code-in-Ok-Some
returns-in_ok-line_code-in-Ok-Some c =
    let line = map string_bytes c.in-Ok-Some.line.items in
    let tells = tells_words c.args.script.options.now (map string_bytes c.args.words.now) line
    (strings_are_texts c.in-Ok-Some.line.items) c.names_resolve.ensures.empty
    c.in-Ok-Some.ensures.laws
    (rw c.in-Ok-Some.field-0-is at c.in-Ok-Some.ensures.written) in
    at_ok _ _ (Some line)
    (rw (c.in-Ok-Some.field-0-is, c.args.script.options_are) at c.in-Ok-Some.ensures.result) (
      rw c.args.script.options_are at tells,
      c.done.ensures ∙ ap done (c.in_ok-line_code-in-Ok-Some.ensures
          ∙ ap (λ items. line_code (map string_bytes items)) c.deref.ensures.value),
    )

pub returns-in-Err : goal.returns-in-Err
returns-in-Err c = search (rules, IfOk-weaker, at_err)
