use Rattle.std.proofs.Common.{ap, map, string_bytes, subst, ◌∙◌}
use Rattle.std.proofs.lemmas.Result.{IfOk-weaker}
use Rattle.getopts.specs.Names.{Text}
use Rattle.getopts.specs.Only.{IsTheOnly}
use Rattle.getopts.specs.Options.{Declared}
use Rattle.getopts.specs.Usage.{IsUsageText}
use Rattle.getopts_shell.specs.Program.{brief_text, help_front}
use Rattle.getopts_shell.specs.StoredScript.{script_of}
use Rattle.getopts_shell.proofs.answer.help_of.Goals as goal

pub returns : goal.returns
returns c =
    let script = script_of c.args.script in
    let rows = map string_bytes c.in_ok-rows.rows.items in
    let front = c.as_str.ensures.value ∙ c.in_ok-front.ensures
    ∙ ap (λ rows. help_front (string_bytes c.in_ok-brief.brief) (map string_bytes rows))
    c.deref-2.ensures.value
    ∙ ap (λ (brief : Text). help_front brief rows) c.in_ok-brief.ensures in
    IfOk-weaker c.usage.result _ _
    (λ help only. (
      rows,
      rw c.deref.ensures.value at c.in_ok-rows.ensures,
      subst (λ (shown : Declared). IsTheOnly (IsUsageText shown (help_front (brief_text script)
          rows)) (string_bytes help)) c.in_ok-shown.ensures
          (subst (λ (text : Text). IsTheOnly (IsUsageText c.in_ok-shown.shown text)
          (string_bytes help)) front only),
    )) c.usage.ensures.text
