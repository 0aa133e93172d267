use Rattle.std.proofs.Common.{◌++◌, ap, append_assoc, codes, string_bytes, subst, ◌∙◌}
use Rattle.std.specs.Str.{IsUtf8}
use Rattle.getopts_shell.specs.Quote.{quoted}
use Rattle.getopts_shell.proofs.answer.help_code.Goals as goal

pub returns : goal.returns
returns c =
    let help = string_bytes c.in_ok-help.help in
    let behind = codes "; \\exit\n" in (
      help,
      c.in_ok-help.ensures,
      subst IsUtf8 c.as_str.ensures.value c.as_str.utf8,
      c.in_ok-push_str.ensures.bytes
          ∙ ap (λ text. text ++ behind) (c.in_ok-push_quoted.ensures
          ∙ ap (λ word. string_bytes c.in_ok-text.text ++ quoted word) c.as_str.ensures.value
          ∙ ap (λ text. text ++ quoted help) c.in_ok-text.ensures.ok)
          ∙ append_assoc (codes "\\printf %s ") (quoted help) behind,
    )
