use Rattle.std.proofs.Common.{◌<◌, ◌++◌, ap, append_assoc, arith, codes, length, map, string_bytes, sym, ◌∙◌, rules}
use Rattle.std.proofs.lemmas.Bool.Decides.{nat_tests}
use Rattle.std.proofs.lemmas.List.{length-map}
use Rattle.getopts.specs.Wrap.{joined}
use Rattle.getopts_shell.proofs.Operands.{front_with, front_without}
use Rattle.getopts_shell.proofs.answer.help_front.Goals as goal

pub returns-then-is_empty : goal.returns-then-is_empty
returns-then-is_empty c = search (rules, front_without, string_bytes, length-map)

pub returns : goal.returns
returns c =
    let rows = map string_bytes c.args.rows.now in
    let some : 0 < length c.args.rows.now =
    grind (arith, nat_tests, c.is_empty.ensures, c.if-is_empty.false) in
    c.in_ok-push_joined.ensures
    ∙ ap (λ text. text ++ joined (codes "\n") rows) c.in_ok-push_str.ensures.bytes
    ∙ append_assoc (string_bytes c.args.brief) (codes "\n\nArguments:\n")
    (joined (codes "\n") rows)
    ∙ sym (front_with (string_bytes c.args.brief) rows
    (omega (arith, some, length-map c.args.rows.now string_bytes)))
