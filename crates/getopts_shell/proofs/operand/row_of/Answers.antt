use Rattle.std.proofs.Common.{◌++◌, ap, map, string_bytes, ◌∙◌}
use Rattle.getopts.specs.Usage.{next_row}
use Rattle.getopts.specs.Wrap.{joined}
use Rattle.getopts_shell.specs.Stored.{operand_of}
use Rattle.getopts_shell.proofs.Operands.{row_made}
use Rattle.getopts_shell.proofs.operand.row_of.Goals as goal

pub returns : goal.returns
returns c =
    let description = map string_bytes c.in_ok-description.description.items in
    row_made (operand_of c.args.operand) description (string_bytes c.push_joined.new.text)
    c.in_ok-description.ensures.rows
    (c.in_ok-push_joined.ensures
    ∙ ap (λ texts. string_bytes c.in_ok-text.text ++ joined next_row (map string_bytes texts))
    c.deref.ensures.value
    ∙ ap (λ head. head ++ joined next_row description) c.in_ok-text.ensures)
