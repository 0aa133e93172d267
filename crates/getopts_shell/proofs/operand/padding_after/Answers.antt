use Rattle.std.proofs.Common.{◌≡◌, true, ap, arith, length, ◌∙◌, sym}
use Rattle.std.specs.Prelude.{if◌then◌else◌, nat_lt, ◌-◌}
use Rattle.std.proofs.lemmas.Bool.Decides.{nat_tests}
use Rattle.getopts.specs.Usage.{next_row, spaces}
use Rattle.getopts_shell.proofs.Operands.{padding_short}
use Rattle.getopts_shell.proofs.operand.padding_after.Goals as goal

pub returns-then-columns-lt-COLUMNS : goal.returns-then-columns-lt-COLUMNS
returns-then-columns-lt-COLUMNS c =
    let columns = length c.args.item.now in
    let test : nat_lt columns 20 ≡ true = grind (arith, nat_tests, c.if-columns-lt-COLUMNS.true) in
    c.range_from.ensures.value ∙ padding_short columns c.if-columns-lt-COLUMNS.true
    ∙ ap (λ b. if b then spaces (20 - columns) else next_row) (sym test)
