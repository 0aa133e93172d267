use Rattle.std.proofs.Common.{◌∙◌, rules}
use Rattle.getopts.proofs.usage.Rows.{next_row_cut, padding_narrow}
use Rattle.getopts.proofs.row.padding_after.Goals as goal

-- the padding ends the next row
pub returns-then-columns-lt-MARGIN : goal.returns-then-columns-lt-MARGIN
returns-then-columns-lt-MARGIN c = c.range_from.ensures.value
    ∙ padding_narrow c.args.head.now _ (search rules) c.if-columns-lt-MARGIN.true

-- the cut is at a character
pub range_from-requires : goal.range_from-requires
range_from-requires c = λ past. next_row_cut _ c.if-columns-lt-MARGIN.true
