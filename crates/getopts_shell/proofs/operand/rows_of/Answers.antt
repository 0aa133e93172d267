use Rattle.std.proofs.Common.{◌∷◌, [], arith, get_or, map, string_bytes, take}
use Rattle.std.proofs.lemmas.List.{map-append, take_all, take_more}
use Rattle.getopts.proofs.Only.{each_is_the_only}
use Rattle.getopts_shell.specs.Program.{IsOperandRow}
use Rattle.getopts_shell.specs.Stored.{operand_of, operands_of}
use Rattle.getopts_shell.proofs.Operands.{no_operand, rows_push}
use Rattle.getopts_shell.proofs.operand.rows_of.Goals as goal

pub loop-operand-preserved : goal.loop-operand-preserved
loop-operand-preserved c =
    let operands = c.args.operands.now in
    let at = c.loop-operand.operand-index in
    let operand = get_or operands at no_operand in
    rw (
      c.in_ok-push.ensures.items,
      map-append string_bytes c.loop-operand.rows.items
          (c.in_ok-row.row ∷ []),
      take_more operands at no_operand c.loop-operand-test.true,
      map-append operand_of (take at operands) (operand ∷ []),
    )
    (rows_push (operands_of (take at operands)) (map string_bytes c.loop-operand.rows.items)
    (operand_of operand) (string_bytes c.in_ok-row.row) c.loop-operand.invariant
    c.in_ok-row.ensures)

pub returns : goal.returns
returns c =
    each_is_the_only IsOperandRow (operands_of c.args.operands.now) _
    (rw (take_all c.loop-operand.operand-index c.args.operands.now
    (omega (arith, c.loop-operand-test.false))) at c.loop-operand.invariant)
