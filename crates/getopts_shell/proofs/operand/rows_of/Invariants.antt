use Rattle.std.proofs.Common.{map, string_bytes, take}
use Rattle.getopts_shell.specs.Stored.{operands_of}
use Rattle.getopts_shell.proofs.Operands.{AreOnlyRows}
use Rattle.getopts_shell.proofs.operand.rows_of.Given as goal

-- the rows of the operands so far
abbrev pub invariant-loop-operand : goal.invariant-loop-operand
invariant-loop-operand l =
    AreOnlyRows (operands_of (take l.operand-index l.operands)) (map string_bytes l.rows.items)
