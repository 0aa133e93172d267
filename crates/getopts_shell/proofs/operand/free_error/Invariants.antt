use Rattle.std.proofs.Common.{◌≡◌, ◌≤◌, drop, length, map, string_bytes}
use Rattle.getopts_shell.specs.Program.{operand_fault}
use Rattle.getopts_shell.specs.Stored.{operands_of}
use Rattle.getopts_shell.proofs.operand.free_error.Given as goal

-- the operands so far have their words, and the error is that of the operands from this place on
abbrev pub invariant-loop-at : goal.invariant-loop-at
invariant-loop-at l = (l.at ≤ length l.free)
    × (operand_fault (operands_of l.operands) (map string_bytes l.free)
    ≡ operand_fault (operands_of (drop l.at l.operands)) (drop l.at (map string_bytes l.free)))
