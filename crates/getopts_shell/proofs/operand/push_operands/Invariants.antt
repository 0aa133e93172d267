use Rattle.std.proofs.Common.{◌≡◌, ◌++◌, codes, map, string_bytes, take}
use Rattle.std.specs.Prelude.{◌||◌, nat_lt}
use Rattle.getopts_shell.specs.Program.{continued}
use Rattle.getopts_shell.specs.Stored.{operands_of}
use Rattle.getopts_shell.proofs.operand.push_operands.Given as goal

-- the operands so far were appended
abbrev pub invariant-loop-operand : goal.invariant-loop-operand
invariant-loop-operand l = (l.parted ≡ (l.begun || nat_lt 0 l.operand-index))
    × (string_bytes l.text ≡ string_bytes l.initial.text ++ continued l.begun (codes " ")
    (map (λ operand. operand.item) (operands_of (take l.operand-index l.operands))))
