use Rattle.std.proofs.Common.{◌≡◌, drop}
use Rattle.getopts_shell.specs.Stored.{operand_of, operands_of}
use Rattle.getopts_shell.specs.Table.{conflicting_operand}
use Rattle.getopts_shell.proofs.operand.conflicting_operand.Given as goal

-- what is found among all operands is found from this place on
abbrev pub invariant-loop-at : goal.invariant-loop-at
invariant-loop-at l =
    conflicting_operand (operands_of l.before) (operand_of l.operand)
    ≡ conflicting_operand (operands_of (drop l.at l.before)) (operand_of l.operand)
