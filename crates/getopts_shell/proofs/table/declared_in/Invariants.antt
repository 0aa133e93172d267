use Rattle.std.proofs.Common.{◌≡◌, map}
use Rattle.getopts_shell.specs.Stored.{entries_of, operands_of}
use Rattle.getopts_shell.specs.Table.{operands_among}
use Rattle.getopts_shell.proofs.Lines.{LinesSoFar}
use Rattle.getopts_shell.proofs.table.declared_in.Given as goal

-- what the lines so far declare
abbrev pub invariant-loop-line : goal.invariant-loop-line
invariant-loop-line l = LinesSoFar (map (λ line. line.now) l.yielded) l.number
    (entries_of l.table.rows.items)
    × (operands_of l.table.operands.items ≡ operands_among (map (λ line. line.now) l.yielded))
