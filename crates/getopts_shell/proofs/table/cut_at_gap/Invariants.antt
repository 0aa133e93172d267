use Rattle.std.proofs.Common.{◌≡◌, ◌++◌, take, drop}
use Rattle.getopts_shell.specs.Table.{before_gap, from_gap, front_after, gap_after}
use Rattle.getopts_shell.proofs.table.cut_at_gap.Given as goal

-- no gap begins before this place
abbrev pub invariant-loop-at : goal.invariant-loop-at
invariant-loop-at l =
    (before_gap l.text ≡ take l.at l.text ++ front_after (take l.at l.text) (drop l.at l.text))
    × (from_gap l.text ≡ gap_after (take l.at l.text) (drop l.at l.text))
