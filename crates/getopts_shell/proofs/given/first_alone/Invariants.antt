use Rattle.std.proofs.Common.{◌≡◌, drop}
use Rattle.std.specs.List.{find}
use Rattle.getopts_shell.specs.Program.{is_alone}
use Rattle.getopts_shell.specs.Stored.{entries_of}
use Rattle.getopts_shell.proofs.given.first_alone.Given as goal

-- what is found in all rows is found from this place on
abbrev pub invariant-loop-at : goal.invariant-loop-at
invariant-loop-at l =
    find (is_alone l.matches) (entries_of l.rows) ≡ find (is_alone l.matches)
    (entries_of (drop l.at l.rows))
