use Rattle.std.proofs.Common.{◌≡◌, [], drop, take}
use Rattle.getopts_shell.specs.Stored.{entries_of}
use Rattle.getopts_shell.specs.Variables.{first_fault}
use Rattle.getopts_shell.proofs.variables.variable_error.Given as goal

-- the error of all options is the error from this place on
abbrev pub invariant-loop-place : goal.invariant-loop-place
invariant-loop-place l = first_fault l.prefix [] (entries_of l.rows)
    ≡ first_fault l.prefix (entries_of (take l.place l.rows)) (entries_of (drop l.place l.rows))
