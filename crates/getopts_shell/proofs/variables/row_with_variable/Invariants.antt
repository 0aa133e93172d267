use Rattle.std.proofs.Common.{◌≡◌, drop, map}
use Rattle.std.specs.List.{find}
use Rattle.std.specs.Str.{bytes_eq}
use Rattle.getopts.specs.Names.{main_name}
use Rattle.getopts_shell.specs.Stored.{entries_of}
use Rattle.getopts_shell.specs.Table.{Entry}
use Rattle.getopts_shell.specs.Variables.{variable_byte}
use Rattle.getopts_shell.proofs.variables.row_with_variable.Given as goal

-- what is found in all rows is found from this place on
abbrev pub invariant-loop-at : goal.invariant-loop-at
invariant-loop-at l =
    find (λ (entry : Entry). bytes_eq (map variable_byte (main_name entry.names))
    (map variable_byte l.name)) (entries_of l.rows)
    ≡ find (λ (entry : Entry). bytes_eq (map variable_byte (main_name entry.names))
    (map variable_byte l.name)) (entries_of (drop l.at l.rows))
