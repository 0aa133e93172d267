use Rattle.std.proofs.Common.{◌≡◌, string_bytes, take}
use Rattle.std.specs.List.{flat_map}
use Rattle.getopts_shell.specs.Stored.{entries_of, entry_of_row}
use Rattle.getopts_shell.specs.Variables.{given_alone, option_code}
use Rattle.getopts_shell.proofs.variables.alone_code.Given as goal

-- the commands for the options so far
abbrev pub invariant-loop-row : goal.invariant-loop-row
invariant-loop-row l = string_bytes l.text
    ≡ flat_map (option_code l.variables.prefix.now l.variables.arrays)
    (given_alone (entries_of (take l.row-index l.rows)) (entry_of_row l.alone))
