use Rattle.std.proofs.Common.{◌≡◌, string_bytes, take}
use Rattle.std.specs.List.{flat_map}
use Rattle.getopts_shell.specs.Stored.{entries_of}
use Rattle.getopts_shell.specs.Variables.{given_from, HoldTexts, option_code}
use Rattle.getopts_shell.proofs.variables.variables_code.Given as goal

-- the commands for the options so far, whose values are texts
abbrev pub invariant-loop-place : goal.invariant-loop-place
invariant-loop-place l =
    let options = given_from 0 (entries_of (take l.place l.rows)) l.matches.groups in
    (string_bytes l.text ≡ flat_map (option_code l.variables.prefix.now l.variables.arrays) options)
    × HoldTexts options
