use Rattle.std.proofs.Common.{◌≡◌, drop, map}
use Rattle.std.specs.Str.{bytes_eq}
use Rattle.getopts_shell.specs.Variables.{variable_byte}
use Rattle.getopts_shell.proofs.variables.same_variable.Given as goal

-- the names are the same up to this place
abbrev pub invariant-loop-at : goal.invariant-loop-at
invariant-loop-at l = bytes_eq (map variable_byte l.bytes) (map variable_byte l.others)
    ≡ bytes_eq (map variable_byte (drop l.at l.bytes)) (map variable_byte (drop l.at l.others))
