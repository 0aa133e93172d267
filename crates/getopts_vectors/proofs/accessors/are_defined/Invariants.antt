use Rattle.std.proofs.Common.{map, take}
use Rattle.std.specs.String.{string_bytes}
use Rattle.getopts.specs.Accessors.{AreDefined}
use Rattle.getopts_vectors.proofs.accessors.are_defined.Given as goal

-- the names so far are defined
abbrev pub invariant-loop-name : goal.invariant-loop-name
invariant-loop-name l = AreDefined l.matches.groups (map string_bytes (take l.name-index l.names))
