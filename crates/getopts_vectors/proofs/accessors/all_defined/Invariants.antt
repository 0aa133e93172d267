use Rattle.std.proofs.Common.{take}
use Rattle.getopts.specs.Accessors.{AreDefined}
use Rattle.getopts.specs.Names.{texts}
use Rattle.getopts_vectors.proofs.accessors.all_defined.Given as goal

-- the names so far are defined
abbrev pub invariant-loop-name : goal.invariant-loop-name
invariant-loop-name l = AreDefined l.matches.groups (texts (take l.name-index l.names))
