use Rattle.std.proofs.Common.{◌≡◌, ◌++◌, map, take}
use Rattle.std.specs.List.{flat_map}
use Rattle.std.specs.String.{string_bytes}
use Rattle.getopts.specs.Accessors.{pair_view}
use Rattle.getopts_show.specs.Program.{value_line}
use Rattle.getopts_show.proofs.show.push_values.Given as goal

-- the lines of the values so far were added
abbrev pub invariant-loop-position : goal.invariant-loop-position
invariant-loop-position l = string_bytes l.text
    ≡ string_bytes l.initial.text ++ flat_map (value_line l.name) (map pair_view (take l.position-index l.pairs))
