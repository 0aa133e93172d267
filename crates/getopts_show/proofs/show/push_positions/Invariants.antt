use Rattle.std.proofs.Common.{◌≡◌, ◌++◌, take}
use Rattle.std.specs.List.{flat_map}
use Rattle.std.specs.String.{string_bytes}
use Rattle.getopts_show.specs.Program.{position_mark}
use Rattle.getopts_show.proofs.show.push_positions.Given as goal

-- the marks of the positions so far were added
abbrev pub invariant-loop-position : goal.invariant-loop-position
invariant-loop-position l = string_bytes l.text
    ≡ string_bytes l.initial.text ++ flat_map position_mark (take l.position-index l.positions)
