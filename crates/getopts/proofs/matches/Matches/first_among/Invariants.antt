use Rattle.std.proofs.Common.{◌≡◌, map, drop}
use Rattle.getopts.specs.Accessors.{first_value_among}
use Rattle.getopts.proofs.matches.Matches.first_among.Given as goal

-- the remaining names have the same first value as all names
abbrev pub invariant-loop-name : goal.invariant-loop-name
invariant-loop-name g l =
    first_value_among l.self.groups (map g.T.AsStr.text (drop l.name-index l.names))
    ≡ first_value_among l.self.groups (map g.T.AsStr.text l.names)
