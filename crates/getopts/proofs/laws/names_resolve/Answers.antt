-- The facts about resolution, for groups with valid names.
use Rattle.getopts.proofs.Lists.{AllByRecursion-map}
use Rattle.getopts.proofs.table.Names.{resolution-main_name, OneByteIsShort-lawful, resolution-nil}
use Rattle.getopts.proofs.laws.names_resolve.Goals as goal
use Rattle.std.proofs.Common.{rules}

pub returns : goal.returns
returns c = search (rules, AllByRecursion-map, resolution-main_name, OneByteIsShort-lawful, resolution-nil)
