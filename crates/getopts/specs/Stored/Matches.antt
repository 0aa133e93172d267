-- What the code stores after parsing: the groups with their occurrences.
use Rattle.std.specs.Prelude.{◌≡◌, List, length}
use Rattle.getopts.specs.Matches.{MatchedGroup, matched}
use Rattle.getopts.specs.Stored.Signatures.{names_in}
use Rattle.getopts.specs.Stored.Index.{index_of, indices_in}
use Rattle.getopts.specs.Stored.Table.{IsTableOf}
use Rattle.getopts.specs.declared.matches.MatchedOptions.TheInside.{Inside}

abbrev pub matched_view : Inside → List MatchedGroup
matched_view inside = matched 0 inside.signatures inside.found

-- The table and the index fit the groups.
pub record KeepsGroups (inside : Inside) : Type 0 where
  pub table : IsTableOf (names_in inside.signatures) inside.table
  pub index : indices_in inside.index ≡ index_of (length inside.signatures) inside.found
