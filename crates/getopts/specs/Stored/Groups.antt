-- Groups with their hints and descriptions, as they are stored or borrowed.
use Rattle.std.specs.Prelude.{◌≡◌, List, [], ◌∷◌, length, map}
use Rattle.std.specs.List.{AllByRecursion}
use Rattle.std.specs.String.{string_bytes}
use Rattle.getopts.specs.Names.{Text}
use Rattle.getopts.specs.Options.{Signature, Group}
use Rattle.getopts.specs.Stored.Adjacent.{pair_at, AreEndsOf}
use Rattle.getopts.specs.Stored.Signatures.{AreLawfulSignatures}
use Rattle.getopts.specs.declared.groups.Groups.TheInside.{Inside}

abbrev pub group_with : Signature → Text × Text → Group
group_with signature texts =
    record { signature = signature; hint = texts.0; description = texts.1 }

abbrev pub groups_with : List Signature → List (Text × Text) → List Group
groups_with (signature ∷ signatures) (texts ∷ more) =
    group_with signature texts ∷ groups_with signatures more
groups_with signatures more = []

abbrev pub groups_view : Inside → List Group
groups_view inside =
    groups_with inside.signatures (map (pair_at (string_bytes inside.texts)) inside.ends.items)

-- The groups have valid names, and each has a hint and a description in the text of all.
pub record HoldGroups (inside : Inside) : Type 0 where
  pub ends : AllByRecursion (AreEndsOf (string_bytes inside.texts)) inside.ends.items
  pub as_many : length inside.ends.items ≡ length inside.signatures
  pub lawful : AreLawfulSignatures inside.signatures
