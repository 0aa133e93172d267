-- The names and kinds of groups, as they are stored or borrowed.
use Rattle.std.specs.Prelude.{◌≡◌, ◌-◌, not, List, map, slice_get}
use Rattle.std.specs.List.{AllByRecursion}
use Rattle.std.specs.Option.{option_map_or}
use Rattle.std.specs.Str.{IsUtf8}
use Rattle.std.specs.String.{string_bytes}
use Rattle.getopts.specs.Names.{Text, Names, IsLawfullyNamed, is_empty, main_name}
use Rattle.getopts.specs.Options.{Signature}
use Rattle.getopts.specs.Stored.Names.{key_of}
use Rattle.getopts.specs.Stored.Adjacent.{pair_at, AreEndsOf}
use Rattle.getopts.specs.declared.kinds.Kinds.{Kinds}
use Rattle.getopts.specs.declared.adjacent.PairEnds.{PairEnds}
use Rattle.getopts.specs.declared.signatures.SignatureRecord.{SignatureRecord}
use Rattle.getopts.specs.declared.signatures.SignatureView.{SignatureView}
use Rattle.getopts.specs.declared.signatures.Signatures.TheInside.{Inside}

abbrev pub signature_with : Kinds → Text → Text → Signature
signature_with kinds short long = record {
  names = record { short = short; long = long };
  kind = kinds.kind;
  occur = kinds.occur;
}

abbrev pub kinds_of : Signature → Kinds
kinds_of signature = record { kind = signature.kind; occur = signature.occur }

abbrev pub names_in : List Signature → List Names
names_in signatures = map (λ signature. signature.names) signatures

-- where the names of a record are; a short name is the byte before the long name
abbrev pub ends_of : SignatureRecord → PairEnds
ends_of group = record {
  start = option_map_or (λ _. group.long - 1) group.short group.long;
  middle = group.long;
  end = group.end;
}

abbrev pub signature_in : Text → SignatureRecord → Signature
signature_in text group =
    let names = pair_at text (ends_of group) in signature_with group.kinds names.0 names.1

abbrev pub signatures_view : Inside → List Signature
signatures_view inside = map (signature_in (string_bytes inside.text)) inside.records.items

-- The signature has valid names, which are UTF-8.
pub record IsLawfulSignature (signature : Signature) : Type 0 where
  pub named : IsLawfullyNamed signature.names
  pub short : IsUtf8 signature.names.short
  pub long : IsUtf8 signature.names.long

-- Each group has a valid signature.
abbrev pub AreLawfulSignatures : List Signature → Type 0
AreLawfulSignatures signatures = AllByRecursion IsLawfulSignature signatures

-- The record has what these names are looked up by.
pub record HasKeys (group : SignatureRecord) (names : Names) : Type 0 where
  pub key : group.key ≡ key_of (main_name names)
  pub short : group.short ≡ slice_get names.short 0
  pub has_long : group.has_long ≡ not (is_empty names.long)

-- The names of the record are in this text, and the record has their keys.
pub record IsStored (text : Text) (group : SignatureRecord) : Type 0 where
  pub ends : AreEndsOf text (ends_of group)
  pub keys : HasKeys group (signature_in text group).names
  pub lawful : IsLawfulSignature (signature_in text group)

-- Each record has its names and keys.
abbrev pub HoldSignatures : Inside → Type 0
HoldSignatures inside = AllByRecursion (IsStored (string_bytes inside.text)) inside.records.items

abbrev pub signature_view : SignatureView → Signature
signature_view borrowed = signature_with borrowed.kinds borrowed.short.now borrowed.long.now
