-- Signatures and groups as they are stored: which one is at a place, and what appending one
-- changes.
use Rattle.std.proofs.Common.{◌≡◌, ℕ, zero, suc, ◌<◌, List, [], ◌∷◌, map, ◌++◌, length, get_or, slice_get, Some, refl}
use Rattle.std.proofs.Common.{ap, ◌∙◌, arith, rules}
use Rattle.std.specs.List.{AllByRecursion}
use Rattle.std.specs.Option.{option_map}
use Rattle.std.specs.Str.{IsUtf8}
use Rattle.std.specs.String.{string_bytes}
use Rattle.std.proofs.lemmas.List.{length-map}
use Rattle.std.proofs.lemmas.List.Elements.{All-nil}
use Rattle.std.proofs.lemmas.Simd.{map-map}
use Rattle.std.proofs.lemmas.Option.{same_Some, slice_get-map, slice_get_read, get_or_from_slice_get}
use Rattle.getopts.specs.Names.{Text, Names, IsLawfullyNamed, main_name}
use Rattle.getopts.specs.Options.{Signature, Group, MayBeDeclared, signatures_of, names_of}
use Rattle.getopts.specs.Canon.{main_at}
use Rattle.getopts.specs.Stored.Names.{names_at}
use Rattle.getopts.specs.Stored.Texts.{IsOfBytes}
use Rattle.getopts.specs.Stored.Adjacent.{pair_at, AreEndsOf, IsPairAt}
use Rattle.getopts.specs.Stored.Signatures.{signature_with, names_in, ends_of}
use Rattle.getopts.specs.Stored.Signatures.{signature_in, AreLawfulSignatures, IsStored, kinds_of}
use Rattle.getopts.specs.Stored.Groups.{group_with, groups_with, groups_view, HoldGroups}
use Rattle.getopts.specs.declared.groups.Groups.TheInside.{Inside}
use Rattle.getopts.specs.declared.adjacent.PairEnds.{PairEnds}
use Rattle.getopts.specs.declared.signatures.SignatureRecord.{SignatureRecord}
use Rattle.getopts.specs.declared.kinds.Kinds.{Kinds}
use Rattle.getopts.proofs.Lists.{AllByRecursion-map, AllByRecursion-unmap, AllByRecursion-at, AllByRecursion-follows}
use Rattle.getopts.proofs.Lists.{each_pushed}
use Rattle.getopts.proofs.Stored.Texts.{IsOfBytes-utf8, two-append}

-- the names of the signatures are those of the groups
pub names-signatures_of : (groups : List Group)
    → map (λ (signature : Signature). signature.names) (signatures_of groups) ≡ names_of groups
names-signatures_of groups = map-map (λ (s : Signature). s.names) (λ (g : Group). g.signature) groups

-- a group has the kind of argument that its signature has
pub kind-signatures_of : (groups : List Group) (place : ℕ) (kinds : Kinds)
    → Some kinds ≡ option_map kinds_of (slice_get (signatures_of groups) place)
    → option_map (λ (group : Group). group.signature.kind) (slice_get groups place) ≡ Some kinds.kind
kind-signatures_of [] place kinds is = cc is
kind-signatures_of (group ∷ groups) zero kinds is = search (rules, same_Some)
kind-signatures_of (group ∷ groups) (suc place) kinds is = kind-signatures_of groups place kinds is

-- the record of an existing signature
pub record_within : (text : Text) (records : List SignatureRecord) (signatures : List Signature) (place : ℕ)
    → map (signature_in text) records ≡ signatures → place < length signatures → place < length records
record_within text records signatures place are within = search (rules, length-map)

-- the record at a place, and the signature there
pub stored_at : (text : Text) (records : List SignatureRecord) (signatures : List Signature)
    (place : ℕ) (r : SignatureRecord) → AllByRecursion (IsStored text) records
    → map (signature_in text) records ≡ signatures → place < length signatures
    → r ≡ get_or records place r
    → IsStored text r × (slice_get signatures place ≡ Some (signature_in text r))
stored_at text records signatures place r stored are within is =
    let at = slice_get_read records _ place r refl
    (record_within text records signatures place are within) is in (
      AllByRecursion-at (IsStored text) records place r stored at,
      rw (← are) (slice_get-map (signature_in text) records place
          ∙ ap (option_map (signature_in text)) at),
    )

-- ---- names

-- the names at a place are those of its signature
pub names_at-signature : (signatures : List Signature) (place : ℕ) (signature : Signature)
    → slice_get signatures place ≡ Some signature → names_at (names_in signatures) place ≡ signature.names
names_at-signature signatures place signature is =
    get_or_from_slice_get (names_in signatures) place signature.names
    (record { short = []; long = [] })
    (search (rules, slice_get-map))

-- names of valid signatures are valid
pub lawful_names : (signatures : List Signature) → AreLawfulSignatures signatures
    → AllByRecursion IsLawfullyNamed (names_in signatures)
lawful_names signatures lawful = search (rules, AllByRecursion-map, AllByRecursion-follows)

-- Each name consists of bytes.
abbrev pub HaveNamesOfBytes : List Names → Type 0
HaveNamesOfBytes groups = (place : ℕ)
    → IsOfBytes (names_at groups place).short × IsOfBytes (names_at groups place).long

-- Names of valid signatures consist of bytes.
pub HaveNamesOfBytes-lawful : (signatures : List Signature) → AreLawfulSignatures signatures
    → HaveNamesOfBytes (names_in signatures)
HaveNamesOfBytes-lawful [] lawful place = search (rules, All-nil)
HaveNamesOfBytes-lawful (s ∷ more) lawful zero = search (rules, IsOfBytes-utf8)
HaveNamesOfBytes-lawful (s ∷ more) lawful (suc place) = HaveNamesOfBytes-lawful more lawful.1 place

-- ---- one more

-- with more text, records are stored as before, and one more is the last
pub signatures-push : (text more : Text) → IsUtf8 more → (records : List SignatureRecord)
    → AllByRecursion (IsStored text) records
    → (added : SignatureRecord) → IsStored (text ++ more) added
    → AllByRecursion (IsStored (text ++ more)) (records ++ added ∷ [])
    × (map (signature_in (text ++ more)) (records ++ added ∷ [])
    ≡ map (signature_in text) records ++ signature_in (text ++ more) added ∷ [])
signatures-push text more utf8 records stored added last =
    each_pushed (IsStored text) (IsStored (text ++ more)) (signature_in text)
    (signature_in (text ++ more)) (λ r stored.
    let stand = two-append text more utf8 (ends_of r) stored.ends in
    let same : signature_in (text ++ more) r ≡ signature_in text r =
    ap (λ (names : Text × Text). signature_with r.kinds names.0 names.1) stand.are in
    (search rules)) added _ last refl records stored

-- with more text, the two texts of each group are as before, and two more are the last
pub twos-push : (text more : Text) → IsUtf8 more → (ends : List PairEnds)
    → AllByRecursion (AreEndsOf text) ends → (added : PairEnds) (two : Text × Text)
    → IsPairAt (text ++ more) added two
    → AllByRecursion (AreEndsOf (text ++ more)) (ends ++ added ∷ [])
    × (map (pair_at (text ++ more)) (ends ++ added ∷ []) ≡ map (pair_at text) ends ++ two ∷ [])
twos-push text more utf8 ends stored added two last =
    each_pushed (AreEndsOf text) (AreEndsOf (text ++ more)) (pair_at text)
    (pair_at (text ++ more)) (λ e stored. let stand = two-append text more utf8 e stored in
    (stand.ends, stand.are)) added two last.ends last.are ends stored

-- one more group has the texts after the others
pub groups_with-push : (signature : Signature) (texts : Text × Text) (signatures : List Signature)
    (twos : List (Text × Text)) → length twos ≡ length signatures
    → groups_with (signatures ++ signature ∷ []) (twos ++ texts ∷ [])
    ≡ groups_with signatures twos ++ group_with signature texts ∷ []
groups_with-push signature texts [] [] as_many = refl
groups_with-push signature texts [] (two ∷ twos) as_many = absurd (omega (arith, as_many))
groups_with-push signature texts (first ∷ signatures) [] as_many = absurd (omega (arith, as_many))
groups_with-push signature texts (first ∷ signatures) (two ∷ twos) as_many =
    search (rules, groups_with-push signature texts signatures twos (omega (arith, as_many)))

-- ---- groups

-- the group at a place
pub groups_with-at : (signatures : List Signature) (twos : List (Text × Text)) (i : ℕ)
    (signature : Signature) (texts : Text × Text) → slice_get signatures i ≡ Some signature
    → slice_get twos i ≡ Some texts → slice_get (groups_with signatures twos) i
    ≡ Some (group_with signature texts)
groups_with-at [] twos i signature texts at there = cc at
groups_with-at (first ∷ signatures) [] i signature texts at there = cc there
groups_with-at (first ∷ signatures) (two ∷ twos) zero signature texts at there = search (rules, same_Some)
groups_with-at (first ∷ signatures) (two ∷ twos) (suc i) signature texts at there =
    groups_with-at signatures twos i signature texts at there

-- the signatures of groups
pub signatures_of-with : (signatures : List Signature) (twos : List (Text × Text))
    → length twos ≡ length signatures → signatures_of (groups_with signatures twos) ≡ signatures
signatures_of-with [] twos as_many = refl
signatures_of-with (first ∷ signatures) [] as_many = absurd (omega (arith, as_many))
signatures_of-with (first ∷ signatures) (two ∷ twos) as_many =
    search (rules, signatures_of-with signatures twos (omega (arith, as_many)))

-- the stored signatures are those of the groups
pub signatures_stored : (inside : Inside) (groups : List Group) → HoldGroups inside → groups_view inside ≡ groups
    → (inside.signatures ≡ signatures_of groups) × (length groups ≡ length inside.signatures)
signatures_stored inside groups holds are =
    let twos = map (pair_at (string_bytes inside.texts)) inside.ends.items in
    let as_many = length-map inside.ends.items (pair_at (string_bytes inside.texts))
    ∙ holds.as_many in search (rules, signatures_of-with inside.signatures twos as_many, length-map)

-- the main name at a place
pub main_at-names : (groups : List Group) (place : ℕ)
    → main_at groups place ≡ main_name (names_at (names_in (signatures_of groups)) place)
main_at-names [] place = refl
main_at-names (group ∷ groups) zero = refl
main_at-names (group ∷ groups) (suc place) = main_at-names groups place

-- groups with valid signatures may be declared
pub MayBeDeclared-lawful : (groups : List Group) → AreLawfulSignatures (signatures_of groups) → MayBeDeclared groups
MayBeDeclared-lawful groups lawful = search (rules, AllByRecursion-unmap, AllByRecursion-follows)
