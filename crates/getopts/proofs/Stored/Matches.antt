-- What is in matches, in terms of the groups and the list of occurrences that the code stores.
use Rattle.std.proofs.Common.{◌≡◌, ℕ, suc, zero, ◌+◌, ◌<◌, true, List, [], ◌∷◌, map, rules, length, get_or, refl, ap}
use Rattle.std.proofs.Common.{sym, ◌∙◌, inl, inr, arith, zero-add}
use Rattle.std.specs.Cmp.Lexicographic.{pointwise}
use Rattle.std.specs.List.{AllByRecursion}
use Rattle.std.proofs.lemmas.Bool.{cases_lt, and_parts, and_from, le-ltb, lt-ltb}
use Rattle.std.proofs.lemmas.List.{length-map}
use Rattle.std.proofs.lemmas.List.Elements.{recursion_from_All}
use Rattle.std.proofs.lemmas.Option.{slice_get_past}
use Rattle.std.proofs.lemmas.Simd.{map-map}
use Rattle.getopts.specs.Names.{Text, resolution}
use Rattle.getopts.specs.Options.{Signature}
use Rattle.getopts.specs.Stored.Signatures.{names_in}
use Rattle.getopts.specs.Stored.Index.{index_of}
use Rattle.getopts.specs.Reading.{Occurrence}
use Rattle.getopts.specs.Matches.{GroupOccurrence, MatchedGroup, occurrences_mentioning, matched, without_group}
use Rattle.getopts.specs.Accessors.{occurrences_of_group, opt_place, values_of, pairs_of}
use Rattle.getopts.specs.Same.{same_signature, same_group_occurrence, same_matched_group}
use Rattle.getopts.proofs.counts.Groups.{length-matched}
use Rattle.getopts.specs.Stored.Occurrences.{no_occurrence, occurrences_at_indices}
use Rattle.getopts.proofs.Stored.Index.{map-indices_of, indices_from-within}

-- the signatures of the groups in the matches
pub signatures-matched : (first : ℕ) (signatures : List Signature) (occurrences : List Occurrence)
    → map (λ (group : MatchedGroup). group.signature) (matched first signatures occurrences) ≡ signatures
signatures-matched first [] occurrences = refl
signatures-matched first (signature ∷ signatures) occurrences =
    search (rules, signatures-matched (first + 1) signatures occurrences)

-- the occurrences of the group at a place
pub occurrences-matched : (first : ℕ) (signatures : List Signature) (occurrences : List Occurrence) (i : ℕ)
    → i < length signatures
    → occurrences_of_group (matched first signatures occurrences) i ≡ occurrences_mentioning (first + i) occurrences
occurrences-matched first [] occurrences i within = absurd (omega arith)
occurrences-matched first (signature ∷ signatures) occurrences zero within = search rules
occurrences-matched first (signature ∷ signatures) occurrences (suc i) within =
    search (rules, occurrences-matched (first + 1) signatures occurrences i (omega arith))

-- a name resolves among matched groups as among their names
pub opt_place-signatures : (groups : List MatchedGroup) (signatures : List Signature)
    → map (λ (group : MatchedGroup). group.signature) groups ≡ signatures → (name : Text)
    → resolution (names_in signatures) name ≡ opt_place groups name
opt_place-signatures groups signatures are name = search (rules, map-map)

module _ (signatures : List Signature) (occurrences : List Occurrence) (place : ℕ) where
  -- the indices of the occurrences of the group at this place are within the occurrences
  pub indexed-within : AllByRecursion (λ p. p < length occurrences) (index_of (length signatures) occurrences place)
  indexed-within = search (rules, cases_lt, lt-ltb, length-map, recursion_from_All, le-ltb, indices_from-within)

  -- they are the occurrences of that group
  pub indexed-occurrences :
      occurrences_at_indices occurrences (index_of (length signatures) occurrences place)
      ≡ occurrences_of_group (matched 0 signatures occurrences) place
  indexed-occurrences = elim (cases_lt place (length signatures)) [
    | inl there ↦
        rw (lt-ltb place (length signatures) there)
        (sym (map-map without_group (λ p. get_or occurrences p no_occurrence) _)
        ∙ ap (map without_group) (search (rules, map-indices_of))
        ∙ ap (λ n. occurrences_mentioning n occurrences) (sym (zero-add place))
        ∙ sym (occurrences-matched 0 signatures occurrences place there))
    | inr past ↦ search (rules, le-ltb, slice_get_past, length-matched)
  ]

-- values are the texts of the pairs
pub texts_of_pairs : (occurrences : List GroupOccurrence)
    → map (λ (pair : ℕ × Text). pair.1) (pairs_of occurrences) ≡ values_of occurrences
texts_of_pairs [] = refl
texts_of_pairs (occurrence ∷ occurrences) = search (rules, texts_of_pairs occurrences)

-- groups are equal if their signatures and the occurrences at each place are
pub same_occurrences_everywhere : (groups others : List MatchedGroup)
    → pointwise same_signature (map (λ (group : MatchedGroup). group.signature) groups)
    (map (λ (group : MatchedGroup). group.signature) others) ≡ true
    → ((i : ℕ) → i < length groups
    → pointwise same_group_occurrence (occurrences_of_group groups i)
    (occurrences_of_group others i)
    ≡ true) → pointwise same_matched_group groups others ≡ true
same_occurrences_everywhere [] [] signature occurrences = refl
same_occurrences_everywhere [] (b ∷ others) signature occurrences = signature
same_occurrences_everywhere (a ∷ groups) [] signature occurrences = signature
same_occurrences_everywhere (a ∷ groups) (b ∷ others) signature occurrences =
    let parts = and_parts (same_signature a.signature b.signature) _ signature in
    and_from (same_matched_group a b) _
    (and_from (same_signature a.signature b.signature) _ parts.0 (occurrences 0 (omega arith)))
    (same_occurrences_everywhere groups others parts.1 (λ i h. occurrences (suc i) (omega arith)))
