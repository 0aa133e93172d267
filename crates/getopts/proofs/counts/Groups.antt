-- Matched groups: what holds for each, and their counts.
use Rattle.std.proofs.Common.{◌∙◌, ap, ◌≡◌, ◌<◌, ◌+◌, ℕ, zero, suc, rules, List, [], ◌∷◌, length, drop, slice_get, Some}
use Rattle.std.proofs.Common.{option_map, refl, arith, add-zero}
use Rattle.std.specs.Prelude.{if◌then◌else◌, true, false}
use Rattle.std.specs.List.{AllByRecursion}
use Rattle.std.proofs.lemmas.Bool.{lt-ltb}
use Rattle.std.proofs.lemmas.List.{length-map}
use Rattle.getopts.specs.Fail.{IsOutOfMemoryOr}
use Rattle.getopts.specs.Names.{Text, main_name}
use Rattle.getopts.specs.Options.{Signature}
use Rattle.getopts.specs.Reading.{Occurrence}
use Rattle.getopts.specs.Matches.{MatchedGroup, occurrences_mentioning, matched, fits_count, count_fault}
use Rattle.getopts.specs.Results.{first_count_fault}
use Rattle.getopts.specs.Stored.Index.{index_of, count_in, first_wrong}
use Rattle.getopts.specs.Stored.Names.{names_at}
use Rattle.getopts.specs.Stored.Signatures.{kinds_of, names_in}
use Rattle.getopts.specs.declared.fail.Fail.{Fail}
use Rattle.getopts.specs.declared.kinds.Kinds.{Kinds}
use Rattle.getopts.proofs.Stored.Index.{length-indices_of}
use Rattle.getopts.proofs.Errors.{IsOutOfMemoryOr-weaker}

-- the number of a group's occurrences, from the index
pub length-occurrences_mentioning : (count : ℕ) (occurrences : List Occurrence) (i : ℕ) → i < count
    → count_in (index_of count occurrences) i ≡ length (occurrences_mentioning i occurrences)
length-occurrences_mentioning count occurrences i within = search (rules, length-map, lt-ltb, length-indices_of)

-- there are as many matched groups as signatures
pub length-matched : (first : ℕ) (signatures : List Signature) (occurrences : List Occurrence)
    → length (matched first signatures occurrences) ≡ length signatures
length-matched first [] occurrences = refl
length-matched first (signature ∷ signatures) occurrences = ap suc (length-matched (first + 1) signatures occurrences)

-- a property of each signature, with the occurrences of its place, holds for the matched groups
pub AllByRecursion-matched : (P : MatchedGroup → Type 0) (first : ℕ) (signatures : List Signature)
    (occurrences : List Occurrence)
    → ((i : ℕ) (signature : Signature) → slice_get signatures i ≡ Some signature → P (record {
      signature = signature;
      occurrences = occurrences_mentioning (first + i) occurrences;
    })) → AllByRecursion P (matched first signatures occurrences)
AllByRecursion-matched P first [] occurrences each = tt
AllByRecursion-matched P first (signature ∷ signatures) occurrences each = (
  rw add-zero at (each 0 signature refl),
  AllByRecursion-matched P (first + 1) signatures occurrences
      (λ i other there. let place : first + suc i ≡ first + 1 + i = omega arith in
      rw place at (each (suc i) other there)),
)

-- the first wrong count from a group on, by the kinds of that group
pub first_wrong-at : (signatures : List Signature) (i place : ℕ) (kinds : Kinds) (count : ℕ → ℕ)
    → Some kinds ≡ option_map kinds_of (slice_get signatures i)
    → first_wrong place (drop i signatures) count
    ≡ (if fits_count kinds.occur (count place)
    then first_wrong (place + 1) (drop (i + 1) signatures) count
    else Some (count_fault (main_name (names_at (names_in signatures) i)) (count place)))
first_wrong-at [] i place kinds count there = cc there
first_wrong-at (signature ∷ signatures) zero place kinds count there = search rules
first_wrong-at (signature ∷ signatures) (suc i) place kinds count there =
    search (rules, first_wrong-at signatures i place kinds count there)

module _ (signatures : List Signature) (place : ℕ) (kinds : Kinds) (count : ℕ → ℕ) (given : ℕ)
    (there : Some kinds ≡ option_map kinds_of (slice_get signatures place)) (same : given ≡ count place)
    (until : first_wrong 0 signatures count ≡ first_wrong place (drop place signatures) count) where
  -- a group that keeps its count isn't the first wrong one
  pub first_wrong-kept : fits_count kinds.occur given ≡ true
      → first_wrong 0 signatures count ≡ first_wrong (place + 1) (drop (place + 1) signatures) count
  first_wrong-kept fits = until ∙ first_wrong-at signatures place place kinds count there ∙ rw (← same, fits) refl

  -- a group that breaks its count is
  pub first_wrong-broken : (main : Text) (fail : Fail) → fits_count kinds.occur given ≡ false
      → main ≡ main_name (names_at (names_in signatures) place)
      → IsOutOfMemoryOr fail (λ fault. fault ≡ count_fault main given)
      → IsOutOfMemoryOr fail (λ fault. first_wrong 0 signatures count ≡ Some fault)
  first_wrong-broken main fail breaks main_is told = IsOutOfMemoryOr-weaker fail _ _ told (λ fault is.
      until ∙ first_wrong-at signatures place place kinds count there ∙ rw (← same, breaks, ← main_is, is) refl)

-- by the number of each group's occurrences, it is the error of the matched groups
pub first_wrong-counts : (place : ℕ) (signatures : List Signature) (occurrences : List Occurrence)
    (bound : ℕ) (count : ℕ → ℕ) → ((i : ℕ) → i < bound → count i ≡ length (occurrences_mentioning i occurrences))
    → place + length signatures ≡ bound
    → first_wrong place signatures count ≡ first_count_fault (matched place signatures occurrences)
first_wrong-counts place [] occurrences bound count each all = refl
first_wrong-counts place (signature ∷ signatures) occurrences bound count each all =
    search (rules, each place (omega arith), first_wrong-counts (place + 1) signatures occurrences bound count each (omega arith))

-- by the index of occurrences
pub first_wrong_matched : (place : ℕ) (signatures : List Signature) (occurrences : List Occurrence)
    (count : ℕ) → place + length signatures ≡ count
    → first_wrong place signatures (count_in (index_of count occurrences))
    ≡ first_count_fault (matched place signatures occurrences)
first_wrong_matched place signatures occurrences count all =
    first_wrong-counts place signatures occurrences count _ (length-occurrences_mentioning count occurrences) all
