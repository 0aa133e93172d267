-- Occurrences: as they are stored, with their values in one text, and those of one group.
use Rattle.std.proofs.Common.{◌≡◌, ◌≢◌, ◌<◌, ◌≤◌, ◌+◌, ◌/◌, ℕ, zero, suc, ◌==◌, ◌&&◌, Bool, true, false, List, []}
use Rattle.std.proofs.Common.{rules, ◌∷◌, ◌++◌, map, length, get_or, take, slice_get, Option, Bor, Some, None, refl}
use Rattle.std.proofs.Common.{ap, sym, ◌∙◌, arith}
use Rattle.std.specs.List.{AllByRecursion}
use Rattle.std.specs.Cmp.Lexicographic.{pointwise}
use Rattle.std.specs.Option.{option_eq, option_map}
use Rattle.std.proofs.lemmas.List.{length-map}
use Rattle.std.proofs.lemmas.List.Elements.{filter_map-append}
use Rattle.std.proofs.lemmas.Option.{slice_get-get_or, slice_get-map}
use Rattle.std.specs.Str.{IsCharBoundary, IsUtf8}
use Rattle.std.proofs.lemmas.Str.{IsCharBoundary-end}
use Rattle.std.proofs.lemmas.Grind.{common_steps}
use Rattle.getopts.specs.Names.{Text}
use Rattle.getopts.specs.Matches.{GroupOccurrence, without_group}
use Rattle.getopts.specs.Accessors.{values_of, pair_of, pairs_of, borrowed_occurrence}
use Rattle.getopts.specs.Reading.{Occurrence}
use Rattle.getopts.specs.Same.{same_group_occurrence}
use Rattle.getopts.specs.Stored.Occurrences.{end_by, value_in, occurrence_in, occurrences_in, HaveStarts}
use Rattle.getopts.specs.Stored.Occurrences.{no_occurrence, occurrences_at_indices}
use Rattle.getopts.specs.declared.occurrences.OccurrenceRecord.{OccurrenceRecord}
use Rattle.getopts.proofs.Lists as Lists
use Rattle.getopts.proofs.Stored.Texts.{IsCharBoundary-append, slice_range-append}

-- each record has an occurrence
pub length-occurrences : (values : Text) (records : List OccurrenceRecord)
    → length (occurrences_in values records) ≡ length records
length-occurrences values [] = refl
length-occurrences values (stored ∷ more) = ap suc (length-occurrences values more)

-- and that is of its group
pub places-occurrences : (values : Text) (records : List OccurrenceRecord)
    → map (λ (o : Occurrence). o.mention.place) (occurrences_in values records)
    ≡ map (λ (r : OccurrenceRecord). r.place) records
places-occurrences values [] = refl
places-occurrences values (stored ∷ more) = ap (λ places. stored.place ∷ places) (places-occurrences values more)

-- the occurrence of the record at a place
occurrences-at : (values : Text) (records : List OccurrenceRecord) (index : ℕ)
    → slice_get (occurrences_in values records) index
    ≡ option_map (λ stored. occurrence_in values stored (slice_get records (suc index))) (slice_get records index)
occurrences-at values [] index = refl
occurrences-at values (stored ∷ more) zero = refl
occurrences-at values (stored ∷ more) (suc index) = occurrences-at values more index

-- a value ends between characters
pub ends : (values : Text) (records : List OccurrenceRecord) (index : ℕ) → HaveStarts values records
    → IsCharBoundary values (end_by values (slice_get records index))
ends values [] index all = IsCharBoundary-end values
ends values (stored ∷ more) zero all = all.0
ends values (stored ∷ more) (suc index) all = ends values more index all.1

module _ (values : Text) (records : List OccurrenceRecord) (seen : List Occurrence)
    (are : occurrences_in values records ≡ seen) (index : ℕ) (inside : index < length seen) where
  -- an occurrence of a line has a record
  pub record_within : index < length records
  record_within =
      omega (arith, inside, length-occurrences values records, ap (λ (found : List Occurrence). length found) are)

  module _ (stored : OccurrenceRecord) (is : stored ≡ get_or records index stored) where
    stored_at : slice_get records index ≡ Some stored
    stored_at = slice_get-get_or records index stored record_within ∙ ap Some (sym is)

    -- and is that of its record
    pub occurrence-read : slice_get seen index ≡ Some (occurrence_in values stored (slice_get records (index + 1)))
    occurrence-read =
        let next : index + 1 ≡ suc index = omega arith in
        rw (← are, next, occurrences-at values records index, stored_at) refl

    -- whose value starts between characters
    pub starts : HaveStarts values records → IsCharBoundary values (stored.value / 2)
    starts all =
        Lists.AllByRecursion-at (λ r. IsCharBoundary values (r.value / 2)) records index stored all stored_at

-- With more values:
module _ (values more : Text) (utf8 : IsUtf8 more) where
  abbrev grown : Text
  grown = values ++ more

  -- values start where they started
  pub HaveStarts-append : (records : List OccurrenceRecord) → HaveStarts values records → HaveStarts grown records
  HaveStarts-append records all = search (rules, Lists.AllByRecursion-follows, IsCharBoundary-append)

  -- a value that has ended is the same
  value-append : (stored next : OccurrenceRecord) → next.value / 2 ≤ length values
      → value_in grown stored.value (Some next) ≡ value_in values stored.value (Some next)
  value-append stored next within = search (rules, slice_range-append)

  -- a record whose value starts among them is the last one
  module _ (added : OccurrenceRecord) (starts_at : added.value / 2 ≡ length values) where
    value-last : (stored : OccurrenceRecord)
        → value_in grown stored.value (Some added) ≡ value_in values stored.value None
    value-last stored = rw starts_at (search (rules, slice_range-append))

    pub occurrences-push : (records : List OccurrenceRecord) → HaveStarts values records
        → HaveStarts grown (records ++ added ∷ [])
        × (occurrences_in grown (records ++ added ∷ [])
        ≡ occurrences_in values records ++ occurrence_in grown added None ∷ [])
    occurrences-push [] all = grind (arith, common_steps, IsCharBoundary-append)
    occurrences-push (stored ∷ []) all = search (rules, IsCharBoundary-append, value-last, occurrences-push [] tt)
    occurrences-push (stored ∷ next ∷ records) all =
        search (rules, IsCharBoundary-append, value-append, occurrences-push (next ∷ records) all.1)

module _ (occurrences : List Occurrence) (indices : List ℕ)
    (all : AllByRecursion (λ index. index < length occurrences) indices) where
  -- the occurrences at these indices
  abbrev at_indices : List GroupOccurrence
  at_indices = occurrences_at_indices occurrences indices

  -- as many occurrences as indices
  pub length-at_indices : length at_indices ≡ length indices
  length-at_indices = length-map indices (λ index. without_group (get_or occurrences index no_occurrence))

  -- an existing occurrence has its place
  pub index_within : (seen : List GroupOccurrence) (i : ℕ) → at_indices ≡ seen → i < length seen → i < length indices
  index_within seen i are within =
      omega (arith, within, length-at_indices, ap (λ (fs : List GroupOccurrence). length fs) are)

  -- the occurrence at one of the indices
  pub at_indices-at : (i index : ℕ) → slice_get indices i ≡ Some index
      → slice_get at_indices i ≡ option_map without_group (slice_get occurrences index)
  at_indices-at i index at = search (rules, slice_get-map, slice_get-get_or, Lists.AllByRecursion-at)

-- one more occurrence of a prefix: its value, and its position with its value
module _ (occurrences : List GroupOccurrence) (i : ℕ) (occurrence : GroupOccurrence)
    (at : slice_get occurrences i ≡ Some occurrence) where
  pub values-more : values_of (take (i + 1) occurrences) ≡ values_of (take i occurrences) ++ values_of (occurrence ∷ [])
  values-more = ap values_of (Lists.take_more_at occurrences i occurrence at)
      ∙ filter_map-append (λ (occurrence : GroupOccurrence). occurrence.value) (take i occurrences) (occurrence ∷ [])

  pub pairs-more : pairs_of (take (i + 1) occurrences) ≡ pairs_of (take i occurrences) ++ pairs_of (occurrence ∷ [])
  pairs-more = ap pairs_of (Lists.take_more_at occurrences i occurrence at)
      ∙ filter_map-append pair_of (take i occurrences) (occurrence ∷ [])

-- with an occurrence that has a value, there are values
pub value_given : (occurrences : List GroupOccurrence) (i : ℕ) (occurrence : GroupOccurrence) (value : Text)
    → slice_get occurrences i ≡ Some occurrence → occurrence.value ≡ Some value → values_of occurrences ≢ []
value_given [] i occurrence value at given none = cc at
value_given (first ∷ occurrences) zero occurrence value at given none = search rules
value_given (first ∷ occurrences) (suc i) occurrence value at given none =
    search (rules, value_given occurrences i occurrence value)

-- two occurrences as they are read, compared like in the code
abbrev pub same_read : Option (ℕ × Option (Bor Text)) → Option (ℕ × Option (Bor Text)) → Bool
same_read =
    option_eq (λ a b. a.0 == b.0 && option_eq
    (λ text other. pointwise ◌==◌ text.now other.now) a.1 b.1)

module _ (occurrences others : List GroupOccurrence) (i : ℕ) (a b : Option (ℕ × Option (Bor Text)))
    (is : option_map borrowed_occurrence a ≡ slice_get occurrences i)
    (other_is : option_map borrowed_occurrence b ≡ slice_get others i) where
  here : option_eq same_group_occurrence (slice_get occurrences i) (slice_get others i) ≡ same_read a b
  here = (λ j. option_eq same_group_occurrence (sym is j) (sym other_is j)) ∙ (search rules)

  -- occurrences that read as different
  pub occurrences-differ : same_read a b ≡ false → pointwise same_group_occurrence occurrences others ≡ false
  occurrences-differ differ = Lists.pointwise-differ same_group_occurrence occurrences others i (here ∙ differ)

  -- one more occurrence that reads as equal
  pub occurrences-same : same_read a b ≡ true
      → pointwise same_group_occurrence (take i occurrences) (take i others) ≡ true
      → pointwise same_group_occurrence (take (i + 1) occurrences) (take (i + 1) others) ≡ true
  occurrences-same same before = search (rules, Lists.pointwise-take_more)
