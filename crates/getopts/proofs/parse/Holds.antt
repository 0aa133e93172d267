-- What accepted matches say about the declared names.
use Rattle.std.proofs.Common.{◌≡◌, ◌<◌, ℕ, zero, suc, true, List, [], rules, ◌∷◌, drop, length, map, slice_get}
use Rattle.std.proofs.Common.{Option, Some, None, IfSome, IsSome, refl, ap, sym, subst, ◌∙◌, arith, zero-add}
use Rattle.std.specs.List.{AllByRecursion}
use Rattle.std.specs.Option.{option_and_then, option_map, option_map_or}
use Rattle.std.proofs.lemmas.Bool.{eqb-true}
use Rattle.getopts.specs.Names.{Text, resolution}
use Rattle.getopts.specs.Options.{Signature, Group, Declared, names_of, signatures_of, grammar_of, kind_of, occur_of}
use Rattle.getopts.specs.Reading.{Occurrence, spelled_all, occurrences_of, stop, FitsKind, free_words, IsReading}
use Rattle.getopts.specs.Reading.{Given, option, free_word, options_in, order_of_reading, Reading}
use Rattle.getopts.specs.Matches.{GroupOccurrence, Matched, MatchedGroup, occurrences_mentioning, matched, fits_count}
use Rattle.getopts.specs.Matches.{KeepsCounts}
use Rattle.getopts.specs.Accessors.{opt_place, occurrences_of_name, occurrences_of_group, first_value}
use Rattle.getopts.specs.Parse.{IsAccepted, HasReading, AreGroupsOf, HaveValuesByKind, FitOptions}
use Rattle.getopts.specs.Parse.{FitOptionsAndCounts, EndsInTrailing, kind_at, IsDeclared}
use Rattle.getopts.specs.Stored.Signatures.{kinds_of}
use Rattle.getopts.specs.declared.kinds.HasArg.{HasArg}
use Rattle.getopts.specs.declared.kinds.HasArg.TheVariants.{Yes}
use Rattle.getopts.specs.declared.kinds.Occur.{Occur}
use Rattle.getopts.specs.declared.kinds.Occur.TheVariants.{Req}
use Rattle.getopts.proofs.Lists.{AllByRecursion-filter, AllByRecursion-map, AllByRecursion-unmap}
use Rattle.getopts.proofs.counts.Groups.{AllByRecursion-matched}
use Rattle.getopts.proofs.Reading.Positions.{options_in-order}
use Rattle.getopts.proofs.canon.Lines.{FitsGroup, FitsGroup-within, IsFitting-reading, IsGood, IsGood-reading}
use Rattle.getopts.proofs.Stored.Matches.{signatures-matched, occurrences-matched, opt_place-signatures}
use Rattle.getopts.proofs.Reading.Laws.{TrailingStartIsAfterStop_lem, HavePositionsInOrder-matched}
use Rattle.getopts.proofs.Reading.Readings.{spelled_all-append}
use Rattle.getopts.proofs.Stored.Signatures.{names-signatures_of, kind-signatures_of}
use Rattle.std.proofs.lemmas.List.{length-map}
use Rattle.std.proofs.lemmas.Grind.{common_steps}

-- each occurrence has a value or none, as this kind of argument requires
abbrev HaveValuesFor : HasArg → List GroupOccurrence → Type 0
HaveValuesFor kind occurrences = AllByRecursion (λ occurrence. FitsKind kind occurrence.value) occurrences

-- a name resolves alike among groups and among the matched groups
pub opt_place-groups : (options : Declared) (groups : List MatchedGroup) → AreGroupsOf options groups
    → (name : Text) → resolution (names_of options.groups) name ≡ opt_place groups name
opt_place-groups options groups are name = search (rules, names-signatures_of, opt_place-signatures)

-- the occurrences of a name are those that mention the group that it resolves to
pub occurrences-named : {B : Type 0} (f : List GroupOccurrence → B) (g : ℕ → B) (options : Declared)
    → (occurrences : List Occurrence)
    → ((place : ℕ) → f (occurrences_mentioning place occurrences) ≡ g place) → (name : Text)
    → f (occurrences_of_name (matched 0 (signatures_of options.groups) occurrences) name)
    ≡ option_map_or g (resolution (names_of options.groups) name) (f [])
occurrences-named f g options occurrences each name =
    search (rules, opt_place-groups, signatures-matched, occurrences-matched, length-map)

-- A fact about each matched group, and what its signature says, holds for the group at a place.
module _ {X : Type 0} (f : Signature → X) (P : X → List GroupOccurrence → Type 0) where
  at_place : (groups : List Group) (others : List MatchedGroup)
      → map (λ (group : MatchedGroup). group.signature) others ≡ signatures_of groups
      → AllByRecursion (λ (group : MatchedGroup). P (f group.signature) group.occurrences) others → (place : ℕ) (x : X)
      → option_map (λ (group : Group). f group.signature) (slice_get groups place) ≡ Some x
      → P x (occurrences_of_group others place)
  at_place [] others are each place x there = cc there
  at_place (group ∷ groups) [] are each place x there = cc are
  at_place (group ∷ groups) (first ∷ others) are each zero x there = search rules
  at_place (group ∷ groups) (first ∷ others) are each (suc place) x there =
      let same : map (λ (group : MatchedGroup). group.signature) others ≡ signatures_of groups = cc in
      at_place groups others same each.1 place x there

  -- and for the group that a name resolves to
  at_name : (options : Declared) (groups : List MatchedGroup) → AreGroupsOf options groups
      → AllByRecursion (λ (group : MatchedGroup). P (f group.signature) group.occurrences) groups
      → (name : Text) (x : X)
      → option_and_then (λ place. option_map (λ (group : Group). f group.signature)
      (slice_get options.groups place)) (resolution (names_of options.groups) name) ≡ Some x
      → P x (occurrences_of_name groups name)
  at_name options groups are each name x is = search (rules, opt_place-groups, at_place)

module _ (options : Declared) (groups : List MatchedGroup) (are : AreGroupsOf options groups) where
  -- each option was given as often as its kind of occurrence allows
  counted-groups : KeepsCounts groups → (name : Text) (occur : Occur) → occur_of options.groups name ≡ Some occur
      → fits_count occur (length (occurrences_of_name groups name)) ≡ true
  counted-groups keeps = at_name (λ signature. signature.occur)
      (λ occur occurrences. fits_count occur (length occurrences) ≡ true) options groups are keeps

  -- occurrences that have values have a first one
  first_there : (occurrences : List GroupOccurrence) → HaveValuesFor Yes occurrences → 0 < length occurrences
      → IsSome (first_value occurrences)
  first_there occurrences each some = search rules

  -- each option that needs an argument and was given has a value
  needed-groups : HaveValuesByKind groups → (name : Text) → kind_of options.groups name ≡ Some Yes
      → 0 < length (occurrences_of_name groups name) → IsSome (first_value (occurrences_of_name groups name))
  needed-groups have name needs = first_there (occurrences_of_name groups name)
      (at_name (λ signature. signature.kind) HaveValuesFor options groups are have name Yes needs)

-- an occurrence of a group of a kind
FitsKind-place : (groups : List Group) (o : Occurrence) (place : ℕ) (kind : HasArg) → kind_at groups place ≡ Some kind
    → FitsGroup groups o.mention → o.mention.place ≡ place → FitsKind kind o.mention.value
FitsKind-place groups o place kind there fits here = search rules

-- the occurrences of one group have values as its kind requires
HaveValuesFor-occurrences_mentioning : (groups : List Group) (place : ℕ) (kind : HasArg)
    → kind_at groups place ≡ Some kind → (occurrences : List Occurrence)
    → AllByRecursion (λ o. FitsGroup groups o.mention) occurrences
    → HaveValuesFor kind (occurrences_mentioning place occurrences)
HaveValuesFor-occurrences_mentioning groups place kind there occurrences each =
    search (rules, AllByRecursion-map, AllByRecursion-filter, FitsKind-place)

module _ (options : Declared) (words : List Text) (matches : Matched)
    (has : HasReading options words matches) where
  groups_are : matches.groups
      ≡ matched 0 (signatures_of options.groups) (occurrences_of (grammar_of options) has.reading)
  groups_are = ap (λ (m : Matched). m.groups) has.matches_are

  -- and values as their kinds require
  HaveValuesByKind-read : HaveValuesByKind matches.groups
  HaveValuesByKind-read =
      let occurrences = occurrences_of (grammar_of options) has.reading in
      let fits = IsFitting-reading options has.reading words ((has.only has.reading).1 refl) in
      let each : AllByRecursion (λ o. FitsGroup options.groups o.mention) occurrences =
      search (rules, AllByRecursion-unmap) in
      subst HaveValuesByKind (sym groups_are)
      (AllByRecursion-matched (λ group. HaveValuesFor group.signature.kind group.occurrences) 0
      (signatures_of options.groups) occurrences (λ i signature there. rw zero-add
      (HaveValuesFor-occurrences_mentioning options.groups i signature.kind
      (kind-signatures_of options.groups i (kinds_of signature)
      (sym (ap (option_map kinds_of) there))) occurrences each)))

  -- and the declared facts about their groups
  pub FitOptions-read : FitOptions options matches.groups
  FitOptions-read =
      search (
        rules,
        HavePositionsInOrder-matched,
        HaveValuesByKind-read,
        needed-groups,
        signatures-matched,
        opt_place-groups,
      )

-- accepted matches also keep the counts
pub FitOptionsAndCounts-accepted : (options : Declared) (words : List Text) (matches : Matched)
    → IsAccepted options words matches → FitOptionsAndCounts options matches.groups
FitOptionsAndCounts-accepted options words matches accepted =
    let given = FitOptions-read options words matches accepted.read in
    record {
      given = given;
      counts_kept = accepted.counts;
      required = λ name required. eqb-true _ 1
          (counted-groups options matches.groups given.same_groups accepted.counts name Req required);
    }

-- the words end with the free words from the trailing start on, after `--`
pub EndsInTrailing-read : (options : Declared) (words : List Text) (matches : Matched)
    → HasReading options words matches → IfSome matches.trailing_start (EndsInTrailing words matches)
EndsInTrailing-read options words matches has = here matches.trailing_start refl where
  here : (start : Option ℕ) → matches.trailing_start ≡ start
      → IfSome start (EndsInTrailing words matches)
  here None is = tt
  here (Some start) is =
      let reads : IsReading (grammar_of options) has.reading words =
      (has.only has.reading).1 refl in
      let free : free_words has.reading ≡ matches.free =
      ap (λ (m : Matched). m.free) (sym has.matches_are) in
      let law = TrailingStartIsAfterStop_lem (grammar_of options) in
      let at = law.after_stop has.reading words start reads
      (ap (λ (m : Matched). m.trailing_start) (sym has.matches_are) ∙ is) in
      let tail_is : has.reading.tail ≡ stop (drop start matches.free) = rw free at at.tail_is in
      record {
        below = rw free at at.below;
        before = spelled_all has.reading.items [];
        words_are = grind (arith, common_steps, spelled_all-append);
      }

-- an order with only options that fit gives only what is declared
IsDeclared-options : (groups : List Group) (order : List Given)
    → AllByRecursion (IsGood groups) (options_in order) → AllByRecursion (IsDeclared groups) order
IsDeclared-options groups [] fit = fit
IsDeclared-options groups (option place value ∷ order) fit =
    let group = fit.0.fits in
    ((FitsGroup-within groups _ group, rw group.1 group.2), IsDeclared-options groups order fit.1)
IsDeclared-options groups (free_word word ∷ order) fit = (tt, IsDeclared-options groups order fit)

-- so does the order of a reading
pub IsDeclared-order : (options : Declared) (reading : Reading) (words : List Text)
    → IsReading (grammar_of options) reading words
    → AllByRecursion (IsDeclared options.groups) (order_of_reading (grammar_of options) reading)
IsDeclared-order options reading words reads = search (rules, IsDeclared-options, options_in-order, IsGood-reading)
