-- Lemmas for callers: matches that hold the same, positions, and canonical lines.
use Rattle.std.proofs.Common.{◌≡◌, ◌<◌, ℕ, zero, suc, Bool, true, false, List, [], ◌∷◌, length, nat_lt, Option, Some, Ok}
use Rattle.std.proofs.Common.{None, refl, ap, sym, ◌∙◌, not, rules, arith}
use Rattle.std.specs.List.{filter_map, cons_option, AllByRecursion, list_all}
use Rattle.std.proofs.lemmas.List.{length-map}
use Rattle.std.specs.Result.{result_map_both}
use Rattle.std.specs.Prelude.{IfNone, IsSome}
use Rattle.std.proofs.lemmas.Bool.{and_parts, not-true}
use Rattle.std.proofs.lemmas.Grind.{common_steps}
use Rattle.getopts.specs.Names.{Text, main_name}
use Rattle.getopts.specs.Options.{Declared, MayBeDeclared, Group}
use Rattle.getopts.specs.Reading.{Reading, Mention, holds_equals}
use Rattle.getopts.specs.Canon.{content_of, canonical_reading, with_setting, main_at}
use Rattle.getopts.specs.Parse.{IsWritten, KeepsLineLaws, IsUnwritable, HasReading}
use Rattle.getopts.specs.Matches.{GroupOccurrence, Matched, MatchedGroup, matches_of}
use Rattle.getopts.specs.ReadingLaws.{HavePositionsBelow}
use Rattle.getopts.proofs.Lists.{AllByRecursion-at}
use Rattle.getopts.specs.Accessors.{occurrences_of_name, each_value, first_value, is_present, values_of}
use Rattle.getopts.specs.Theorem.{HaveSameValues}
use Rattle.getopts.specs.Fail.{Fault}
use Rattle.getopts.specs.Results.{parse_result, canonical_result, written_line}
use Rattle.getopts.specs.declared.kinds.ParsingStyle.{ParsingStyle}
use Rattle.getopts.proofs.canon.Lines.{is_plain-from}
use Rattle.getopts.proofs.MainTheorem.SameContent.{LinesReadAgain_lem}
use Rattle.getopts.proofs.MainTheorem.Accepted.{accepted_reading-keeps}
pub use Rattle.getopts.proofs.MainTheorem.Accepted.{parse_result-accepted}

-- ---- matches that hold the same

first_of_values : List (Option Text) → Option Text
first_of_values [] = None
first_of_values (value ∷ more) = value

first_value-each : (occurrences : List GroupOccurrence)
    → first_value occurrences ≡ first_of_values (each_value occurrences)
unfolding first_of_values
first_value-each occurrences = search rules

values_of-each : (occurrences : List GroupOccurrence)
    → values_of occurrences ≡ filter_map (λ (value : Option Text). value) (each_value occurrences)
values_of-each [] = refl
values_of-each (occurrence ∷ occurrences) = ap (cons_option occurrence.value) (values_of-each occurrences)

module _ (matches other : Matched) (same : HaveSameValues matches other) where
  -- In matches that hold the same, an option has the same first value.
  pub same_first : (name : Text)
      → first_value (occurrences_of_name other.groups name) ≡ first_value (occurrences_of_name matches.groups name)
  same_first name = first_value-each _ ∙ ap first_of_values (same.values name) ∙ sym (first_value-each _)

  -- In matches that hold the same, an option has the same values.
  pub same_values : (name : Text)
      → values_of (occurrences_of_name other.groups name) ≡ values_of (occurrences_of_name matches.groups name)
  same_values name = search (rules, values_of-each)

  -- In matches that hold the same, an option has the same count.
  pub same_count : (name : Text)
      → length (occurrences_of_name other.groups name) ≡ length (occurrences_of_name matches.groups name)
  same_count name = search (rules, length-map)

  -- In matches that hold the same, an option was given in both or in neither.
  pub same_present : (name : Text) → is_present other.groups name ≡ is_present matches.groups name
  same_present name = ap (λ (count : ℕ). nat_lt 0 count) (same_count name)

-- ---- positions

module _ (groups : List MatchedGroup) (name : Text) where
  -- The positions of an option are below the number of words.
  pub positions_below : (count : ℕ) → HavePositionsBelow count groups
      → AllByRecursion (λ occurrence. occurrence.position < count) (occurrences_of_name groups name)
  positions_below count below = search (rules, AllByRecursion-at)

-- ---- canonical lines

-- The matches of a line and of its canonical line are seen alike, in all styles and modes.
pub results_again : {X : Type 0} (convert : Matched → X)
    → ((m n : Matched) → HaveSameValues m n → convert n ≡ convert m) → (options : Declared)
    → MayBeDeclared options.groups → KeepsLineLaws options
    → (words line : List Text) → IsWritten options words line
    → (style : ParsingStyle) (long_only : Bool)
    → result_map_both convert (λ (fault : Fault). fault)
    (parse_result (with_setting options style long_only) line)
    ≡ result_map_both convert (λ (fault : Fault). fault) (parse_result options words)
results_again {X} convert same options declared line_laws words line written style long_only =
    let with = written.accepted in
    let m = matches_of options with.reading in
    let has : HasReading options words m =
    record { reading = with.reading; only = with.only; matches_are = refl } in
    let back = LinesReadAgain_lem options declared line_laws words line m written has style long_only in
    let first = parse_result-accepted options declared words m
    (record { read = has; counts = with.counts }) in
    let second = parse_result-accepted (with_setting options style long_only) declared line
    back.again back.accepted in
    rw (first, second) (ap (λ (x : X). Ok x) (same m back.again back.same))

-- whether no main name contains `=`
abbrev pub are_mains_plain : List Group → Bool
are_mains_plain groups =
    list_all (λ group. not (holds_equals (main_name group.signature.names))) groups

plain_at : (groups : List Group) → are_mains_plain groups ≡ true → (place : ℕ)
    → holds_equals (main_at groups place) ≡ false
plain_at [] plain zero = refl
plain_at [] plain (suc place) = refl
plain_at (group ∷ groups) plain zero = not-true _ (and_parts _ _ plain).0
plain_at (group ∷ groups) plain (suc place) = plain_at groups (and_parts _ _ plain).1 place

all_plain : (groups : List Group) → are_mains_plain groups ≡ true → (ms : List Mention)
    → AllByRecursion (λ m. holds_equals (main_at groups m.place) ≡ false) ms
all_plain groups plain [] = tt
all_plain groups plain (m ∷ ms) = (plain_at groups plain m.place, all_plain groups plain ms)

-- If no main name contains `=`, accepted words have a canonical line. This is about what
-- `canonical` returns for these options, which are the caller's own.
pub always_some : {X : Type 0} (line : Option X) (options own : Declared) (words : List Text) → options ≡ own
    → are_mains_plain own.groups ≡ true → IfNone line (IsUnwritable options words) → IsSome line
always_some line options own words is plain none = search (rules, all_plain)

-- The canonical line of a canonical line is that line, in each style and mode.
pub canonical_again : (options : Declared) → MayBeDeclared options.groups → KeepsLineLaws options
    → (words line : List Text) → IsWritten options words line → (style : ParsingStyle) (long_only : Bool)
    → canonical_result (with_setting options style long_only) line ≡ Ok (Some line)
canonical_again options declared laws words line written style long_only =
    let other = with_setting options style long_only in
    let back = (laws words line written).reads_back style long_only in
    let reading = canonical_reading options.groups written.content in
    let make : Reading → Option (List Text) =
    λ reading. written_line options.groups (content_of other reading) in
    let said : make reading ≡ Some line = grind (arith, common_steps, is_plain-from) in
    search (rules, accepted_reading-keeps other declared line reading (rw (← written.line_is) at back.reads))
