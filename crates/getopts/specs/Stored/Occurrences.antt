-- The occurrences of a command line, and those of one group, as they are stored.
use Rattle.std.specs.Prelude.{◌≡◌, ◌<◌, ◌==◌, ◌/◌, ◌%◌, if◌then◌else◌, nat_le, ℕ, List, [], ◌∷◌, ◌++◌}
use Rattle.std.specs.Prelude.{length, map, get_or, Option, Some, None, slice_get, slice_range}
use Rattle.std.specs.List.{AllByRecursion}
use Rattle.std.specs.Str.{IsCharBoundary, IsUtf8}
use Rattle.std.specs.String.{string_bytes}
use Rattle.getopts.specs.Names.{Text}
use Rattle.getopts.specs.Matches.{GroupOccurrence, without_group}
use Rattle.getopts.specs.Reading.{Occurrence}
use Rattle.getopts.specs.declared.occurrences.OccurrenceRecord.{OccurrenceRecord}
use Rattle.getopts.specs.declared.occurrences.LineOccurrences.TheInside.{Inside}

-- where a value ends: where the value of the next record starts, or where all values end
abbrev pub end_by : Text → Option OccurrenceRecord → ℕ
end_by values (Some next) = next.value / 2
end_by values None = length values

abbrev pub text_between : Text → ℕ → ℕ → Option Text
text_between values start end = if nat_le start end then Some (slice_range values start end) else None

-- the value of a record that stores this number; `next` is the record after it
abbrev pub value_in : Text → ℕ → Option OccurrenceRecord → Option Text
value_in values number next =
    if number % 2 == 1 then text_between values (number / 2) (end_by values next) else None

abbrev pub occurrence_in : Text → OccurrenceRecord → Option OccurrenceRecord → Occurrence
occurrence_in values stored next = record {
  mention = record { place = stored.place; value = value_in values stored.value next };
  position = stored.position;
}

abbrev pub occurrences_in : Text → List OccurrenceRecord → List Occurrence
occurrences_in values [] = []
occurrences_in values (stored ∷ more) =
    occurrence_in values stored (slice_get more 0) ∷ occurrences_in values more

-- The value was appended, if there is one, and its record stores this number.
pub record IsAdded (old new : Text) (value : Option Text) (number : ℕ) : Type 0 where
  pub more : Text
  pub utf8 : IsUtf8 more
  pub grown : new ≡ old ++ more
  pub starts : number / 2 ≡ length old
  pub value_is : value_in (old ++ more) number None ≡ value

abbrev pub found_view : Inside → List Occurrence
found_view inside = occurrences_in (string_bytes inside.values) inside.records.items

-- The value of each record starts at a character.
abbrev pub HaveStarts : Text → List OccurrenceRecord → Type 0
HaveStarts values records = AllByRecursion (λ stored. IsCharBoundary values (stored.value / 2)) records

-- The values of the records are among all values.
abbrev pub HaveTheirValues : Inside → Type 0
HaveTheirValues inside = HaveStarts (string_bytes inside.values) inside.records.items

-- a placeholder for what is past the last occurrence
abbrev pub no_occurrence : Occurrence
no_occurrence = record { mention = record { place = 0; value = None }; position = 0 }

abbrev pub occurrences_at_indices : List Occurrence → List ℕ → List GroupOccurrence
occurrences_at_indices occurrences indices =
    map (λ index. without_group (get_or occurrences index no_occurrence)) indices

-- These are indices of occurrences.
abbrev pub AreIndicesOf : List Occurrence → List ℕ → Type 0
AreIndicesOf occurrences indices = AllByRecursion (λ index. index < length occurrences) indices
