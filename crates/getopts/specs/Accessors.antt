-- What the accessors of options and matches return, in terms of their groups.
use Rattle.std.specs.Prelude.{◌≡◌, ℕ, Bool, List, [], ◌∷◌, map, length, nat_lt, IsSome, Option}
use Rattle.std.specs.Prelude.{Some, None, MatchOption, IsSomeAnd, Result, Ok, slice_get, unwrap_or}
use Rattle.std.specs.Result.{result_transpose}
use Rattle.std.specs.List.{AllByRecursion, filter_map}
use Rattle.std.specs.Option.{option_copied, option_map, option_map_or, option_or}
use Rattle.std.specs.Borrow.{Bor}
use Rattle.std.specs.String.{string_bytes}
use Rattle.std.specs.declared.string.String.{String}
use Rattle.std.specs.declared.alloc.Global.{Global}
use Rattle.getopts.specs.Names.{Text, Names, IsLawfullyNamed, resolution}
use Rattle.getopts.specs.Matches.{GroupOccurrence, MatchedGroup}
use Rattle.getopts.specs.Options.{Group}
use Rattle.getopts.specs.Reading.{Given, option, free_word}
use Rattle.getopts.specs.declared.groups.OptGroup.{OptGroup}
use Rattle.getopts.specs.declared.scan.Given as Borrowed
use Rattle.getopts.specs.declared.scan.Given.TheVariants as borrowed

abbrev pub held_names : List MatchedGroup → List Names
held_names groups = map (λ group. group.signature.names) groups

abbrev pub opt_place : List MatchedGroup → Text → Option ℕ
opt_place groups name = resolution (held_names groups) name

-- The name is defined: it resolves to a group.
abbrev pub IsDefined : List MatchedGroup → Text → Type 0
IsDefined groups name = IsSome (opt_place groups name)

-- Each name is defined.
abbrev pub AreDefined : List MatchedGroup → List Text → Type 0
AreDefined groups names = AllByRecursion (IsDefined groups) names

-- Each group in the matches has valid names.
abbrev pub HaveLawfulNames : List MatchedGroup → Type 0
HaveLawfulNames groups = AllByRecursion (λ group. IsLawfullyNamed group.signature.names) groups

abbrev pub occurrences_of_group : List MatchedGroup → ℕ → List GroupOccurrence
occurrences_of_group groups place = option_map_or (λ group. group.occurrences) (slice_get groups place) []

abbrev pub occurrences_of_name : List MatchedGroup → Text → List GroupOccurrence
occurrences_of_name groups name =
    option_map_or (occurrences_of_group groups) (opt_place groups name) []

abbrev pub is_present : List MatchedGroup → Text → Bool
is_present groups name = nat_lt 0 (length (occurrences_of_name groups name))

abbrev pub borrowed_occurrence : ℕ × Option (Bor Text) → GroupOccurrence
borrowed_occurrence pair = record { position = pair.0; value = option_copied pair.1 }

abbrev pub borrowed_given : Borrowed.Given → Given
borrowed_given (borrowed.Option place value) = option place (option_copied value)
borrowed_given (borrowed.Free word) = free_word word.now

abbrev pub borrowed_group : OptGroup → Group
borrowed_group group = record {
  signature = record {
    names = record { short = group.short_name.now; long = group.long_name.now };
    kind = group.hasarg;
    occur = group.occur;
  };
  hint = group.hint.now;
  description = group.desc.now;
}

abbrev pub pair_view : ℕ × String Global → ℕ × Text
pair_view pair = (pair.0, string_bytes pair.1)

abbrev pub positions_of : List GroupOccurrence → List ℕ
positions_of occurrences = map (λ occurrence. occurrence.position) occurrences

abbrev pub each_value : List GroupOccurrence → List (Option Text)
each_value occurrences = map (λ occurrence. occurrence.value) occurrences

abbrev pub values_of : List GroupOccurrence → List Text
values_of occurrences = filter_map (λ occurrence. occurrence.value) occurrences

abbrev pub pair_of : GroupOccurrence → Option (ℕ × Text)
pair_of occurrence = option_map (λ value. (occurrence.position, value)) occurrence.value

abbrev pub pairs_of : List GroupOccurrence → List (ℕ × Text)
pairs_of occurrences = filter_map pair_of occurrences

-- the value of the first occurrence, which may have none even if a later occurrence has one
abbrev pub first_value : List GroupOccurrence → Option Text
first_value [] = None
first_value (occurrence ∷ occurrences) = occurrence.value

-- the value of the first occurrence, or this text if it has none
abbrev pub first_value_or : List GroupOccurrence → Text → Option Text
first_value_or [] fallback = None
first_value_or (occurrence ∷ occurrences) fallback = Some (unwrap_or occurrence.value fallback)

-- the first `first_value` that exists, if names are tried in order
abbrev pub first_value_among : List MatchedGroup → List Text → Option Text
first_value_among groups [] = None
first_value_among groups (name ∷ names) =
    option_or (first_value (occurrences_of_name groups name)) (first_value_among groups names)

-- If there is a value, this is what parsing it gives. Otherwise, this is `Ok None`.
abbrev pub IsParsedAs : {T E : Type 0} → (Text → Result T E → Type 0)
    → Option Text → Result (Option T) E → Type 0
IsParsedAs gives value result =
    MatchOption value (result ≡ Ok None) (λ text. IsSomeAnd (result_transpose result) (gives text))

-- If there is a value, this is what parsing it gives. Otherwise, this is the default.
abbrev pub IsParsedOr : {T E : Type 0} → (Text → Result T E → Type 0)
    → Option Text → T → Result T E → Type 0
IsParsedOr gives value default result = MatchOption value (result ≡ Ok default) (λ text. gives text result)
