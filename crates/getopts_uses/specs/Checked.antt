-- Checked values: a number within bounds, a choice, and pairs.
use Rattle.std.specs.Prelude.{◌≡◌, ◌≤◌, ◌==◌, ⊤, ℕ, if◌then◌else◌, nat_lt, List, [], ◌∷◌}
use Rattle.std.specs.Prelude.{map, codes, length, Option, Some, None, Result, Ok, Err}
use Rattle.std.specs.List.{after_first, before_first, position_or_len}
use Rattle.std.specs.Option.{option_map, option_map_or}
use Rattle.std.specs.Str.{bytes_eq}
use Rattle.std.specs.Str.Parse.{ParsesUnsigned}
use Rattle.std.specs.String.{string_bytes}
use Rattle.std.specs.declared.alloc.Global.{Global}
use Rattle.std.specs.declared.num.ParseIntError.{ParseIntError}
use Rattle.std.specs.declared.vec.Vec.{Vec}
use Rattle.getopts.specs.Prelude.{Declared, Fault, Matched, Text, fault_of, first_value}
use Rattle.getopts.specs.Prelude.{first_value_or, occurrences_of_name, optflagopt, optmulti}
use Rattle.getopts.specs.Prelude.{options_of, optopt, values_of}
use Rattle.getopts.specs.declared.fail.Fail.{Fail}
use Rattle.getopts.specs.declared.fail.Fail.TheVariants as fail
use Rattle.getopts_uses.specs.declared.checked.Color.{Color}
use Rattle.getopts_uses.specs.declared.checked.Color.TheVariants.{Auto, Always, Never}
use Rattle.getopts_uses.specs.declared.checked.Pair.{Pair}
use Rattle.getopts_uses.specs.declared.checked.Refusal.{Refusal}
use Rattle.getopts_uses.specs.declared.checked.Refusal.TheVariants as refusal
use Rattle.getopts_uses.specs.declared.checked.Settings.{Settings}

-- the options
abbrev pub checked_options : Declared
checked_options = options_of (
    optopt (codes "j") (codes "jobs") (codes "run NUMBER jobs at once, from 1 to 64") (codes "NUMBER")
    ∷ optflagopt [] (codes "color") (codes "colour: auto, always or never") (codes "WHEN")
    ∷ optmulti (codes "D") (codes "set") (codes "set KEY to VALUE") (codes "KEY=VALUE")
    ∷ [])

-- The text is this number, within these bounds.
abbrev pub IsWithin : ℕ → ℕ → Text → ℕ → Type 0
IsWithin low high text number =
    ParsesUnsigned {E = ParseIntError} 32 10 text (Ok number) × (low ≤ number) × (number ≤ high)

-- This is the number that an option's value is, or the default, or an error.
abbrev pub IsNumberOrError : Text → ℕ → ℕ → ℕ → Option Text → Result ℕ Refusal → Type 0
IsNumberOrError option low high default text (Err refusal.OutOfMemory) = ⊤
IsNumberOrError option low high default None (Ok number) = number ≡ default
IsNumberOrError option low high default (Some text) (Ok number) = IsWithin low high text number
IsNumberOrError option low high default (Some text) (Err (refusal.Number told given least most)) =
    (told.now ≡ option) × (string_bytes given ≡ text) × (least ≡ low) × (most ≡ high)
    × ((number : ℕ) → ¬ (IsWithin low high text number))
IsNumberOrError option low high default text result = ⊥

-- the choice that a word names
abbrev pub color_named : Text → Option Color
color_named word =
    if bytes_eq word (codes "auto") then Some Auto
    else (if bytes_eq word (codes "always") then Some Always
    else (if bytes_eq word (codes "never") then Some Never else None))

-- This is the choice that a word names, or `auto` if there is none, or an error.
abbrev pub IsColorOrError : Text → Option Text → Result Color Refusal → Type 0
IsColorOrError option text (Err refusal.OutOfMemory) = ⊤
IsColorOrError option None (Ok color) = color ≡ Auto
IsColorOrError option (Some word) (Ok color) = color_named word ≡ Some color
IsColorOrError option (Some word) (Err (refusal.Choice told given)) =
    (told.now ≡ option) × (string_bytes given ≡ word) × (color_named word ≡ None)
IsColorOrError option word result = ⊥

-- the text before and after the first `=` of a text, if it has one; 61 is the byte `=`
abbrev pub cut : Text → Option (Text × Text)
cut text = if nat_lt (position_or_len (λ b. b == 61) text) (length text)
    then Some (before_first (λ b. b == 61) text, after_first (λ b. b == 61) text) else None

-- a key and its value, as texts
abbrev pub pair_view : Pair → Text × Text
pair_view pair = (string_bytes pair.key, string_bytes pair.value)

-- This is the pair that a text is, or an error.
abbrev pub IsPairOrError : Text → Text → Result Pair Refusal → Type 0
IsPairOrError option text (Err refusal.OutOfMemory) = ⊤
IsPairOrError option text (Ok pair) = cut text ≡ Some (pair_view pair)
IsPairOrError option text (Err (refusal.Pair told given)) =
    (told.now ≡ option) × (string_bytes given ≡ text) × (cut text ≡ None)
IsPairOrError option text result = ⊥

-- the first of these texts that isn't a pair
abbrev pub first_uncut : List Text → Option Text
first_uncut [] = None
first_uncut (text ∷ texts) = option_map_or (λ pair. first_uncut texts) (cut text) (Some text)

-- These are the pairs that texts are, or an error with the first text that isn't a pair.
abbrev pub ArePairsOrError : Text → List Text → Result (Vec Pair Global) Refusal → Type 0
ArePairsOrError option texts (Err refusal.OutOfMemory) = ⊤
ArePairsOrError option texts (Ok pairs) =
    map cut texts ≡ map (λ pair. Some (pair_view pair)) pairs.items
ArePairsOrError option texts (Err (refusal.Pair told given)) =
    (told.now ≡ option) × (first_uncut texts ≡ Some (string_bytes given))
ArePairsOrError option texts result = ⊥

-- an option's value
abbrev pub value_of : Matched → Text → Option Text
value_of matches name = first_value (occurrences_of_name matches.groups name)

-- This is the number of jobs that matches give: from 1 to 64, and 1 if they give none.
abbrev pub AreJobsOf : Matched → Result ℕ Refusal → Type 0
AreJobsOf matches jobs =
    IsNumberOrError (codes "jobs") 1 64 1 (value_of matches (codes "jobs")) jobs

-- This is when the matches ask to colour: always, if the option has no value.
abbrev pub IsColorOf : Matched → Result Color Refusal → Type 0
IsColorOf matches color = IsColorOrError (codes "color")
    (first_value_or (occurrences_of_name matches.groups (codes "color")) (codes "always")) color

-- These are the pairs that matches set.
abbrev pub AreSetsOf : Matched → Result (Vec Pair Global) Refusal → Type 0
AreSetsOf matches sets = ArePairsOrError (codes "set") (values_of (occurrences_of_name matches.groups (codes "set"))) sets

-- the program's error for a `Fail`; out of memory isn't an error of the command line
abbrev pub refusal_of : Fail → Refusal
refusal_of fail.OutOfMemory = refusal.OutOfMemory
refusal_of fail = refusal.Line fail

-- This is what a command line sets, or why it sets nothing.
abbrev pub IsSettingsOrError : Result Matched Fault → Result Settings Refusal → Type 0
IsSettingsOrError line (Err refusal.OutOfMemory) = ⊤
IsSettingsOrError line (Err (refusal.Line fail)) = option_map Err (fault_of fail) ≡ Some line
IsSettingsOrError (Ok matches) (Ok settings) =
    AreJobsOf matches (Ok settings.jobs) × IsColorOf matches (Ok settings.color)
    × AreSetsOf matches (Ok settings.sets) × (map string_bytes settings.files.items ≡ matches.free)
IsSettingsOrError (Ok matches) (Err (refusal.Number told given low high)) =
    AreJobsOf matches (Err (refusal.Number told given low high))
IsSettingsOrError (Ok matches) (Err (refusal.Choice told given)) =
    ((jobs : ℕ) × AreJobsOf matches (Ok jobs)) × IsColorOf matches (Err (refusal.Choice told given))
IsSettingsOrError (Ok matches) (Err (refusal.Pair told given)) =
    ((jobs : ℕ) × AreJobsOf matches (Ok jobs)) × ((color : Color) × IsColorOf matches (Ok color))
    × AreSetsOf matches (Err (refusal.Pair told given))
IsSettingsOrError (Err fault) result = ⊥
