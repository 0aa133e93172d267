-- Exactly one of three options, whose value is a list of ranges, and the program's own errors.
use Rattle.std.specs.Prelude.{◌≡◌, ◌≤◌, ◌==◌, ⊤, ◌⊎◌, ℕ, if◌then◌else◌, nat_lt, List, [], ◌∷◌, ◌++◌}
use Rattle.std.specs.Prelude.{map, codes, length, Option, Some, None, Result, Ok, Err}
use Rattle.std.specs.List.{after_first, before_first, position_or_len, slice_split}
use Rattle.std.specs.Option.{option_map}
use Rattle.std.specs.Str.Parse.{ParsesUnsigned}
use Rattle.std.specs.String.{string_bytes}
use Rattle.std.specs.declared.num.ParseIntError.{ParseIntError}
use Rattle.getopts.specs.Prelude.{Declared, Fault, Matched, Text, fail_text, fault_of}
use Rattle.getopts.specs.Prelude.{optopt, options_of}
use Rattle.getopts.specs.declared.fail.Fail.{Fail}
use Rattle.getopts.specs.declared.fail.Fail.TheVariants as fail
use Rattle.getopts_uses.specs.Checked.{value_of}
use Rattle.getopts_uses.specs.declared.cut.Cut.{Cut}
use Rattle.getopts_uses.specs.declared.cut.Range.{Range}
use Rattle.getopts_uses.specs.declared.cut.Refusal.{Refusal}
use Rattle.getopts_uses.specs.declared.cut.Refusal.TheVariants as refusal
use Rattle.getopts_uses.specs.declared.cut.Unit as unit
use Rattle.getopts_uses.specs.declared.cut.Unit.TheVariants.{Bytes, Characters, Fields}

-- the options
abbrev pub cut_options : Declared
cut_options = options_of (
    optopt (codes "b") (codes "bytes") (codes "print these bytes") (codes "LIST")
    ∷ optopt (codes "c") (codes "characters") (codes "print these characters") (codes "LIST")
    ∷ optopt (codes "f") (codes "fields") (codes "print these fields") (codes "LIST")
    ∷ [])

-- the program's error for a `Fail`; out of memory isn't an error of the command line
abbrev pub refusal_of : Fail → Refusal
refusal_of fail.OutOfMemory = refusal.OutOfMemory
refusal_of fail = refusal.Line fail

-- the printed text of an error
abbrev pub refusal_text : Refusal → Text
refusal_text (refusal.Line (fail.ArgumentMissing name)) =
    codes "cut: option '" ++ (string_bytes name ++ codes "' requires an argument")
refusal_text (refusal.Line (fail.OptionDuplicated name)) = codes "cut: only one list may be specified"
refusal_text (refusal.Line fail) = codes "cut: " ++ fail_text fail
refusal_text refusal.NoList = codes "cut: you must specify a list of bytes, characters, or fields"
refusal_text refusal.Lists = codes "cut: only one list may be specified"
refusal_text (refusal.Part part) = codes "cut: invalid range '" ++ (string_bytes part ++ codes "'")
refusal_text refusal.OutOfMemory = codes "cut: out of memory"

-- the only list of those for bytes, characters and fields, with its unit
abbrev pub only_list : Option Text → Option Text → Option Text → Result (unit.Unit × Text) Refusal
only_list (Some list) None None = Ok (Bytes, list)
only_list None (Some list) None = Ok (Characters, list)
only_list None None (Some list) = Ok (Fields, list)
only_list None None None = Err refusal.NoList
only_list bytes characters fields = Err refusal.Lists

-- the parts between the commas of a list; 44 is the byte `,`
abbrev pub parts_of : Text → List Text
parts_of list = slice_split (λ b. b == 44) list

-- the ends of a range: the texts before and after its first `-` (byte 45), or twice the text itself
abbrev pub ends : Text → Text × Text
ends text = if nat_lt (position_or_len (λ b. b == 45) text) (length text)
    then (before_first (λ b. b == 45) text, after_first (λ b. b == 45) text) else (text, text)

-- The text is this number.
abbrev pub IsNumber : Text → ℕ → Type 0
IsNumber text n = ParsesUnsigned {E = ParseIntError} 32 10 text (Ok n)

-- The text is this range: `N-M`, or `N` for `N-N`, where N is at least 1 and at most M.
abbrev pub IsRange : Text → Range → Type 0
IsRange text range = IsNumber (ends text).0 range.first × IsNumber (ends text).1 range.last
    × (1 ≤ range.first) × (range.first ≤ range.last)

-- These are the ranges that texts are, or an error with the first text that isn't a range.
abbrev pub AreRangesOrError : List Text → Result (List Range) Refusal → Type 0
AreRangesOrError texts (Err refusal.OutOfMemory) = ⊤
AreRangesOrError [] (Ok []) = ⊤
AreRangesOrError (text ∷ texts) (Ok (range ∷ ranges)) =
    IsRange text range × AreRangesOrError texts (Ok ranges)
AreRangesOrError (text ∷ texts) (Err (refusal.Part part)) =
    ((string_bytes part ≡ text) × ((range : Range) → ¬ (IsRange text range)))
    ⊎ ((range : Range) × IsRange text range × AreRangesOrError texts (Err (refusal.Part part)))
AreRangesOrError texts result = ⊥

-- This is what matches with this list cut, or why they cut nothing.
abbrev pub IsCutBy : Result (unit.Unit × Text) Refusal → Matched → Result Cut Refusal → Type 0
IsCutBy list matches (Err refusal.OutOfMemory) = ⊤
IsCutBy (Ok (unit, list)) matches (Ok cut) = (cut.unit ≡ unit)
    × AreRangesOrError (parts_of list) (Ok cut.ranges.items) × (map string_bytes cut.files.items ≡ matches.free)
IsCutBy (Ok (unit, list)) matches (Err error) = AreRangesOrError (parts_of list) (Err error)
IsCutBy (Err refused) matches (Err error) = error ≡ refused
IsCutBy list matches result = ⊥

-- This is what a command line cuts, or why it cuts nothing.
abbrev pub IsCutOrError : Result Matched Fault → Result Cut Refusal → Type 0
IsCutOrError line (Err refusal.OutOfMemory) = ⊤
IsCutOrError line (Err (refusal.Line fail)) = option_map Err (fault_of fail) ≡ Some line
IsCutOrError (Ok matches) result = IsCutBy (only_list (value_of matches (codes "bytes"))
    (value_of matches (codes "characters")) (value_of matches (codes "fields"))) matches result
IsCutOrError (Err fault) result = ⊥
