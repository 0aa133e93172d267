-- The options of `seq`, and its operands, which may be negative numbers.
use Rattle.std.specs.Prelude.{◌==◌, ◌&&◌, ◌||◌, ℕ, if◌then◌else◌, nat_lt, List, [], ◌∷◌, Bool, true, false}
use Rattle.std.specs.Prelude.{codes, length, map, Option, None, Result, Ok, Err, unwrap_or}
use Rattle.std.specs.List.{slice_get, slice_index}
use Rattle.std.specs.Option.{option_copied}
use Rattle.getopts.specs.Prelude.{Declared, Fault, Left, Text, Trace, fails, free_word, gives, no_more}
use Rattle.getopts.specs.Prelude.{is_named, optflagmulti, option, options_of, optmulti, trace, whole}
use Rattle.getopts.specs.declared.kinds.ParsingStyle.TheVariants.{StopAtFirstFree}
use Rattle.getopts_uses.specs.declared.seq.Seq.{Seq}

-- the options, each of which may be repeated
abbrev pub seq_options : Declared
seq_options = record (options_of (
    optmulti (codes "f") (codes "format") (codes "print numbers as FORMAT") (codes "FORMAT")
    ∷ optmulti (codes "s") (codes "separator") (codes "print TEXT between numbers") (codes "TEXT")
    ∷ optflagmulti (codes "w") (codes "equal-width") (codes "print leading zeros")
    ∷ [])) { style = StopAtFirstFree }

-- whether a word begins like a negative number: `-` (45), and a digit (48 to 57) or `.` (46)
abbrev pub is_negative : Text → Bool
is_negative word = (slice_index word 0 == 45)
    && ((slice_index word 1 == 46) || (nat_lt 47 (slice_index word 1) && nat_lt (slice_index word 1) 58))

-- whether the next word begins like a negative number, and no names of a cluster are left
abbrev pub is_at_number : Left → Bool
is_at_number left = (length left.names == 0) && is_negative (unwrap_or (slice_get left.words 0) [])

-- what a command line asks for
pub record Asked : Type 0 where
  pub format : Option Text
  pub separator : Option Text
  pub equal_width : Bool
  pub operands : List Text

abbrev pub nothing : Asked
nothing = record { format = None; separator = None; equal_width = false; operands = [] }

-- what it asks for, as it is stored
abbrev pub asked_view : {S : Type 0} → (S → Text) → Seq S → Asked
asked_view text seq = record {
  format = option_copied seq.format;
  separator = option_copied seq.separator;
  equal_width = seq.equal_width;
  operands = map text seq.operands.now;
}

-- what is asked for after the option at a place, with its value
abbrev pub with_option : ℕ → Option Text → Asked → Asked
with_option place value asked =
    if is_named seq_options place (codes "format") then record asked { format = value }
    else (if is_named seq_options place (codes "separator") then record asked { separator = value }
    else record asked { equal_width = true })

-- what is asked for if a number is next, with the words that are left as operands, or else this
abbrev pub unless_number : Asked → Left → Result Asked Fault → Result Asked Fault
unless_number asked left otherwise =
    if is_at_number left then Ok (record asked { operands = left.words }) else otherwise

-- what is asked for after this, by a trace that doesn't begin at a number
abbrev pub asked_after : Asked → Trace → Result Asked Fault
asked_after asked no_more = Ok asked
asked_after asked (fails fault) = Err fault
asked_after asked (gives (option place value) left more) =
    unless_number (with_option place value asked) left
    (asked_after (with_option place value asked) more)
asked_after asked (gives (free_word word) left more) =
    Ok (record asked { operands = word ∷ left.words })

-- what a command line asks for, or its error
abbrev pub asked_by : List Text → Result Asked Fault
asked_by line =
    unless_number nothing (whole line) (asked_after nothing (trace seq_options (whole line)))
