-- The table of options: what each of its lines declares, and which options it declares.
use Rattle.std.specs.Prelude.{◌≡◌, ◌≢◌, ◌==◌, ◌||◌, ◌&&◌, not, ℕ, ◌+◌, nat_lt, min, ◌-◌, ◌^◌, Bool}
use Rattle.std.specs.Prelude.{true, false, List, [], ◌∷◌, ◌++◌, Option, Some, None, codes}
use Rattle.std.specs.Prelude.{if◌then◌else◌, slice_index, length, map, drop, take, find}
use Rattle.std.specs.Char.{is_ascii_alphanumeric, is_ascii_digit, is_ascii_uppercase}
use Rattle.std.specs.Char.{is_ascii_whitespace}
use Rattle.std.specs.List.{AllByRecursion, after_first, before_first, ends_with, flat_map, list_all}
use Rattle.std.specs.List.{list_any, prefix_len, starts_with, suffix_len}
use Rattle.std.specs.Option.{option_map_or, option_to_list}
use Rattle.std.specs.Str.{bytes_eq}
use Rattle.getopts.specs.Names.{Text, Names, AreLawful, is_empty}
use Rattle.getopts.specs.Options.{Group}
use Rattle.getopts.specs.Reading.{begins_with_dash}
use Rattle.getopts.specs.Wrap.{lines_of}
use Rattle.getopts.specs.declared.kinds.HasArg.{HasArg}
use Rattle.getopts.specs.declared.kinds.HasArg.TheVariants.{Yes, No, Maybe}
use Rattle.getopts.specs.declared.kinds.Occur.{Occur}
use Rattle.getopts.specs.declared.kinds.Occur.TheVariants.{Req, Optional, Multi}
use Rattle.getopts_shell.specs.declared.item.TheConstants.{NAMES_TOGETHER, TWO_DASHES_AFTER_BAR, BRACKETS_AROUND_WHOLE, LONG_NAME_BYTES, LONG_NAME_END}
use Rattle.getopts_shell.specs.declared.item.TheConstants.{NAME_FORMS, AFTER_BRACKET, ARGUMENT_AFTER_SPACE, DESCRIPTION_AFTER_GAP, SHORT_NAME_BYTES, LONG_NAME_LENGTH}
use Rattle.getopts_shell.specs.declared.item.TheConstants.{MARK_WITHOUT_ARGUMENT, ONE_OPTION_A_LINE, MISSING_BRACKET, OPERAND_FORMS, SHORT_NAME_FIRST, SHORT_NAME_LENGTH}
use Rattle.getopts_shell.specs.declared.item.TheConstants.{END_WITHOUT_SPACE, NO_SPACE_IN_ARGUMENT}
use Rattle.getopts_shell.specs.declared.row.Frequency.{Frequency}
use Rattle.getopts_shell.specs.declared.row.Frequency.TheVariants.{Once, Last, All, Alone}

-- ---- texts in parts

-- the bytes `[` and `]`
abbrev pub open_bracket : ℕ
open_bracket = 91

abbrev pub close_bracket : ℕ
close_bracket = 93

-- whether a text contains a byte
abbrev pub holds : ℕ → Text → Bool
holds byte text = list_any (λ other. other == byte) text

-- what precedes the first such byte, or everything
abbrev pub before : ℕ → Text → Text
before byte text = before_first (λ other. other == byte) text

-- what follows the first such byte, or nothing
abbrev pub after : ℕ → Text → Text
after byte text = after_first (λ other. other == byte) text

-- a text without a leading `[`
abbrev pub unopened : Text → Text
unopened text = if slice_index text 0 == open_bracket then drop 1 text else text

-- whether a text is a word instead of a table: a dash comes first, and no space, tab or line end
abbrev pub is_word : Text → Bool
is_word text = begins_with_dash text && not (holds 32 text || (holds 9 text || holds 10 text))

-- ---- names, hints and items

-- whether a byte may be a short name: a letter, a digit, or one of `?@#%+_^,./:`
abbrev pub is_name_byte : ℕ → Bool
is_name_byte byte = is_ascii_alphanumeric byte || byte == 63 || byte == 64 || byte == 35
    || byte == 37 || byte == 43 || byte == 95 || byte == 94 || byte == 44 || byte == 46
    || byte == 47 || byte == 58

-- whether a text may be a short name: it doesn't begin with `-`, and its bytes are allowed
abbrev pub is_name : Text → Bool
is_name text = not (begins_with_dash text) && list_all is_name_byte text

-- whether a byte may be in a long name: a letter, a digit, `-`, `_`, `.`, `+`, `:`, or above 127
abbrev pub is_long_byte : ℕ → Bool
is_long_byte byte = is_ascii_alphanumeric byte || byte == 45 || byte == 95 || byte == 46
    || byte == 43 || byte == 58 || nat_lt 127 byte

-- whether a text ends like a long name may: in neither `:` nor `.`
abbrev pub ends_as_name : Text → Bool
ends_as_name text =
    not (ends_with ◌==◌ text (codes ":")) && not (ends_with ◌==◌ text (codes "."))

-- whether a text may be a long name: no dash first, only allowed bytes, and an allowed end
abbrev pub is_long_name : Text → Bool
is_long_name text = not (begins_with_dash text)
    && (list_all is_long_byte text && ends_as_name text)

-- whether a byte may be in a hint: it isn't a space, a tab, `[` or `]`
abbrev pub is_hint_byte : ℕ → Bool
is_hint_byte byte = not (byte == 32) && not (byte == 9) && not (byte == open_bracket)
    && not (byte == close_bracket)

-- whether a text begins like names do, with a dash or `|`
abbrev pub begins_name : Text → Bool
begins_name text = slice_index text 0 == 45 || slice_index text 0 == 124

-- whether a text may be a hint: it neither begins like names do nor ends in two dots
abbrev pub is_hint : Text → Bool
is_hint text = not (is_empty text) && (list_all is_hint_byte text
    && (not (begins_name text) && not (ends_with ◌==◌ text (codes ".."))))

-- names as they are written: `-s`, `--long` or `-s|--long`
abbrev pub names_text : Names → Text
names_text names =
    if is_empty names.short then codes "--" ++ names.long
    else (codes "-" ++ (names.short
    ++ (if is_empty names.long then [] else codes "|--" ++ names.long)))

-- The names are allowed in a table: they are valid, and each may be a name.
pub record MayBeNames (short long : Text) : Type 0 where
  pub lawful : AreLawful short long
  pub short_name : is_name short ≡ true
  pub long_name : is_long_name long ≡ true

-- The text consists of these names.
pub record AreNames (names : Names) (text : Text) : Type 0 where
  pub may_be : MayBeNames names.short names.long
  pub written : text ≡ names_text names

-- This is the argument of this kind: none for `No`, the hint for `Yes`, in brackets for `Maybe`.
abbrev pub IsArgument : HasArg → Text → Option Text → Type 0
IsArgument No hint None = hint ≡ []
IsArgument Yes hint (Some text) = (is_hint hint ≡ true) × (text ≡ hint)
IsArgument Maybe hint (Some text) = (is_hint hint ≡ true)
    × (text ≡ codes "[" ++ (hint ++ codes "]"))
IsArgument kind hint argument = ⊥

-- The text is names without a space, then perhaps one space and the argument.
abbrev pub HasParts : Text → Text → Option Text → Type 0
HasParts text names argument = AllByRecursion (λ byte. byte ≢ 32) names
    × (text ≡ names ++ option_map_or (λ argument. codes " " ++ argument) argument [])

-- what the text after `]` means: none, the last value counts; dots, all do; `!`, it stands alone
abbrev pub end_means : Text → Option Frequency
end_means end =
    if is_empty end then Some Last
    else (if bytes_eq end (codes "!") then Some Alone
    else (if bytes_eq end (codes "..") || bytes_eq end (codes "...") then Some All else None))

-- The text has this inside, in brackets or without, which say how often an option may occur.
pub data IsBracketed (text inside : Text) : Frequency → Type 0 where
  bare : text ≡ inside → slice_index text 0 ≢ open_bracket → IsBracketed text inside Once
  bracketed : (end : Text) (frequency : Frequency) → text ≡ codes "[" ++ (inside ++ (codes "]" ++ end))
      → end_means end ≡ Some frequency → IsBracketed text inside frequency

-- whether an occurrence fits a kind: an option that stands alone takes no argument
abbrev pub fits : Frequency → HasArg → Bool
fits Alone Yes = false
fits Alone Maybe = false
fits frequency kind = true

-- The text is an item: names, and perhaps an argument, in brackets that mean this occurrence.
pub record IsItem (text : Text) (own : Names) (kind : HasArg) (frequency : Frequency) (hint : Text)
    : Type 0 where
  pub inside : Text
  pub brackets : IsBracketed text inside frequency
  pub names : Text
  pub argument : Option Text
  pub parts : HasParts inside names argument
  pub names_are : AreNames own names
  pub argument_is : IsArgument kind hint argument
  pub fits_kind : fits frequency kind ≡ true

-- ---- operands

-- whether a byte may be in an operand's name: a capital letter, a digit, `_` or `-`
abbrev pub is_operand_byte : ℕ → Bool
is_operand_byte byte =
    is_ascii_uppercase byte || is_ascii_digit byte || byte == 95 || byte == 45

-- whether a text begins with a capital letter
abbrev pub begins_capital : Text → Bool
begins_capital text = is_ascii_uppercase (slice_index text 0)

-- whether a text begins with `[` and ends in its only `]`, or contains neither
abbrev pub has_brackets : Text → Bool
has_brackets text =
    if slice_index text 0 == open_bracket
    then holds close_bracket text && is_empty (after close_bracket text)
    else not (holds close_bracket text)

-- whether a text contains no dots, or only two or three at its end
abbrev pub has_dots : Text → Bool
has_dots text = not (holds 46 text)
    || (ends_with ◌==◌ text (codes "..") && nat_lt (length (after 46 text)) 3)

-- the name of an operand, as it is in its item
abbrev pub operand_name : Text → Text
operand_name item = before close_bracket (unopened (before 46 item))

-- whether an item is an operand: a name that begins with a capital, perhaps with brackets and dots
abbrev pub is_operand : Text → Bool
is_operand item = begins_capital (unopened item)
    && (list_all is_operand_byte (operand_name item)
    && (has_brackets (before 46 item) && has_dots item))

-- an operand of a table: its item, and its description
pub record Operand : Type 0 where
  pub item : Text
  pub description : Text

-- whether an operand is required, and whether it may be repeated
abbrev pub is_needed : Operand → Bool
is_needed operand = not (slice_index operand.item 0 == open_bracket)

abbrev pub may_repeat : Operand → Bool
may_repeat operand = holds 46 operand.item

-- an entry of a table: the number of its line, and what this line says about an option
pub record Entry : Type 0 where
  pub line : ℕ
  pub names : Names
  pub kind : HasArg
  pub frequency : Frequency
  pub hint : Text
  pub description : Text

-- how often words may give an option or, if `shown`, how often a help says that they may
abbrev pub occurrence_of : Bool → Frequency → Occur
occurrence_of shown Once = Req
occurrence_of shown All = Multi
occurrence_of shown Alone = Optional
occurrence_of shown Last = if shown then Optional else Multi

-- the group by which an entry is parsed, or the one that a help shows
abbrev pub group_of_entry : Bool → Entry → Group
group_of_entry shown entry = record {
  signature = record {
    names = entry.names;
    kind = entry.kind;
    occur = occurrence_of shown entry.frequency;
  };
  hint = entry.hint;
  description = entry.description;
}

-- the groups of entries, as words are parsed by them, or as a help shows them
abbrev pub groups_as : Bool → List Entry → List Group
groups_as shown entries = map (group_of_entry shown) entries

-- ---- lines

-- a text without its leading ASCII white space
abbrev pub after_blanks : Text → Text
after_blanks text = drop (prefix_len is_ascii_whitespace text) text

-- a text without its trailing ASCII white space
abbrev pub before_blanks : Text → Text
before_blanks text = take (length text - suffix_len is_ascii_whitespace text) text

-- a text without ASCII white space at both ends
abbrev pub trimmed : Text → Text
trimmed text = before_blanks (after_blanks text)

-- whether a text begins with a tab or two spaces
abbrev pub begins_gap : Text → Bool
begins_gap text =
    slice_index text 0 == 9 || (slice_index text 0 == 32 && slice_index text 1 == 32)

-- whether a text begins like the end of an item: with two dots or `!`
abbrev pub begins_end : Text → Bool
begins_end text =
    slice_index text 0 == 33 || (slice_index text 0 == 46 && slice_index text 1 == 46)

-- whether a text begins like a part of an item: with `[`, a dash, an item's end, or an operand
abbrev pub begins_item : Text → Bool
begins_item text = slice_index text 0 == open_bracket || (slice_index text 0 == 45
    || (begins_end text || is_operand (before 9 (before 32 text))))

-- whether a text ends like an item whose description needs one space: in `]`, `..` or `!`
abbrev pub ends_item : Text → Bool
ends_item text = ends_with ◌==◌ text (codes "]")
    || (ends_with ◌==◌ text (codes "..") || ends_with ◌==◌ text (codes "!"))

-- whether a text begins with a space after an item, before what doesn't begin like a part of one
abbrev pub is_single_gap : Text → Text → Bool
is_single_gap before text =
    slice_index text 0 == 32 && (ends_item before && not (begins_item (drop 1 text)))

-- whether there is a gap between these bytes of a line and a text: a tab, two spaces, or one
abbrev pub is_gap : Text → Text → Bool
is_gap before text = begins_gap text || is_single_gap before text

-- what is between these bytes of a line and its first gap, or everything if it has no gap
abbrev pub front_after : Text → Text → Text
front_after before [] = []
front_after before (byte ∷ more) =
    if is_gap before (byte ∷ more) then [] else byte ∷ front_after (before ++ byte ∷ []) more

-- a line from its first gap on, after these bytes of it
abbrev pub gap_after : Text → Text → Text
gap_after before [] = []
gap_after before (byte ∷ more) =
    if is_gap before (byte ∷ more) then byte ∷ more else gap_after (before ++ byte ∷ []) more

-- what precedes the first gap of a line, or everything if it has none
abbrev pub before_gap : Text → Text
before_gap line = front_after [] line

-- a line from its first gap on
abbrev pub from_gap : Text → Text
from_gap line = gap_after [] line

-- the item of a line
abbrev pub item_of : Text → Text
item_of line = trimmed (before_gap (trimmed line))

-- whether a line declares nothing: it is empty or begins with `#`
abbrev pub is_skipped : Text → Bool
is_skipped line = is_empty (trimmed line) || slice_index (trimmed line) 0 == 35

-- whether a line declares no option: it declares nothing at all, or its item is an operand
abbrev pub declares_no_option : Text → Bool
declares_no_option line = is_skipped line || is_operand (item_of line)

-- The line with this number declares this entry: its option and, after a gap, its description.
pub record DeclaresEntry (number : ℕ) (line : Text) (entry : Entry) : Type 0 where
  pub number_is : entry.line ≡ number
  pub there : declares_no_option line ≡ false
  pub item : IsItem (item_of line) entry.names entry.kind entry.frequency entry.hint
  pub description : entry.description ≡ trimmed (from_gap (trimmed line))

-- The line with this number declares this: nothing, or an entry.
abbrev pub Declares : ℕ → Text → Option Entry → Type 0
Declares number line None = declares_no_option line ≡ true
Declares number line (Some entry) = DeclaresEntry number line entry

-- ---- tables

-- the number of the line after this many; numbers stop at the highest of 64 bits
abbrev pub line_number : ℕ → ℕ
line_number before = min (before + 1) (2 ^ 64 - 1)

-- The lines, which follow this many others, declare these entries, in order.
abbrev pub DeclareEntries : ℕ → List Text → List Entry → Type 0
DeclareEntries before [] entries = entries ≡ []
DeclareEntries before (line ∷ lines) entries = (declared : Option Entry) × (others : List Entry)
    × Declares (line_number before) line declared × DeclareEntries (before + 1) lines others
    × (entries ≡ option_to_list declared ++ others)

-- the operand that a line declares, if it declares one
abbrev pub operand_at : Text → Option Operand
operand_at line = if not (is_skipped line) && is_operand (item_of line) then Some (record {
  item = item_of line;
  description = trimmed (from_gap (trimmed line));
}) else None

-- the operands that lines declare, in order, and those of a table
abbrev pub operands_among : List Text → List Operand
operands_among lines = flat_map (λ line. option_to_list (operand_at line)) lines

abbrev pub operands_in : Text → List Operand
operands_in table = operands_among (lines_of table)

-- whether another operand may precede this one: it can't be repeated, and is required if this is
abbrev pub comes_before : Operand → Operand → Bool
comes_before operand other = not (may_repeat other) && (is_needed other || not (is_needed operand))

-- the first of these operands that another one can't follow
abbrev pub conflicting_operand : List Operand → Operand → Option Operand
conflicting_operand before operand = find (λ other. not (comes_before operand other)) before

-- whether one of these entries has this name
abbrev pub any_has_name : List Entry → Text → Bool
any_has_name entries name = not (is_empty name)
    && list_any (λ entry. bytes_eq entry.names.short name || bytes_eq entry.names.long name) entries

-- the first of an entry's names that one of these entries already has
abbrev pub name_again : List Entry → Entry → Option Text
name_again entries entry =
    find (any_has_name entries) (entry.names.short ∷ entry.names.long ∷ [])

-- Each element has this property, together with those before it.
abbrev pub EachAfter : {X : Type 0} → (List X → X → Type 0) → List X → Type 0
EachAfter {X} Is xs = (before after : List X) (x : X) → xs ≡ before ++ x ∷ after → Is before x

-- The lines declare these options: no name occurs twice, and the operands are in order.
pub record DeclareOptions (lines : List Text) (entries : List Entry) : Type 0 where
  pub declared : DeclareEntries 0 lines entries
  pub once : EachAfter (λ before entry. name_again before entry ≡ None) entries
  pub in_order : EachAfter (λ before operand. conflicting_operand before operand ≡ None)
      (operands_among lines)

-- The table declares these options.
abbrev pub DeclaresOptions : Text → List Entry → Type 0
DeclaresOptions table entries = DeclareOptions (lines_of table) entries

-- A table declares at most one list of options.
abbrev pub OneTableOneList : Type 0
OneTableOneList = (table : Text) (entries others : List Entry) → DeclaresOptions table entries
    → DeclaresOptions table others → others ≡ entries

-- ---- why a text is no option

-- the part of an item for its names: all before the first space or `]`, without a leading `[`
abbrev pub names_in : Text → Text
names_in item = before 32 (before close_bracket (unopened item))

-- the short and the long name in a text, valid or not, each with its dashes
abbrev pub dashed : Text → Names
dashed names =
    if starts_with ◌==◌ names (codes "--") then record { short = []; long = names }
    else record { short = before 124 names; long = after 124 names }

-- whether a text contains `]`, and ends in something that can't follow it
abbrev pub ends_behind : Text → Bool
ends_behind text =
    holds close_bracket text
    && not (ends_with ◌==◌ text (codes "]") || ends_with ◌==◌ text (codes "."))

-- whether a space is between the first `]` of a text and the end of an item
abbrev pub ends_apart : Text → Bool
ends_apart text = slice_index (after close_bracket text) 0 == 32
    && begins_end (drop 1 (after close_bracket text))

-- why an item may be invalid: for each reason, whether it applies, and its text
abbrev pub reasons : Text → List (Bool × Text)
reasons item =
    let names = names_in item in
    let short = (dashed names).short in
    let long = (dashed names).long in
    (holds open_bracket item && not (holds close_bracket item), MISSING_BRACKET.now)
    ∷ (starts_with ◌==◌ (after close_bracket item) (codes " [-"), ONE_OPTION_A_LINE.now)
    ∷ (ends_apart item, END_WITHOUT_SPACE.now)
    ∷ (begins_name (unopened (after 32 item)) || starts_with ◌==◌ (after 32 item) (codes "]"), NAMES_TOGETHER.now)
    ∷ (holds 32 (after close_bracket item), DESCRIPTION_AFTER_GAP.now)
    ∷ (holds 32 (after 32 item), NO_SPACE_IN_ARGUMENT.now)
    ∷ (begins_capital names && holds 32 item, DESCRIPTION_AFTER_GAP.now)
    ∷ (begins_capital names, OPERAND_FORMS.now)
    ∷ (holds 61 names, ARGUMENT_AFTER_SPACE.now)
    ∷ (holds 44 (drop 1 (drop 1 names)), NAMES_TOGETHER.now)
    ∷ (begins_with_dash (after 45 (drop 1 short)), NAMES_TOGETHER.now)
    ∷ (ends_with ◌==◌ short (codes ".."), BRACKETS_AROUND_WHOLE.now)
    ∷ (holds open_bracket names, BRACKETS_AROUND_WHOLE.now)
    ∷ (not (begins_with_dash names) || length short == 1, NAME_FORMS.now)
    ∷ (holds 124 names && not (starts_with ◌==◌ long (codes "--")), TWO_DASHES_AFTER_BAR.now)
    ∷ (starts_with ◌==◌ long (codes "---"), NAME_FORMS.now)
    ∷ (holds 124 long, SHORT_NAME_FIRST.now)
    ∷ (nat_lt 127 (slice_index short 1), SHORT_NAME_BYTES.now)
    ∷ (nat_lt 2 (length short), SHORT_NAME_LENGTH.now)
    ∷ (not (is_name (drop 1 short)), SHORT_NAME_BYTES.now)
    ∷ (not (is_empty long) && nat_lt (length long) 4, LONG_NAME_LENGTH.now)
    ∷ (not (list_all is_long_byte long), LONG_NAME_BYTES.now)
    ∷ (not (ends_as_name long), LONG_NAME_END.now)
    ∷ (ends_with ◌==◌ item (codes "!"), MARK_WITHOUT_ARGUMENT.now)
    ∷ (ends_behind item, AFTER_BRACKET.now)
    ∷ []

-- why an item is invalid: the first reason that applies, or else BRACKETS_AROUND_WHOLE
abbrev pub reason_of : Text → Text
reason_of item = option_map_or (λ reason. reason.1) (find (λ reason. reason.0) (reasons item))
    BRACKETS_AROUND_WHOLE.now

-- ---- errors

-- an error in a table: a line's number, and its item, a name, or its operand and an earlier one
pub data TableFault : Type 0 where
  no_option : ℕ → Text → TableFault
  name_twice : ℕ → Text → TableFault
  late_operand : ℕ → Operand → Operand → TableFault

-- This is the error of the line with this number, after lines with these entries and operands.
pub data IsLineFault (number : ℕ) (entries : List Entry) (operands : List Operand) (line : Text)
    : TableFault → Type 0 where
  -- it is neither empty, a comment, an option nor an operand
  none : ((declared : Option Entry) → ¬ (Declares number line declared))
      → IsLineFault number entries operands line (no_option number (item_of line))
  -- it is an option with a name that they declare
  twice : (entry : Entry) (name : Text) → DeclaresEntry number line entry
      → name_again entries entry ≡ Some name
      → IsLineFault number entries operands line (name_twice number name)
  -- it is an operand that can't follow one of theirs
  late : (operand earlier : Operand) → operand_at line ≡ Some operand
      → conflicting_operand operands operand ≡ Some earlier
      → IsLineFault number entries operands line (late_operand number operand earlier)

-- This is the error of the table: that of the first line that has one.
pub record IsTableFault (table : Text) (fault : TableFault) : Type 0 where
  pub before : List Text
  pub line : Text
  pub after : List Text
  pub lines_are : lines_of table ≡ before ++ line ∷ after
  pub entries : List Entry
  pub declared : DeclareOptions before entries
  pub fault_at : IsLineFault (line_number (length before)) entries (operands_among before) line
      fault
