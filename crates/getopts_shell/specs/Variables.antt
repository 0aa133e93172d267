-- Options as variables: what a shell does with a text of commands, and the text that is written.
use Rattle.std.specs.Prelude.{◌≡◌, ◌==◌, ◌||◌, ◌&&◌, not, ⊤, ℕ, ◌+◌, Bool, true, false, List, []}
use Rattle.std.specs.Prelude.{◌∷◌, ◌++◌, Option, Some, None, codes, decimal, fold, if◌then◌else◌}
use Rattle.std.specs.Prelude.{length, map, MatchOption, nat_lt}
use Rattle.std.specs.Char.{is_ascii_alphanumeric, is_ascii_digit, is_ascii_lowercase}
use Rattle.std.specs.List.{AllByRecursion, find, flat_map, last_or, list_all, list_any}
use Rattle.std.specs.Option.{option_map, option_or, unwrap_or}
use Rattle.std.specs.Str.{IsUtf8, bytes_eq}
use Rattle.getopts.specs.Accessors.{each_value, occurrences_of_group}
use Rattle.getopts.specs.Matches.{GroupOccurrence, MatchedGroup}
use Rattle.getopts.specs.Names.{AreTexts, Text, is_empty, main_name}
use Rattle.getopts.specs.declared.kinds.HasArg.{HasArg}
use Rattle.getopts.specs.declared.kinds.HasArg.TheVariants.{No}
use Rattle.getopts_bytes.specs.Marks.{bytes_of}
use Rattle.getopts_shell.specs.Quote.{quoted, quoted_words, shell_words}
use Rattle.getopts_shell.specs.Table.{Entry}
use Rattle.getopts_shell.specs.declared.row.Frequency.{Frequency}
use Rattle.getopts_shell.specs.declared.row.Frequency.TheVariants.{All}
use Rattle.getopts_shell.specs.declared.variables.OptionOccurrences.{OptionOccurrences}
use Rattle.getopts_shell.specs.declared.variables.OptionOccurrences.TheVariants as option_occurrences

-- ---- what a shell does

-- what a variable holds: a text, or the texts of an array
pub data Value : Type 0 where
  one : Text → Value
  many : List Text → Value

-- what a shell holds: the value of each variable, if it has one, and the words `$@`
pub record Shell : Type 0 where
  pub value : Text → Option Value
  pub words : List Text

-- a shell in which a variable has this value, or none
abbrev pub with_variable : Shell → Text → Option Value → Shell
with_variable shell name value =
    record shell { value = λ other. if bytes_eq other name then value else shell.value other }

-- whether a byte may be in a variable's name: a letter, a digit or `_`
abbrev pub is_variable_byte : ℕ → Bool
is_variable_byte byte = is_ascii_alphanumeric byte || byte == 95

-- whether a text is a variable's name: one or more such bytes, of which the first isn't a digit
abbrev pub is_variable : Text → Bool
is_variable [] = false
is_variable (byte ∷ more) = not (is_ascii_digit byte) && list_all is_variable_byte (byte ∷ more)

-- what precedes an array's words: `${NAME+}` adds none, but ksh then takes none for a command
abbrev pub array_front : Text → Text
array_front name = codes "(${" ++ (name ++ codes "+} ")

-- NAME is unset, and `NAME=` and this code assign this value to it.
pub data Assigns (name : Text) : Text → Value → Type 0 where
  -- the one word that a shell reads in `''` followed by the code
  one_word : (code word : Text) → shell_words (codes "''" ++ code) ≡ Some (word ∷ [])
      → Assigns name code (one word)
  -- the words of an array
  array_words : (code : Text) (words : List Text) → shell_words code ≡ Some words
      → Assigns name (array_front name ++ (code ++ codes ")")) (many words)

-- A shell that held `before` holds this after the whole command; other commands aren't modelled.
pub data RunsCommand (before : Shell) : Text → Shell → Type 0 where
  sets : (code : Text) (words : List Text) → shell_words code ≡ Some words
      → RunsCommand before (codes "\\set -- " ++ code) (record before { words = words })
  unsets : (name : Text) → is_variable name ≡ true
      → RunsCommand before (codes "\\unset -v " ++ name) (with_variable before name None)
  -- only to an unset NAME: an array would keep its other elements
  assigns : (name code : Text) (value : Value) → is_variable name ≡ true
      → before.value name ≡ None → Assigns name code value
      → RunsCommand before (name ++ (codes "=" ++ code)) (with_variable before name (Some value))

-- A shell holds these before and after commands. Each, except perhaps the last, ends in a line end.
pub data RunsText : Shell → Text → Shell → Type 0 where
  no_command : (shell : Shell) → RunsText shell [] shell
  last_command : (before after : Shell) (command : Text) → RunsCommand before command after
      → RunsText before command after
  command_line : (before next after : Shell) (command more : Text) → RunsCommand before command next
      → RunsText next more after → RunsText before (command ++ (codes "\n" ++ more)) after

-- A shell that held `before` and runs the text, with or without its last line end, holds `after`.
pub record Runs (before : Shell) (text : Text) (after : Shell) : Type 0 where
  pub whole : RunsText before text after
  pub cut : Text
  pub cut_is : text ≡ cut ++ codes "\n"
  pub runs_cut : RunsText before cut after

-- ---- the variables of options

-- a byte of a main name, as it is in a variable's name: `_` for `-`
abbrev pub variable_byte : ℕ → ℕ
variable_byte byte = if byte == 45 then 95 else byte

-- the variable for a main name: the prefix, and the name with `_` for each `-`
abbrev pub variable : Text → Text → Text
variable prefix name = prefix ++ map variable_byte name

-- the variable of an entry's option
abbrev pub variable_of : Text → Entry → Text
variable_of prefix entry = variable prefix (main_name entry.names)

-- the first of these entries that makes the same variable as another
abbrev pub with_same_variable : Text → List Entry → Entry → Option Entry
with_same_variable prefix before entry =
    find (λ other. bytes_eq (variable_of prefix other) (variable_of prefix entry)) before

-- whether a variable may be a shell's, such as `IFS`: no prefix, several bytes, no small letter
abbrev pub is_shell_variable : Text → Text → Bool
is_shell_variable prefix name =
    is_empty prefix && (nat_lt 1 (length name) && not (list_any is_ascii_lowercase name))

-- an error about variables, some with the number of a line
pub data VariableFault : Type 0 where
  -- arrays without variables
  arrays_only : VariableFault
  -- a prefix that can't begin a variable
  no_prefix : Text → VariableFault
  -- a name that makes no variable
  no_variable : ℕ → Text → VariableFault
  -- a name that makes a shell's variable
  shell_variable : ℕ → Text → VariableFault
  -- an earlier name, and a name that makes the same variable
  variable_twice : ℕ → Text → Text → VariableFault

-- the error of an entry after others, if it has one
abbrev pub variable_fault : Text → List Entry → Entry → Option VariableFault
variable_fault prefix before entry =
    if is_variable (variable_of prefix entry)
    then (if is_shell_variable prefix (main_name entry.names)
    then Some (shell_variable entry.line (main_name entry.names))
    else option_map
    (λ other. variable_twice entry.line (main_name other.names) (main_name entry.names))
    (with_same_variable prefix before entry))
    else Some (no_variable entry.line (main_name entry.names))

-- the first error of entries after others
abbrev pub first_fault : Text → List Entry → List Entry → Option VariableFault
first_fault prefix before [] = None
first_fault prefix before (entry ∷ more) =
    option_or (variable_fault prefix before entry) (first_fault prefix (before ++ entry ∷ []) more)

-- Each of these entries makes a variable, and no two make the same.
abbrev pub HaveOwnVariables : Text → List Entry → Type 0
HaveOwnVariables prefix entries = first_fault prefix [] entries ≡ None

-- whether a variable's name may begin with a prefix: it is empty, or a variable's name
abbrev pub is_prefix : Text → Bool
is_prefix prefix = is_empty prefix || is_variable prefix

-- the error of a prefix with the entries of a table
abbrev pub prefix_fault : Text → List Entry → Option VariableFault
prefix_fault prefix entries =
    if is_prefix prefix then first_fault prefix [] entries else Some (no_prefix prefix)

-- ---- options as words give them

-- an option as words give it: its entry, and its occurrences
pub record Given : Type 0 where
  pub entry : Entry
  pub occurrences : List GroupOccurrence

-- the options of a table as matches give them, if the first has this place
abbrev pub given_from : ℕ → List Entry → List MatchedGroup → List Given
given_from place [] held = []
given_from place (entry ∷ entries) held =
    record { entry = entry; occurrences = occurrences_of_group held place } ∷ given_from (place + 1) entries held

-- one occurrence without a value
abbrev pub once : List GroupOccurrence
once = record { position = 0; value = None } ∷ []

-- the occurrences of an option if only this one is given, once and without a value
abbrev pub occurrences_alone : Entry → Entry → List GroupOccurrence
occurrences_alone entry alone =
    if bytes_eq (main_name entry.names) (main_name alone.names) then once else []

-- the options of a table if only this one is given
abbrev pub given_alone : List Entry → Entry → List Given
given_alone entries alone =
    map (λ entry. record { entry = entry; occurrences = occurrences_alone entry alone }) entries

-- the occurrences of an option, as the code stores them
abbrev pub occurrences_stored : OptionOccurrences → List GroupOccurrence
occurrences_stored (option_occurrences.InMatches occurrences) = occurrences.now
occurrences_stored option_occurrences.Once = once
occurrences_stored option_occurrences.Never = []

-- whether all values of an option count
abbrev pub holds_all : Frequency → Bool
holds_all All = true
holds_all frequency = false

-- the values of occurrences, with an empty text for one that has none
abbrev pub texts_given : List GroupOccurrence → List Text
texts_given occurrences = map (λ value. unwrap_or value []) (each_value occurrences)

-- all values, as an array or as words to be read once more
abbrev pub all_values : Bool → List GroupOccurrence → Value
all_values arrays occurrences =
    if arrays then many (texts_given occurrences) else one (quoted_words (texts_given occurrences))

-- how often an option was given, as text: empty for 0
abbrev pub count_text : ℕ → Text
count_text count = if count == 0 then [] else decimal count

-- what an option's variable holds: how often it was given, all its values, or the last one
abbrev pub variable_value : Bool → HasArg → Bool → List GroupOccurrence → Option Value
variable_value arrays No all occurrences = Some (one (count_text (length occurrences)))
variable_value arrays kind true occurrences = Some (all_values arrays occurrences)
variable_value arrays kind false occurrences = option_map one (last_or None (texts_given occurrences))

-- what the variable of an option holds
abbrev pub own_value : Bool → Given → Option Value
own_value arrays option =
    variable_value arrays option.entry.kind (holds_all option.entry.frequency) option.occurrences

-- a shell in which these options' variables have their values, and the words are the free words
abbrev pub with_options : Text → Bool → List Given → List Text → Shell → Shell
with_options prefix arrays options free shell = record (fold
    (λ so_far option. with_variable so_far (variable_of prefix option.entry) (own_value arrays option))
    shell options) { words = free }

-- ---- the text

-- the command that gives a variable its value, if it has one
abbrev pub value_line : Text → Option Value → Text
value_line name None = []
value_line name (Some (one text)) = name ++ (codes "=" ++ (quoted text ++ codes "\n"))
value_line name (Some (many words)) =
    name ++ (codes "=" ++ (array_front name ++ (quoted_words words ++ codes ")\n")))

-- the commands for an option: its variable is unset, with its attributes, and given its value
abbrev pub option_code : Text → Bool → Given → Text
option_code prefix arrays option = codes "\\unset -v " ++ (variable_of prefix option.entry
    ++ (codes "\n" ++ value_line (variable_of prefix option.entry) (own_value arrays option)))

-- the command that sets the words `$@`
abbrev pub line_code : List Text → Text
line_code words = codes "\\set -- " ++ (quoted_words words ++ codes "\n")

-- the code for options and free words
abbrev pub variables_code : Text → Bool → List Given → List Text → Text
variables_code prefix arrays options free =
    flat_map (option_code prefix arrays) options ++ line_code free

-- ---- what a shell makes of the text, and of its bytes

-- an option with the bytes of its values
abbrev pub occurrence_in_bytes : GroupOccurrence → GroupOccurrence
occurrence_in_bytes occurrence = record occurrence { value = option_map bytes_of occurrence.value }

abbrev pub in_bytes : Given → Given
in_bytes option = record option { occurrences = map occurrence_in_bytes option.occurrences }

-- What a variable holds of an option is UTF-8.
abbrev pub AreTextValues : HasArg → Bool → List GroupOccurrence → Type 0
AreTextValues No all occurrences = ⊤
AreTextValues kind true occurrences = AreTexts (texts_given occurrences)
AreTextValues kind false occurrences = MatchOption (last_or None (texts_given occurrences)) ⊤ IsUtf8

-- The variables of these options hold UTF-8 texts.
abbrev pub HoldTexts : List Given → Type 0
HoldTexts options = AllByRecursion
    (λ option. AreTextValues option.entry.kind (holds_all option.entry.frequency) option.occurrences) options

-- A shell that runs the command holds these words, and one that runs its bytes holds their bytes.
pub record SetsWords (words : List Text) : Type 0 where
  pub shell : (before : Shell) → Runs before (line_code words) (record before { words = words })
  pub bytes : (before : Shell)
      → Runs before (bytes_of (line_code words)) (record before { words = map bytes_of words })

-- A shell that runs the code for options and free words, or the code's bytes, holds these.
pub record SetsVariables (prefix : Text) (arrays : Bool) (options : List Given) (free : List Text)
    : Type 0 where
  pub own : HaveOwnVariables prefix (map (λ option. option.entry) options)
  pub shell : (before : Shell) → Runs before (variables_code prefix arrays options free)
      (with_options prefix arrays options free before)
  pub bytes : HoldTexts options → AreTexts free → (before : Shell)
      → Runs before (bytes_of (variables_code prefix arrays options free))
      (with_options prefix arrays (map in_bytes options) (map bytes_of free) before)
  pub once_more : AllByRecursion (λ option. shell_words (quoted_words (texts_given option.occurrences))
      ≡ Some (texts_given option.occurrences)) options

-- The code for options sets variables, if each option makes one and no two make the same.
abbrev pub CodeSetsVariables : Type 0
CodeSetsVariables = (prefix : Text) (arrays : Bool) (options : List Given) (free : List Text)
    → HaveOwnVariables prefix (map (λ option. option.entry) options)
    → SetsVariables prefix arrays options free
