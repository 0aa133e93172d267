-- The program: what it answers to its words, and with which status.
use Rattle.std.specs.Prelude.{◌≡◌, ◌≢◌, ◌≤◌, ◌&&◌, ◌||◌, ◌-◌, ◌/◌, ◌%◌, ℕ, Bool, true, false}
use Rattle.std.specs.Prelude.{List, [], ◌∷◌, ◌++◌}
use Rattle.std.specs.Prelude.{Option, Some, None, MatchOption, MatchResult, codes, decimal}
use Rattle.std.specs.Prelude.{if◌then◌else◌, length, map, nat_lt, not, take}
use Rattle.std.specs.Bool.{MatchBool}
use Rattle.std.specs.Char.{encode_utf8}
use Rattle.std.specs.Io.KnownBytes.{Appends}
use Rattle.std.specs.List.{AllByRecursion, AllZip, find, flat_map, last_or, list_any}
use Rattle.std.specs.Option.{option_map_or, unwrap_or}
use Rattle.std.specs.Str.{bytes_eq, chars}
use Rattle.getopts.specs.Accessors.{first_value, is_present, occurrences_of_name}
use Rattle.getopts.specs.Canon.{HasCanonicalLine, canonical_word}
use Rattle.getopts.specs.Parse.{IsWritten}
use Rattle.getopts.specs.Fail.{Fault, fault_text}
use Rattle.getopts.specs.Matches.{Matched}
use Rattle.getopts.specs.Names.{AreTexts, Text, main_name}
use Rattle.getopts.specs.Only.{IsTheOnly}
use Rattle.getopts.specs.Options.{Group, Declared, group_of}
use Rattle.getopts.specs.Reading.{stop_word}
use Rattle.getopts.specs.Results.{canonical_result, parse_ignoring_counts_result, parse_result}
use Rattle.getopts.specs.Usage.{IsUsageText, description_columns, margin, next_row, short_usage_text, spaces, usual_columns}
use Rattle.getopts.specs.Wrap.{IsDescriptionRows, joined}
use Rattle.getopts.specs.declared.kinds.HasArg.TheVariants.{Yes, No}
use Rattle.getopts.specs.declared.kinds.Occur.TheVariants.{Optional}
use Rattle.getopts.specs.declared.kinds.ParsingStyle.TheVariants.{FloatingFrees, StopAtFirstFree}
use Rattle.getopts_bytes.specs.Marks.{bytes_of, is_mark}
use Rattle.getopts_shell.specs.Completion.{functions, offer, stub, takes_argument}
use Rattle.getopts_shell.specs.Quote.{quoted, shell_words}
use Rattle.getopts_shell.specs.Table.{Entry, DeclaresOptions, IsTableFault, Operand, TableFault}
use Rattle.getopts_shell.specs.Table.{before, groups_as, is_needed, is_word, late_operand, may_repeat}
use Rattle.getopts_shell.specs.Table.{name_twice, no_option, operands_in, reason_of}
use Rattle.getopts_shell.specs.Variables.{HoldTexts, SetsVariables, SetsWords, Given, given_from}
use Rattle.getopts_shell.specs.Variables.{given_alone, line_code, variables_code, VariableFault}
use Rattle.getopts_shell.specs.Variables.{arrays_only, no_prefix, no_variable, prefix_fault}
use Rattle.getopts_shell.specs.Variables.{shell_variable, variable_twice}
use Rattle.getopts_shell.specs.declared.row.Frequency.{Frequency}
use Rattle.getopts_shell.specs.declared.row.Frequency.TheVariants.{Alone}

-- ---- the program's own options

abbrev pub own_groups : List Group
own_groups =
    group_of (codes "b") (codes "brief") (codes "print TEXT instead of the usage line") (codes "TEXT") Yes
    Optional
    ∷ group_of (codes "s") (codes "stop") (codes "stop at the first argument that isn't an option")
    [] No Optional
    ∷ group_of (codes "l") (codes "long-only") (codes "also accept long names after a single dash") [] No
    Optional
    ∷ group_of (codes "V") (codes "variables")
    (codes "store each option in a variable called PREFIX plus its name")
    (codes "PREFIX") Yes Optional
    ∷ group_of (codes "A") (codes "arrays") (codes "with --variables, store repeated values in an array") []
    No Optional
    ∷ group_of (codes "u") (codes "usage") (codes "print the help for TABLE") [] No Optional
    ∷ group_of (codes "c") (codes "complete")
    (codes "print a completion script for bash, zsh or fish")
    (codes "SHELL") Yes Optional
    ∷ group_of [] (codes "complete-words") (codes "print completions for the last WORD")
    (codes "SHELL") Yes Optional
    ∷ group_of (codes "h") (codes "help") (codes "print this help") [] No Optional
    ∷ group_of [] (codes "version") (codes "print the version") [] No Optional
    ∷ []

-- the program's own options: all words from the first free one on are free
abbrev pub own_options : Declared
own_options = record { groups = own_groups; style = StopAtFirstFree; long_only = false }

-- the top of the program's own help, and that help
abbrev pub own_brief : Text
own_brief = codes "Usage: getopts_shell [options] NAME TABLE [WORD]..\n\n"
    ++ codes "Parses each WORD as TABLE describes, and prints shell code to be run by eval."

abbrev pub own_help : Text
own_help = joined (codes "\n") (
    own_brief
    ∷ []
    ∷ codes "Options:"
    ∷ codes "    -b, --brief TEXT    print TEXT instead of the usage line"
    ∷ codes "    -s, --stop          stop at the first argument that isn't an option"
    ∷ codes "    -l, --long-only     also accept long names after a single dash"
    ∷ codes "    -V, --variables PREFIX"
    ∷ codes "                        store each option in a variable called PREFIX plus its"
    ∷ codes "                        name"
    ∷ codes "    -A, --arrays        with --variables, store repeated values in an array"
    ∷ codes "    -u, --usage         print the help for TABLE"
    ∷ codes "    -c, --complete SHELL"
    ∷ codes "                        print a completion script for bash, zsh or fish"
    ∷ codes "        --complete-words SHELL"
    ∷ codes "                        print completions for the last WORD"
    ∷ codes "    -h, --help          print this help"
    ∷ codes "        --version       print the version"
    ∷ []
    ∷ [])

-- whether matches contain an option of this name
abbrev pub is_given : Matched → Text → Bool
is_given own name = is_present own.groups name

-- the value of the option of this name, if it has one
abbrev pub value_given : Matched → Text → Option Text
value_given own name = first_value (occurrences_of_name own.groups name)

-- what the program's own words ask for
pub record Asked : Type 0 where
  pub brief : Option Text
  pub stop : Bool
  pub long_only : Bool
  pub usage : Bool
  pub complete : Option Text
  pub complete_words : Option Text
  pub variables : Option Text
  pub arrays : Bool

-- what words with these matches ask for
abbrev pub asked_by : Matched → Asked
asked_by own = record {
  brief = value_given own (codes "brief");
  stop = is_given own (codes "stop");
  long_only = is_given own (codes "long-only");
  usage = is_given own (codes "usage");
  complete = value_given own (codes "complete");
  complete_words = value_given own (codes "complete-words");
  variables = value_given own (codes "variables");
  arrays = is_given own (codes "arrays");
}

-- ---- answers

-- an answer: a text, for standard output if the status is 0 and otherwise for standard error
pub record Answer : Type 0 where
  pub text : Text
  pub status : ℕ

-- text for the script
abbrev pub done : Text → Answer
done text = record { text = text; status = 0 }

-- the number of a character, or the byte that it marks
abbrev pub number_of : ℕ → ℕ
number_of char = if is_mark char then char - 0x10_FF00 else char

-- whether it is the number of a control character: one of the first 32, or from 127 to 159
abbrev pub is_control : ℕ → Bool
is_control number = nat_lt number 32 || (nat_lt 126 number && nat_lt number 160)

-- a number below 512 as `\` and three octal digits
abbrev pub octal : ℕ → Text
octal number = codes "\\"
    ++ (decimal (number / 64) ++ (decimal (number / 8 % 8) ++ decimal (number % 8)))

-- a character as errors show it: if it is a control character, by its number
abbrev pub escaped_char : ℕ → Text
escaped_char char = if is_control (number_of char) then octal (number_of char) else encode_utf8 char

-- a text as errors show it
abbrev pub escaped : Text → Text
escaped text = flat_map escaped_char (chars text)

-- the line for an error
abbrev pub error_line : Text → Text
error_line text = escaped text ++ codes "\n"

-- an error in how the script calls the program
abbrev pub misused : Text → Answer
misused text = record { text = error_line text; status = 5 }

-- the text of an error, after a name
abbrev pub fault_line : Text → Fault → Text
fault_line name fault = name ++ (codes ": " ++ fault_text fault)

-- a message about the table's line with this number
abbrev pub of_line : ℕ → Text → Text
of_line number text =
    codes "getopts_shell: line " ++ (decimal number ++ (codes " of the table: " ++ text))

-- why another operand can't follow this one
abbrev pub order_rule : Operand → Text
order_rule earlier =
    if may_repeat earlier
    then codes ": no operand may follow '" ++ (earlier.item ++ codes "', which has dots")
    else codes ": no required operand may follow '" ++ (earlier.item
    ++ codes "', which is optional")

-- the text of an error in a table
abbrev pub table_fault_line : TableFault → Text
table_fault_line (no_option number item) =
    of_line number (item ++ (codes ": " ++ reason_of item))
table_fault_line (name_twice number name) =
    of_line number (codes "the name '" ++ (name ++ codes "' is already used on an earlier line"))
table_fault_line (late_operand number operand earlier) =
    of_line number (operand.item ++ order_rule earlier)

-- ---- a script

-- a script: what it asks for, its name, and the entries and operands of its table
pub record Script : Type 0 where
  pub asked : Asked
  pub name : Text
  pub entries : List Entry
  pub operands : List Operand

-- options with these groups, in the style and mode that are asked for
abbrev pub options_in : Asked → List Group → Declared
options_in asked groups = record {
  groups = groups;
  style = if asked.stop then StopAtFirstFree else FloatingFrees;
  long_only = asked.long_only;
}

-- the options that a script's words are parsed by, and those that its help shows
abbrev pub read_options : Script → Declared
read_options script = options_in script.asked (groups_as false script.entries)

abbrev pub shown_options : Script → Declared
shown_options script = options_in script.asked (groups_as true script.entries)

-- the texts in order, each after the separator; the first only if others precede it (`begun`)
abbrev pub continued : Bool → Text → List Text → Text
continued begun separator texts =
    if begun then flat_map (λ text. separator ++ text) texts else joined separator texts

-- the short usage of a script, as errors show it: its options, and its operands as they are written
abbrev pub usage_line : Script → Text
usage_line script = escaped (short_usage_text (shown_options script) script.name
    ++ continued (nat_lt 0 (length script.entries)) (codes " ")
    (map (λ operand. operand.item) script.operands))

-- the top of a script's help: the text that was given, or else the short usage
abbrev pub brief_text : Script → Text
brief_text script = unwrap_or script.asked.brief (usage_line script)

-- what precedes an operand's description: its item, and spaces up to the margin or the next row
abbrev pub operand_padding : Text → Text
operand_padding item = if nat_lt (length item) (margin - 4)
    then spaces (margin - 4 - length item) else next_row

abbrev pub operand_head : Text → Text
operand_head item = spaces 4 ++ (item ++ operand_padding item)

-- This is the operand's row: its head, and the rows of its description.
abbrev pub IsOperandRow : Operand → Text → Type 0
IsOperandRow operand row =
    (description : List Text)
    × IsDescriptionRows (description_columns usual_columns) operand.description description
    × (row ≡ operand_head operand.item ++ joined next_row description)

-- what precedes the options in a help: the text at its top and, if there are any, operands' rows
abbrev pub help_front : Text → List Text → Text
help_front brief [] = brief
help_front brief rows = brief ++ (codes "\n\nArguments:\n" ++ joined (codes "\n") rows)

-- This is the help of the script.
abbrev pub IsHelp : Script → Text → Type 0
IsHelp script help = (rows : List Text) × IsTheOnly (AllZip IsOperandRow script.operands) rows
    × IsTheOnly (IsUsageText (shown_options script) (help_front (brief_text script) rows)) help

-- the answer to rejected words: the line for the error, and the text at the top of the help
abbrev pub refused_by : Script → Text → Answer
refused_by script text = record {
  text = error_line text ++ (brief_text script ++ codes "\n");
  status = 2;
}

abbrev pub refused : Script → Fault → Answer
refused script fault = refused_by script (fault_line script.name fault)

-- ---- the number of free words

-- an error of free words: an operand of this name is missing, or this word is one too many
pub data OperandFault : Type 0 where
  missing : Text → OperandFault
  unexpected : Text → OperandFault

-- the error of free words for these operands; from a repeatable operand on, all words belong to it
abbrev pub operand_fault : List Operand → List Text → Option OperandFault
operand_fault [] [] = None
operand_fault [] (word ∷ words) = Some (unexpected word)
operand_fault (operand ∷ operands) [] =
    if is_needed operand then Some (missing (before 46 operand.item)) else None
operand_fault (operand ∷ operands) (word ∷ words) =
    if may_repeat operand then None else operand_fault operands words

-- the error of a script's free words; none if its table has no operands
abbrev pub free_fault : List Operand → List Text → Option OperandFault
free_fault [] free = None
free_fault operands free = operand_fault operands free

-- the text of an error of free words, after a name
abbrev pub operand_fault_line : Text → OperandFault → Text
operand_fault_line name (missing operand) =
    name ++ (codes ": Operand '" ++ (operand ++ codes "' missing"))
operand_fault_line name (unexpected word) =
    name ++ (codes ": Unexpected operand: '" ++ (word ++ codes "'"))

-- A shell reads the text in quotes as one word, the text, and the quoted text's bytes as its bytes.
pub record IsOneWord (text : Text) : Type 0 where
  pub shell : shell_words (quoted text) ≡ Some (text ∷ [])
  pub bytes : shell_words (bytes_of (quoted text)) ≡ Some (bytes_of text ∷ [])

-- the code that prints a help and ends the script; `\` keeps aliases from replacing a command
abbrev pub help_code : Text → Text
help_code help = codes "\\printf %s " ++ (quoted help ++ codes "; \\exit\n")

-- whether an entry is called `help` and takes no argument
abbrev pub is_help : Entry → Bool
is_help entry = bytes_eq entry.names.long (codes "help") && not (takes_argument entry.kind)

-- whether matches ask for help: they contain `help`, and one of the entries is that option
abbrev pub asks_help : List Entry → Matched → Bool
asks_help entries matches = list_any is_help entries && is_given matches (codes "help")

-- whether an option stands alone
abbrev pub stands_alone : Frequency → Bool
stands_alone Alone = true
stands_alone frequency = false

-- whether an entry's option stands alone, and the matches contain it
abbrev pub is_alone : Matched → Entry → Bool
is_alone matches entry =
    stands_alone entry.frequency && is_given matches (main_name entry.names)

-- the line of an option that stands alone: its word, by its main name, and the stop
abbrev pub alone_line : Entry → List Text
alone_line entry = (codes "--" ++ main_name entry.names) ∷ stop_word ∷ []

-- the text of an error about variables
abbrev pub variable_fault_line : VariableFault → Text
variable_fault_line arrays_only = codes "getopts_shell: --arrays requires --variables"
variable_fault_line (no_prefix prefix) = codes "getopts_shell: the prefix '" ++ (prefix
    ++ codes "' can't begin a variable name (ASCII letters, digits and '_', no digit first)")
variable_fault_line (no_variable number name) = of_line number (codes "the option '" ++ (name
    ++ codes "' doesn't make a valid variable name (ASCII letters, digits and '_', no digit first)"))
variable_fault_line (shell_variable number name) = of_line number (codes "without a prefix, the option '"
    ++ (name ++ codes "' may set a variable of the shell: choose a prefix, such as opt_"))
variable_fault_line (variable_twice number earlier name) = of_line number
    (codes "the options '" ++ (earlier ++ (codes "' and '" ++ (name
    ++ codes "' would have the same variable"))))

-- the error of the variables or arrays that are asked for, with a table of these entries
abbrev pub asked_fault : Asked → List Entry → Option VariableFault
asked_fault asked entries = option_map_or (λ prefix. prefix_fault prefix entries) asked.variables
    (if asked.arrays then Some arrays_only else None)

-- This is the canonical line of the words: a shell can set it, and its first word `--` is the stop.
pub record IsCanonicalLineOf (options : Declared) (words line : List Text) : Type 0 where
  pub shell : SetsWords line
  pub written : IsWritten options words line
  pub reads_back : HasCanonicalLine options written.content
  pub stop_is_first :
      AllByRecursion (λ m. canonical_word options.groups m ≢ stop_word) written.content.mentions

-- the error for a shell that isn't supported
abbrev pub no_completion : Text → Answer
no_completion shell = misused (codes "getopts_shell: no completion for '"
    ++ (shell ++ codes "': choose bash, zsh or fish"))

-- the code that completes words in a shell, or the error that it isn't supported
abbrev pub completion_answer : Asked → Text → Text → Text → Answer
completion_answer asked shell name table =
    option_map_or done (stub shell asked.stop asked.long_only name table) (no_completion shell)

-- the last word, and those before it; empty if there are no words
abbrev pub last_word : List Text → Text
last_word words = unwrap_or (last_or None words) []

-- This is the answer to a shell that asks for completions of the last word, if it is supported.
abbrev pub AnswersOffer : Script → Text → List Text → Answer → Type 0
AnswersOffer script shell words answer = MatchOption (functions shell)
    (answer ≡ no_completion shell)
    (λ functions. answer
    ≡ done (offer (read_options script) script.entries (take (length words - 1) words)
    (last_word words)))

-- The answer is code that sets variables for these options and free words, whose values are UTF-8.
pub record IsVariablesCode (script : Script) (prefix : Text) (options : List Given)
    (free : List Text)
    (answer : Answer) : Type 0 where
  pub sets : SetsVariables prefix script.asked.arrays options free
  pub values : HoldTexts options
  pub free_values : AreTexts free
  pub answer_is : answer ≡ done (variables_code prefix script.asked.arrays options free)

-- This is the answer to an option that stands alone: its line, or variables for it alone.
abbrev pub AnswersAlone : Script → Entry → Answer → Type 0
AnswersAlone script entry answer = MatchOption script.asked.variables
    (SetsWords (alone_line entry) × (answer ≡ done (line_code (alone_line entry))))
    (λ prefix. IsVariablesCode script prefix (given_alone script.entries entry) [] answer)

-- This is the answer to accepted words if no variables are asked for: their canonical line.
abbrev pub AnswersLine : Script → List Text → Answer → Type 0
AnswersLine script words answer = MatchResult (canonical_result (read_options script) words)
    (λ written. MatchOption written ⊥ (λ line. IsCanonicalLineOf (read_options script) words line
    × (answer ≡ done (line_code line))))
    (λ fault. answer ≡ refused script fault)

-- This is the answer to accepted words: their canonical line, or variables.
abbrev pub AnswersAccepted : Script → List Text → Matched → Answer → Type 0
AnswersAccepted script words matches answer = MatchOption script.asked.variables
    (AnswersLine script words answer)
    (λ prefix. IsVariablesCode script prefix (given_from 0 script.entries matches.groups) matches.free
    answer)

-- This is the answer to words with their counts checked, of options and then of free words.
abbrev pub AnswersCounted : Script → List Text → Answer → Type 0
AnswersCounted script words answer = MatchResult (parse_result (read_options script) words)
    (λ matches. MatchOption (free_fault script.operands matches.free)
    (AnswersAccepted script words matches answer)
    (λ fault. answer ≡ refused_by script (operand_fault_line script.name fault)))
    (λ fault. answer ≡ refused script fault)

-- This is the answer to words that ask for help: code that prints it.
abbrev pub PrintsHelp : Script → Answer → Type 0
PrintsHelp script answer = (help : Text) × IsHelp script help × IsOneWord help
    × (answer ≡ done (help_code help))

-- This is the answer to words with these matches, whatever their counts.
abbrev pub AnswersRead : Script → List Text → Matched → Answer → Type 0
AnswersRead script words matches answer = MatchBool (asks_help script.entries matches)
    (PrintsHelp script answer)
    (MatchOption (find (is_alone matches) script.entries) (AnswersCounted script words answer)
    (λ entry. AnswersAlone script entry answer))

-- This is the answer to a script's words.
abbrev pub AnswersWords : Script → List Text → Answer → Type 0
AnswersWords script words answer =
    MatchResult (parse_ignoring_counts_result (read_options script) words)
    (λ matches. AnswersRead script words matches answer) (λ fault. answer ≡ refused script fault)

-- This is the answer for a script: its help, completions, or what its words mean.
abbrev pub AnswersScript : Script → List Text → Answer → Type 0
AnswersScript script words answer = MatchBool script.asked.usage
    ((help : Text) × IsHelp script help × (answer ≡ done help))
    (MatchOption script.asked.complete_words (AnswersWords script words answer)
    (λ shell. AnswersOffer script shell words answer))

-- This is the answer if the table declares the script's entries and operands.
abbrev pub AnswersDeclared : Script → Text → List Text → Answer → Type 0
AnswersDeclared script table words answer = MatchOption script.asked.complete
    (MatchOption (asked_fault script.asked script.entries)
    (AnswersScript script words answer) (λ fault. answer ≡ misused (variable_fault_line fault)))
    (λ shell. answer ≡ completion_answer script.asked shell script.name table)

-- This is the answer to a script's name, its table and its words.
pub data AnswersTable (asked : Asked) (name table : Text) (words : List Text) (answer : Answer)
    : Type 0 where
  faulty : (fault : TableFault) → IsTableFault table fault
      → answer ≡ misused (table_fault_line fault) → AnswersTable asked name table words answer
  declared : (entries : List Entry) → DeclaresOptions table entries
      → AnswersDeclared (record {
        asked = asked;
        name = name;
        entries = entries;
        operands = operands_in table;
      }) table words answer
      → AnswersTable asked name table words answer

-- the error for a word in place of the table: an option, a script's word, or a part of the table
abbrev pub no_table : Text → Answer
no_table word = misused (codes "getopts_shell: '" ++ (word
    ++ codes "' isn't a table: write options of getopts_shell before NAME, and the table after it, in quotes (a table such as -v needs a line break)"))

-- This is the answer to the free words among the program's own.
abbrev pub AnswersFree : Asked → List Text → Answer → Type 0
AnswersFree asked (name ∷ table ∷ words) answer = MatchBool (is_word table)
    (answer ≡ no_table table) (AnswersTable asked name table words answer)
AnswersFree asked words answer =
    answer ≡ misused (codes "getopts_shell: NAME and TABLE are required (see --help)")

-- whether matches contain `--variables` and an option whose text isn't code that sets variables
abbrev pub sets_nothing : Matched → Bool
sets_nothing own = is_given own (codes "variables")
    && (is_given own (codes "help") || (is_given own (codes "version")
    || (is_given own (codes "usage") || (is_given own (codes "complete")
    || is_given own (codes "complete-words")))))

-- the error for these, since a script may run the text
abbrev pub no_code : Answer
no_code = misused (codes "getopts_shell: --variables can't be given with --help, --version, --usage, --complete or --complete-words; if NAME may begin with '-', write '--' before it")

-- This is the answer to the program's own words, which have these matches.
abbrev pub AnswersOwn : Matched → Answer → Type 0
AnswersOwn own answer = MatchBool (sets_nothing own) (answer ≡ no_code)
    (MatchBool (is_given own (codes "help")) (answer ≡ done own_help)
    (MatchBool (is_given own (codes "version")) (answer ≡ done (codes "getopts_shell 1.0.0\n"))
    (AnswersFree (asked_by own) own.free answer)))

-- This is the answer to the program's words.
abbrev pub IsAnswer : List Text → Answer → Type 0
IsAnswer words answer = MatchResult (parse_result own_options words) (λ own. AnswersOwn own answer)
    (λ fault. answer ≡ misused (fault_line (codes "getopts_shell") fault))

-- Words have exactly one answer: one status and one text.
abbrev pub OneAnswer : Type 0
OneAnswer = (words : List Text) (answer other : Answer) → IsAnswer words answer
    → IsAnswer words other
    → other ≡ answer

-- ---- statuses

-- The status is 0 (text), 2 (rejected), 3 (out of memory), 4 (writing failed) or 5 (misused).
abbrev pub IsStatus : ℕ → Type 0
IsStatus status = (status ≤ 5) × (status ≢ 1)

-- The bytes are those of the text of the answer to these words, which has this status.
abbrev pub IsOutput : List Text → List ℕ → ℕ → Type 0
IsOutput words bytes status = (text : Text)
    × IsAnswer words (record { text = text; status = status }) × (bytes ≡ bytes_of text)

-- The writer has received the bytes of the answer to these words, which has this status.
abbrev pub ShowsAnswer : Option (List ℕ) → Option (List ℕ) → List Text → ℕ → Type 0
ShowsAnswer old new words status = (bytes : List ℕ)
    × IsOutput words bytes status × Appends old new bytes

-- The writer has received a prefix of these bytes, perhaps all.
abbrev pub AppendsFront : Option (List ℕ) → Option (List ℕ) → List ℕ → Type 0
AppendsFront old new bytes = (front rest : List ℕ) × (bytes ≡ front ++ rest) × Appends old new front

-- what the program reports if memory runs out, and if a write fails
abbrev pub memory_fault : Text
memory_fault = codes "getopts_shell: out of memory\n"

abbrev pub write_fault : Text
write_fault = codes "getopts_shell: writing the output failed\n"

-- The writer has received a prefix of the answer to these words, which has such a status.
abbrev pub ShowsFront : Option (List ℕ) → Option (List ℕ) → List Text → (ℕ → Type 0) → Type 0
ShowsFront old new words IsItsStatus = (bytes : List ℕ) × (status : ℕ) × IsItsStatus status
    × IsOutput words bytes status × AppendsFront old new bytes

-- The writer of errors has received a prefix of the answer to these words, and then of the report.
abbrev pub ShowsFrontAndFault : Option (List ℕ) → Option (List ℕ) → List Text → Type 0
ShowsFrontAndFault old new words = (between : Option (List ℕ))
    × ShowsFront old between words (λ status. status ≢ 0) × AppendsFront between new write_fault
