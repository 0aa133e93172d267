-- The program: its options, and the output and status for given words.
use Rattle.std.specs.Prelude.{◌≡◌, ◌⊎◌, ℕ, Bool, true, false, Option, List, [], ◌∷◌, ◌++◌, length}
use Rattle.std.specs.Prelude.{codes, decimal, Result, Ok, Err}
use Rattle.std.specs.List.{flat_map}
use Rattle.std.specs.Io.KnownBytes.{Appends}
use Rattle.getopts.specs.Accessors.{is_present, occurrences_of_name, pairs_of, positions_of}
use Rattle.getopts.specs.Canon.{Content, canonical_line, content_of}
use Rattle.getopts.specs.Fail.{Fault, fault_text}
use Rattle.getopts.specs.Matches.{GroupOccurrence, Matched, MatchedGroup, matched, matches_of}
use Rattle.getopts.specs.Names.{Text, main_name}
use Rattle.getopts.specs.Options.{Group, Declared, group_of, signatures_of}
use Rattle.getopts.specs.Reading.{Occurrence, Reading}
use Rattle.getopts.specs.Parse.{IsLineOf}
use Rattle.getopts.specs.Only.{IsTheOnly}
use Rattle.getopts.specs.Usage.{IsUsageText}
use Rattle.getopts.specs.declared.kinds.HasArg.TheVariants.{Yes, No, Maybe}
use Rattle.getopts.specs.declared.kinds.Occur.TheVariants.{Optional, Multi}
use Rattle.getopts.specs.declared.kinds.ParsingStyle.TheVariants.{FloatingFrees}

-- the program's groups
abbrev pub program_groups : List Group
program_groups =
    group_of (codes "o") (codes "output") (codes "set output file name") (codes "NAME") Yes Optional
    ∷ group_of (codes "h") (codes "help") (codes "print this help menu") [] No Optional
    ∷ group_of (codes "v") (codes "verbose") (codes "say more") [] No Multi
    ∷ group_of (codes "L") [] (codes "add a folder") (codes "DIR") Yes Multi
    ∷ group_of (codes "c") (codes "color") (codes "colour the output") (codes "WHEN") Maybe Optional
    ∷ []

-- the program's options: its groups, in the default style and mode
abbrev pub program_options : Declared
program_options = record { groups = program_groups; style = FloatingFrees; long_only = false }

-- the end of a line
abbrev pub newline : Text
newline = 10 ∷ []

-- the mark of a position: a space, `@` and the number
abbrev pub position_mark : ℕ → Text
position_mark position = codes " @" ++ decimal position

-- the line `name: count` for some occurrences, with the mark of each position after the count
abbrev pub count_line : Text → List GroupOccurrence → Text
count_line name occurrences =
    name ++ (codes ": " ++ (decimal (length occurrences)
    ++ (flat_map position_mark (positions_of occurrences) ++ newline)))

-- the line `name @position = value`
abbrev pub value_line : Text → ℕ × Text → Text
value_line name pair =
    name ++ (codes " @" ++ (decimal pair.0 ++ (codes " = " ++ (pair.1 ++ newline))))

-- the line `label: word`
abbrev pub word_line : Text → Text → Text
word_line label word = label ++ (codes ": " ++ (word ++ newline))

-- the count and positions of an option with this name and these occurrences, and its values
abbrev pub option_lines : Text → List GroupOccurrence → Text
option_lines name occurrences = count_line name occurrences ++ flat_map (value_line name) (pairs_of occurrences)

-- the lines of the option that this name resolves to, under this name
abbrev pub named_lines : List MatchedGroup → Text → Text
named_lines groups name = option_lines name (occurrences_of_name groups name)

-- The groups are the program's, each with its share of some occurrences.
abbrev pub HasProgramGroups : List MatchedGroup → Type 0
HasProgramGroups groups =
    (occurrences : List Occurrence) × (groups ≡ matched 0 (signatures_of program_groups) occurrences)

-- the lines of a group, under its main name
abbrev pub group_lines : MatchedGroup → Text
group_lines group = option_lines (main_name group.signature.names) group.occurrences

-- the output for matches: the lines of each option in order, and the line of each free word
abbrev pub matches_text : Matched → Text
matches_text matches = flat_map group_lines matches.groups ++ flat_map (word_line (codes "free")) matches.free

-- the output for a content: the line of each word of its canonical line
abbrev pub content_text : Content → Text
content_text content = flat_map (word_line (codes "line")) (canonical_line program_groups content)

-- the line for an error: the program's name, and the error's text
abbrev pub fault_line : Fault → Text
fault_line fault = codes "getopts_show: " ++ (fault_text fault ++ newline)

-- whether matches ask for help
abbrev pub asks_help : Matched → Bool
asks_help matches = is_present matches.groups (codes "help")

-- the line before the options in the program's help
abbrev pub help_brief : Text
help_brief = codes "Usage: getopts_show [options] FILE"

-- the program's help, written out
abbrev pub program_help : Text
program_help =
    codes "Usage: getopts_show [options] FILE\n\nOptions:\n"
    ++ (codes "    -o, --output NAME   set output file name\n"
    ++ (codes "    -h, --help          print this help menu\n"
    ++ (codes "    -v, --verbose       say more\n"
    ++ (codes "    -L DIR              add a folder\n"
    ++ codes "    -c, --color [WHEN]  colour the output\n"))))

-- This is the program's help: the only usage text of its options, which is the one written out.
abbrev pub IsHelpText : Text → Type 0
IsHelpText text = IsTheOnly (IsUsageText program_options help_brief) text × (text ≡ program_help)

-- This is the output for accepted words with this reading: the help, if they ask for it (`true`).
abbrev pub IsReadingText : Bool → Reading → Text → Type 0
IsReadingText true reading text = IsHelpText text
IsReadingText false reading text = text
    ≡ matches_text (matches_of program_options reading) ++ content_text (content_of program_options reading)

-- These are the output and the status for this result.
abbrev pub IsResultText : Result Reading Fault → Text → ℕ → Type 0
IsResultText (Ok reading) text status =
    IsReadingText (asks_help (matches_of program_options reading)) reading text × (status ≡ 0)
IsResultText (Err fault) text status = (text ≡ fault_line fault) × (status ≡ 2)

-- These are the output and the status for the only result of the words.
abbrev pub IsProgramText : List Text → Text → ℕ → Type 0
IsProgramText words text status = (result : Result Reading Fault)
    × IsTheOnly (IsLineOf program_options words) result × IsResultText result text status

-- The status is 0 or 2 for a line (`IsDone`), 3 if an allocation failed, or 4 if writing failed.
abbrev pub IsStatus : ℕ → Type 0
IsStatus status = (status ≡ 0) ⊎ (status ≡ 2) ⊎ (status ≡ 3) ⊎ (status ≡ 4)

-- With this status, the output for the words was written.
abbrev pub IsDone : ℕ → Type 0
IsDone status = (status ≡ 0) ⊎ (status ≡ 2)

-- The writer has received the output for these words, which have this status.
pub record ShowsText (old new : Option (List ℕ)) (words : List Text) (status : ℕ) : Type 0 where
  pub text : Text
  pub is_text : IsProgramText words text status
  pub written : Appends old new text
