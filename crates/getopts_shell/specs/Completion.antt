-- Completion: the code that a shell runs at a script's words, and what the program offers there.
use Rattle.std.specs.Prelude.{◌==◌, ◌&&◌, not, ℕ, nat_eq, Bool, true, false, List, [], ◌++◌}
use Rattle.std.specs.Prelude.{Option, Some, None, Result, Ok, Err, codes, if◌then◌else◌}
use Rattle.std.specs.List.{filter, flat_map, starts_with}
use Rattle.std.specs.Option.{option_map, option_map_or}
use Rattle.std.specs.Str.{bytes_eq}
use Rattle.getopts.specs.Accessors.{is_present}
use Rattle.getopts.specs.Fail.{Fault}
use Rattle.getopts.specs.Matches.{MatchedGroup, matches_of}
use Rattle.getopts.specs.Names.{Text, is_empty, main_name}
use Rattle.getopts.specs.Options.{Declared}
use Rattle.getopts.specs.Reading.{Reading, Tail, no_tail}
use Rattle.getopts.specs.Results.{reading_or_error}
use Rattle.getopts.specs.declared.kinds.HasArg.{HasArg}
use Rattle.getopts.specs.declared.kinds.HasArg.TheVariants.{No}
use Rattle.getopts_shell.specs.declared.complete.TheConstants.{BASH, ZSH, FISH}
use Rattle.getopts_shell.specs.Quote.{backslash, quoted_byte}
use Rattle.getopts_shell.specs.Table.{Entry, is_long_name}
use Rattle.getopts_shell.specs.declared.row.Frequency.{Frequency}
use Rattle.getopts_shell.specs.declared.row.Frequency.TheVariants.{Once}

-- ---- which options may follow

-- whether a tail is the end of the line
abbrev pub has_no_tail : Tail → Bool
has_no_tail no_tail = true
has_no_tail tail = false

-- the groups of a reading that ends with the line, and so neither in a stop nor in a rest
abbrev pub groups_at_end : Declared → Result Reading Fault → Option (List MatchedGroup)
groups_at_end options (Ok reading) =
    if has_no_tail reading.tail then Some (matches_of options reading).groups else None
groups_at_end options (Err fault) = None

-- the groups of words whose reading ends with the line, so that an option may follow them
abbrev pub groups_before_option : Declared → List Text → Option (List MatchedGroup)
groups_before_option options before = groups_at_end options (reading_or_error options before)

-- whether an option must be given exactly once
abbrev pub is_required : Frequency → Bool
is_required Once = true
is_required frequency = false

-- whether an option is offered: it isn't one that must be given exactly once and was given
abbrev pub may_come : List MatchedGroup → Entry → Bool
may_come groups entry =
    not (is_required entry.frequency && is_present groups (main_name entry.names))

-- ---- what is offered

-- whether a kind takes an argument
abbrev pub takes_argument : HasArg → Bool
takes_argument No = false
takes_argument kind = true

-- the completions of a word by a name after its dashes or, after the name's `=`, by its value
abbrev pub name_line : Text → Bool → Text → Text → Text → Text
name_line word valued dashes name description =
    if is_empty name then []
    else (if starts_with nat_eq (dashes ++ name) word
    then dashes ++ (name ++ (codes "\t" ++ (description ++ codes "\n")))
    else (if valued && starts_with nat_eq word (dashes ++ (name ++ codes "="))
    then codes "value\n" else []))

-- the completions of a word by an option's names: the long one, also after one dash if long-only
abbrev pub option_lines : Bool → Text → Entry → Text
option_lines long_only word entry =
    name_line word (takes_argument entry.kind) (codes "--") entry.names.long entry.description
    ++ (name_line word (takes_argument entry.kind) (codes "-")
    (if long_only then entry.names.long else []) entry.description
    ++ name_line word (long_only && takes_argument entry.kind) (codes "-") entry.names.short
    entry.description)

-- the completions for the options that are offered, in their order
abbrev pub options_lines : List MatchedGroup → Bool → Text → List Entry → Text
options_lines groups long_only word entries =
    flat_map (option_lines long_only word) (filter (may_come groups) entries)

-- the completions at a word: options if it begins with `-` and one may follow, otherwise files
abbrev pub offer : Declared → List Entry → List Text → Text → Text
offer options entries before word =
    option_map_or (λ groups. options_lines groups options.long_only word entries)
    (if starts_with nat_eq word (codes "-") then groups_before_option options before else None)
    (codes "files\n")

-- ---- the code for a shell

-- a byte of a word in quotes, as bash, zsh and fish read it: `'` and `\` are outside the quotes
abbrev pub stub_byte : ℕ → Text
stub_byte byte = if byte == backslash then codes "'\\\\'" else quoted_byte byte

-- a word in quotes, as each of the three shells reads it
abbrev pub stub_quoted : Text → Text
stub_quoted word = codes "'" ++ (flat_map stub_byte word ++ codes "'")

-- the first line of the code for a shell: for zsh's `$fpath`, the script's name, if it is plain
abbrev pub first_line : Text → Text → Text
first_line shell name = if bytes_eq shell (codes "zsh") && is_long_name name
    then codes "#compdef " ++ (name ++ codes "\n") else []

-- the functions that all scripts share in a shell, if the shell is supported
abbrev pub functions : Text → Option Text
functions shell =
    if bytes_eq shell (codes "bash") then Some BASH.now
    else (if bytes_eq shell (codes "zsh") then Some ZSH.now
    else (if bytes_eq shell (codes "fish") then Some FISH.now else None))

-- the program's own options for a style and a mode
abbrev pub modes : Bool → Bool → Text
modes stop long_only =
    (if stop then codes " --stop" else []) ++ (if long_only then codes " --long-only" else [])

-- the call of such a function, with a script's name, its table, its style and its mode
abbrev pub stub_call : Bool → Bool → Text → Text → Text
stub_call stop long_only name table = codes "_getopts_shell_complete " ++ (stub_quoted name
    ++ (codes " " ++ (stub_quoted table ++ (modes stop long_only ++ codes "\n"))))

-- the code that completes a script's words in a shell, if the shell is supported
abbrev pub stub : Text → Bool → Bool → Text → Text → Option Text
stub shell stop long_only name table =
    option_map (λ text. first_line shell name ++ (text ++ stub_call stop long_only name table))
    (functions shell)
