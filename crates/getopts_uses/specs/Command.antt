-- A program with subcommands: its options and theirs, their help, and what a command line runs.
use Rattle.std.specs.Prelude.{◌≡◌, ◌≢◌, ⊤, ◌⊎◌, if◌then◌else◌, List, [], ◌∷◌, true, false, map}
use Rattle.std.specs.Prelude.{codes, Option, Some, None, Result, Ok, Err}
use Rattle.std.specs.Option.{option_map}
use Rattle.std.specs.Result.{result_map_both}
use Rattle.std.specs.String.{string_bytes}
use Rattle.getopts.specs.Prelude.{Declared, Fault, IsOutOfMemoryOr, Matched, Text, first_value}
use Rattle.getopts.specs.Prelude.{is_present, occurrences_of_name, optflag, optmulti, optopt}
use Rattle.getopts.specs.Prelude.{options_of, parse_ignoring_counts_result, parse_result, reqopt}
use Rattle.getopts.specs.Prelude.{values_of}
use Rattle.getopts.specs.declared.kinds.ParsingStyle.TheVariants.{StopAtFirstFree}
use Rattle.getopts_uses.specs.Driver.{names_none}
use Rattle.getopts_uses.specs.declared.subcommand.Add.{Add}
use Rattle.getopts_uses.specs.declared.subcommand.Command.{Command}
use Rattle.getopts_uses.specs.declared.subcommand.Command.TheVariants as command
use Rattle.getopts_uses.specs.declared.subcommand.Log.{Log}
use Rattle.getopts_uses.specs.declared.subcommand.Refusal.{Refusal}
use Rattle.getopts_uses.specs.declared.subcommand.Refusal.TheVariants as refusal
use Rattle.getopts_uses.specs.declared.subcommand.Run.{Run}

-- the options before a subcommand
abbrev pub global_options : Declared
global_options = record (options_of (
    optflag (codes "q") (codes "quiet") (codes "say less")
    ∷ optopt (codes "C") (codes "folder") (codes "work in DIR") (codes "DIR")
    ∷ [])) { style = StopAtFirstFree }

-- the options of `add`
abbrev pub add_options : Declared
add_options = options_of (
    optflag (codes "f") (codes "force") (codes "add ignored files too")
    ∷ optflag (codes "h") (codes "help") (codes "print this help")
    ∷ [])

-- the options of `log`
abbrev pub log_options : Declared
log_options = options_of (
    reqopt (codes "n") (codes "max-count") (codes "show NUMBER entries") (codes "NUMBER")
    ∷ optmulti [] (codes "grep") (codes "show those that have TEXT") (codes "TEXT")
    ∷ optflag (codes "h") (codes "help") (codes "print this help")
    ∷ [])

-- the help of `add`, byte for byte
abbrev pub add_help : Text
add_help = codes "Usage: add [options] FILE..\n\nOptions:\n    -f, --force         add ignored files too\n    -h, --help          print this help\n"

-- the help of `add` within 40 columns, byte for byte
abbrev pub narrow_add_help : Text
narrow_add_help = codes "Usage: add [options] FILE..\n\nOptions:\n    -f, --force         add ignored\n                        files too\n    -h, --help          print this help\n"

-- the help of `log`, byte for byte
abbrev pub log_help : Text
log_help = codes "Usage: log -n NUMBER [options] FILE..\n\nOptions:\n    -n, --max-count NUMBER\n                        show NUMBER entries\n        --grep TEXT     show those that have TEXT\n    -h, --help          print this help\n"

-- none if help is given, by matches with counts ignored, and otherwise the result of a command line
abbrev pub unless_help : Result Matched Fault → Result Matched Fault → Result (Option Matched) Fault
unless_help (Err fault) line = Err fault
unless_help (Ok read) line = if is_present read.groups (codes "help") then Ok None
    else result_map_both Some (λ fault. fault) line

-- what a subcommand's own words ask for, by its options
abbrev pub parse_unless_help : Declared → List Text → Result (Option Matched) Fault
parse_unless_help options words =
    unless_help (parse_ignoring_counts_result options words) (parse_result options words)

-- This is what matches of `add` ask for, which need a file.
abbrev pub IsAddOf : Matched → Result Add Refusal → Type 0
IsAddOf matches (Ok add) = (names_none matches ≡ false)
    × (add.force ≡ is_present matches.groups (codes "force"))
    × (map string_bytes add.files.items ≡ matches.free)
IsAddOf matches (Err refusal.NoFile) = names_none matches ≡ true
IsAddOf matches result = ⊥

-- This is what a command line of `add` asks for, or none if that is help, or its error.
abbrev pub IsAddOrError : Result (Option Matched) Fault → Result (Option Add) Refusal → Type 0
IsAddOrError asked (Err refusal.OutOfMemory) = ⊤
IsAddOrError asked (Err (refusal.Own name fail)) =
    (name.now ≡ codes "add") × IsOutOfMemoryOr fail (λ fault. asked ≡ Err fault)
IsAddOrError (Ok None) (Ok None) = ⊤
IsAddOrError (Ok (Some matches)) (Ok (Some add)) = IsAddOf matches (Ok add)
IsAddOrError (Ok (Some matches)) (Err error) = IsAddOf matches (Err error)
IsAddOrError asked result = ⊥

-- This is what matches of `log` ask for.
pub record IsLogOf (matches : Matched) (log : Log) : Type 0 where
  pub count : first_value
      (occurrences_of_name matches.groups (codes "max-count")) ≡ Some (string_bytes log.count)
  pub texts : map string_bytes log.texts.items
      ≡ values_of (occurrences_of_name matches.groups (codes "grep"))
  pub files : map string_bytes log.files.items ≡ matches.free

-- This is what a command line of `log` asks for, or none if that is help, or its error.
abbrev pub IsLogOrError : Result (Option Matched) Fault → Result (Option Log) Refusal → Type 0
IsLogOrError asked (Err refusal.OutOfMemory) = ⊤
IsLogOrError asked (Err (refusal.Own name fail)) =
    (name.now ≡ codes "log") × IsOutOfMemoryOr fail (λ fault. asked ≡ Err fault)
IsLogOrError (Ok None) (Ok None) = ⊤
IsLogOrError (Ok (Some matches)) (Ok (Some log)) = IsLogOf matches log
IsLogOrError asked result = ⊥

-- This is the subcommand of this name, with what its own words ask for, or why there is none.
abbrev pub IsCommandOrError : Text → List Text → Result Command Refusal → Type 0
IsCommandOrError name words (Err refusal.OutOfMemory) = ⊤
IsCommandOrError name words (Ok (command.Add add)) =
    (name ≡ codes "add") × IsAddOrError (parse_unless_help add_options words) (Ok add)
IsCommandOrError name words (Ok (command.Log log)) =
    (name ≡ codes "log") × IsLogOrError (parse_unless_help log_options words) (Ok log)
IsCommandOrError name words (Err (refusal.Unknown text)) =
    (string_bytes text ≡ name) × (name ≢ codes "add") × (name ≢ codes "log")
IsCommandOrError name words (Err (refusal.Line fail)) = ⊥
IsCommandOrError name words (Err refusal.NoCommand) = ⊥
IsCommandOrError name words (Err error) =
    ((name ≡ codes "add") × IsAddOrError (parse_unless_help add_options words) (Err error))
    ⊎ ((name ≡ codes "log") × IsLogOrError (parse_unless_help log_options words) (Err error))

-- This is what matches with these free words run: a subcommand's name, and its own words.
abbrev pub IsRunOf : Matched → List Text → Result Run Refusal → Type 0
IsRunOf global free (Err refusal.OutOfMemory) = ⊤
IsRunOf global [] (Err refusal.NoCommand) = ⊤
IsRunOf global (name ∷ words) (Ok run) =
    (run.quiet ≡ is_present global.groups (codes "quiet"))
    × (option_map string_bytes run.folder ≡ first_value (occurrences_of_name global.groups (codes "folder")))
    × IsCommandOrError name words (Ok run.command)
IsRunOf global (name ∷ words) (Err refused) = IsCommandOrError name words (Err refused)
IsRunOf global [] result = ⊥

-- This is what a command line runs, or why it runs nothing.
abbrev pub IsRunOrError : Result Matched Fault → Result Run Refusal → Type 0
IsRunOrError line (Err refusal.OutOfMemory) = ⊤
IsRunOrError line (Err (refusal.Line fail)) = IsOutOfMemoryOr fail (λ fault. line ≡ Err fault)
IsRunOrError (Ok global) result = IsRunOf global global.free result
IsRunOrError (Err fault) result = ⊥
