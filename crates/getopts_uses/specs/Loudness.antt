-- Help, a value, and flags of which the last one wins: the options, and what words ask for.
use Rattle.std.specs.Prelude.{◌≡◌, ⊤, if◌then◌else◌, false, ℕ, List, [], ◌∷◌, codes, map}
use Rattle.std.specs.Prelude.{Option, Some, None, Result, Ok, Err, unwrap_or}
use Rattle.std.specs.Option.{option_map}
use Rattle.std.specs.Result.{result_map_both}
use Rattle.std.specs.String.{string_bytes}
use Rattle.getopts.specs.Prelude.{Declared, Fault, IsOutOfMemoryOr, Matched, Text, first_value}
use Rattle.getopts.specs.Prelude.{group_of, is_named, is_present, occurrences_of_name, Given, option, free_word}
use Rattle.getopts.specs.Prelude.{parse_ignoring_counts_result, parse_result}
use Rattle.getopts.specs.declared.fail.Fail.{Fail}
use Rattle.getopts.specs.declared.kinds.HasArg.TheVariants.{No, Yes}
use Rattle.getopts.specs.declared.kinds.Occur.TheVariants.{Optional, Multi}
use Rattle.getopts.specs.declared.kinds.ParsingStyle.TheVariants.{FloatingFrees}
use Rattle.getopts_uses.specs.declared.loudness.Loudness.{Loudness}
use Rattle.getopts_uses.specs.declared.loudness.Loudness.TheVariants.{Normal, Quiet, Verbose}
use Rattle.getopts_uses.specs.declared.loudness.Report.{Report}
use Rattle.getopts_uses.specs.declared.request.Request.{Request}
use Rattle.getopts_uses.specs.declared.request.Request.TheVariants.{Help, Parsed}

-- two flags, an option with a value, and help
abbrev pub report_options : Declared
report_options = record {
  groups =
      group_of (codes "q") (codes "quiet") (codes "say less") [] No Multi
      ∷ group_of (codes "v") (codes "verbose") (codes "say more") [] No Multi
      ∷ group_of (codes "o") (codes "output") (codes "write to FILE") (codes "FILE") Yes Optional
      ∷ group_of (codes "h") (codes "help") (codes "print this help") [] No Optional
      ∷ [];
  style = FloatingFrees;
  long_only = false;
}

-- how much output the option at a place asks for, if any
abbrev pub loudness_at : ℕ → Option Loudness
loudness_at place = if is_named report_options place (codes "quiet") then Some Quiet
    else (if is_named report_options place (codes "verbose") then Some Verbose else None)

-- how much output an order asks for, if it was `loudness` before: the last of the flags wins
abbrev pub after : Loudness → List Given → Loudness
after loudness [] = loudness
after loudness (option place value ∷ order) = after (unwrap_or (loudness_at place) loudness) order
after loudness (free_word word ∷ order) = after loudness order

-- This is how much output the options of a command line ask for, or its error.
abbrev pub IsLoudnessOrError : Result (List Given) Fault → Result Loudness Fail → Type 0
IsLoudnessOrError line (Err fail) = IsOutOfMemoryOr fail (λ fault. line ≡ Err fault)
IsLoudnessOrError (Ok order) (Ok loudness) = loudness ≡ after Normal order
IsLoudnessOrError (Err fault) (Ok loudness) = ⊥

-- This is the report that matches ask for, with this much output.
pub record IsReportOf (matches : Matched) (loudness : Loudness) (report : Report) : Type 0 where
  pub loud : report.loudness ≡ loudness
  pub output : option_map string_bytes report.output
      ≡ first_value (occurrences_of_name matches.groups (codes "output"))
  pub files : map string_bytes report.files.items ≡ matches.free

-- what a command line asks for, by its matches with counts ignored and by its result
abbrev pub asked_of : Result Matched Fault → Result Matched Fault → Result (Request Matched) Fault
asked_of (Err fault) line = Err fault
asked_of (Ok read) line = if is_present read.groups (codes "help") then Ok Help
    else result_map_both Parsed (λ fault. fault) line

-- what these words ask for, or their error
abbrev pub asked_result : List Text → Result (Request Matched) Fault
asked_result words =
    asked_of (parse_ignoring_counts_result report_options words) (parse_result report_options words)

-- This is what a command line asks for, or its error.
abbrev pub IsAskedOrError : Result (Request Matched) Fault → Result (List Given) Fault
    → Result (Request Report) Fail → Type 0
IsAskedOrError asked line (Err fail) = IsOutOfMemoryOr fail (λ fault. asked ≡ Err fault)
IsAskedOrError (Ok Help) line (Ok Help) = ⊤
IsAskedOrError (Ok (Parsed matches)) (Ok order) (Ok (Parsed report)) =
    IsReportOf matches (after Normal order) report
IsAskedOrError asked line result = ⊥
