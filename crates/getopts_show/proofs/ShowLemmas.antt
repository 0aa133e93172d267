-- What the program shows for its names and groups.
use Rattle.std.proofs.Common.{◌≡◌, ℕ, Bool, zero, suc, ◌<◌, List, [], ◌∷◌, length, get_or, map, arith, Ok, rules}
use Rattle.std.specs.Borrow.{Bor}
use Rattle.std.specs.List.{AllByRecursion, flat_map}
use Rattle.getopts.specs.Results.{accepted_reading, parse_result}
use Rattle.getopts.specs.Matches.{Matched, MatchedGroup, matches_of}
use Rattle.getopts.specs.Names.{Text, main_name, texts}
use Rattle.getopts.specs.Options.{Group}
use Rattle.getopts.specs.Reading.{Reading}
use Rattle.getopts.specs.Only.{IsTheOnly}
use Rattle.getopts.specs.Parse.{IsLineOf}
use Rattle.getopts_show.specs.Program.{HasProgramGroups, IsProgramText, IsReadingText, IsResultText, asks_help}
use Rattle.getopts_show.specs.Program.{group_lines, named_lines, program_groups, program_options}

-- what holds of each text holds of the text at a place
pub text_at : (P : Text → Type 0) (words : List (Bor Text)) → AllByRecursion P (texts words)
    → (k : ℕ) (default : Bor Text) → k < length words → P (get_or words k default).now
text_at P [] each k default below = absurd (omega arith)
text_at P (word ∷ words) each zero default below = each.0
text_at P (word ∷ words) each (suc k) default below = text_at P words each.1 k default (omega arith)

-- the main names of the program's groups
abbrev pub main_names : List Text
main_names = map (λ (group : Group). main_name group.signature.names) program_groups

-- the lines of the program's main names are the lines of its groups
pub lines_of_names : (groups : List MatchedGroup) → HasProgramGroups groups
    → flat_map (named_lines groups) main_names ≡ flat_map group_lines groups
lines_of_names groups (occurrences, is) = search rules

-- the text of the only result of the words
pub of_the_only : (words : List Text) (text : Text) (status : ℕ)
    → IsTheOnly (IsLineOf program_options words) (accepted_reading program_options words)
    → IsResultText (accepted_reading program_options words) text status
    → IsProgramText words text status
of_the_only words text status only is = (accepted_reading program_options words, only, is)

-- the matches and the text of accepted words
module _ (words : List Text) (matches : Matched) (is : parse_result program_options words ≡ Ok matches) where
  pub program_groups_of : HasProgramGroups matches.groups
  program_groups_of = search rules

  pub are_accepted : (reading : Reading) × (accepted_reading program_options words ≡ Ok reading)
  are_accepted = search rules

  -- a text of the reading is theirs
  pub text_of_reading : (asks : Bool) (text : Text) → asks_help matches ≡ asks
      → ((reading : Reading) → accepted_reading program_options words ≡ Ok reading
      → matches_of program_options reading ≡ matches → IsReadingText asks reading text)
      → IsResultText (accepted_reading program_options words) text 0
  text_of_reading asks text asked says = search rules
