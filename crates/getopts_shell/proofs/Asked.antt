-- The variables that are asked for, and matches if counts are ignored.
use Rattle.std.proofs.Common.{◌≡◌, ℕ, ◌+◌, List, [], ◌∷◌, Some, None, Ok, map, refl, rules}
use Rattle.getopts.specs.Matches.{Matched, MatchedGroup}
use Rattle.getopts.specs.Names.{Text}
use Rattle.getopts.specs.Options.{Declared}
use Rattle.getopts.specs.Results.{accepted_reading, parse_result, parse_ignoring_counts_result, reading_or_error}
use Rattle.getopts_shell.specs.Program.{Asked, asked_fault}
use Rattle.getopts_shell.specs.Table.{Entry}
use Rattle.getopts_shell.specs.Variables.{Given, HaveOwnVariables, SetsVariables, given_from}
use Rattle.getopts_shell.proofs.Written.{code_sets}

-- if there is no error, the options make their own variables
pub asked_own : (asked : Asked) (prefix : Text) (entries : List Entry) → asked.variables ≡ Some prefix
    → asked_fault asked entries ≡ None → HaveOwnVariables prefix entries
asked_own asked prefix entries given none = search rules

given_entries : (place : ℕ) (entries : List Entry) (held : List MatchedGroup)
    → map (λ (option : Given). option.entry) (given_from place entries held) ≡ entries
given_entries place [] held = refl
given_entries place (entry ∷ entries) held = simp (given_entries (place + 1) entries held)

-- so the code for matches sets variables
pub asked_sets : (asked : Asked) (prefix : Text) (entries : List Entry) (held : List MatchedGroup)
    (free : List Text) → asked.variables ≡ Some prefix → asked_fault asked entries ≡ None
    → SetsVariables prefix asked.arrays (given_from 0 entries held) free
asked_sets asked prefix entries held free given none = search (rules, code_sets, given_entries, asked_own)

-- ---- counts

-- words that keep the counts have the same matches if counts are ignored
pub read_of_parsed : (options : Declared) (words : List Text) (matches : Matched)
    → parse_result options words ≡ Ok matches
    → parse_ignoring_counts_result options words ≡ Ok matches
unfolding reading_or_error accepted_reading
read_of_parsed options words matches is = search rules
