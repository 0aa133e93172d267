-- The rows of a description, line after line, and their properties.
use Rattle.std.proofs.Common.{◌≡◌, ◌≢◌, ◌<◌, ◌∙◌, ℕ, zero, suc, true, false, if◌then◌else◌, List, [], ◌∷◌, ◌++◌}
use Rattle.std.proofs.Common.{length, get_or, map, ap, append-nil, arith, refl, rules}
use Rattle.std.specs.List.{AllZip}
use Rattle.std.proofs.lemmas.List.{map-append}
use Rattle.std.proofs.lemmas.List.Concat.{flat_map-append}
use Rattle.getopts.specs.Names.{Text}
use Rattle.getopts.specs.Only.{IsTheOnly}
use Rattle.getopts.specs.Wrap.{Run, text_of, IsTightBreaking, IsFewestBreaking, words_of, BreaksInto}
use Rattle.getopts.specs.Wrap.{IsDescriptionRows}
use Rattle.getopts.specs.UsageResults.{has_room, runs_from, runs_of, rows_of, description_rows}
use Rattle.getopts.proofs.Only.{IsTheOnly-from, map_is_the_only, meets}
use Rattle.getopts.proofs.wrap.Breakings.{runs_of-tight, runs_of-only, runs_of-is_fewest}

-- one more line adds its rows
pub rows_of-push : (limit : ℕ) (lines : List Text) (line : Text) (rows new_rows : List Text)
    → rows ≡ rows_of limit lines → new_rows ≡ rows ++ map text_of (runs_of limit (words_of line))
    → new_rows ≡ rows_of limit (lines ++ line ∷ [])
rows_of-push limit lines line rows new_rows are added = search (rules, map-append, flat_map-append, append-nil)

-- words fill at least one row
runs_from-filled : (limit : ℕ) (run : Run) (words : List Text) → runs_from limit run words ≢ []
runs_from-filled limit run [] none = cc none
runs_from-filled limit run (word ∷ words) none =
    elim (has_room limit run word) as (λ room.
    (if room then runs_from limit (run ++ word ∷ []) words
    else run ∷ runs_from limit (word ∷ []) words) ≢ [])
    [ true ↦ runs_from-filled limit (run ++ word ∷ []) words | false ↦ λ e. cc e ] none

-- and so at least one text
some : (runs more : List Run) → runs ≢ [] → map text_of (runs ++ more) ≢ []
some [] more filled none = filled refl
some (run ∷ runs) more filled none = cc none

none_of : (limit : ℕ) (words : List Text) (more : List Run)
    → map text_of (runs_of limit words ++ more) ≡ [] → words ≡ []
none_of limit words more none = search (rules, some, runs_from-filled)

after_none : (runs more : List Run) → map text_of (runs ++ more) ≡ [] → map text_of more ≡ []
after_none [] more none = none
after_none (run ∷ runs) more none = cc none

-- without rows, no line has words
pub rows_of-none : (limit : ℕ) (lines : List Text) (i : ℕ) (line : Text) → i < length lines
    → line ≡ get_or lines i line → rows_of limit lines ≡ [] → words_of line ≡ []
rows_of-none limit [] i line within is none = absurd (omega (arith, within))
rows_of-none limit (first ∷ lines) zero line within is none =
    ap words_of is ∙ none_of limit (words_of first) _ none
rows_of-none limit (first ∷ lines) (suc i) line within is none =
    rows_of-none limit lines i line (omega (arith, within)) is
    (after_none (runs_of limit (words_of first)) _ none)

each_fewest : (limit : ℕ) (lines : List (List Text))
    → AllZip (IsFewestBreaking limit) lines (map (runs_of limit) lines)
each_fewest limit [] = tt
each_fewest limit (words ∷ lines) = (runs_of-is_fewest limit words, each_fewest limit lines)

-- each line has one tight breaking
breakings_only : (limit : ℕ) (lines : List (List Text))
    → IsTheOnly (AllZip (IsTightBreaking limit) lines) (map (runs_of limit) lines)
breakings_only limit = search (rules, map_is_the_only, IsTheOnly-from, runs_of-tight, runs_of-only)

-- the computed rows are the only rows of the description
pub description_rows-only : (limit : ℕ) (desc : Text)
    → IsTheOnly (IsDescriptionRows limit desc) (description_rows limit desc)
description_rows-only limit desc rows = search (rules, breakings_only, meets)

-- each line has as few rows as any fitting breaking
pub rows_fewest : (limit : ℕ) (desc : Text) (rows : List Text) → IsDescriptionRows limit desc rows
    → BreaksInto (IsFewestBreaking limit) desc rows
rows_fewest limit desc rows are_rows = search (rules, each_fewest, description_rows-only)
