-- Rows of descriptions and usage texts as functions. Nobody has to trust these definitions: the
-- clauses of `usage_texts_are_computed` say that each gives the only value that a definition of
-- `Wrap` or `Usage` allows.
use Rattle.std.specs.Prelude.{ℕ, Bool, nat_le, if◌then◌else◌, List, [], ◌∷◌, ◌++◌, map}
use Rattle.std.specs.List.{flat_map}
use Rattle.getopts.specs.Names.{Text}
use Rattle.getopts.specs.Options.{Group, Declared}
use Rattle.getopts.specs.Wrap.{Run, columns_of, text_of, lines_of, words_of}
use Rattle.getopts.specs.Usage.{any_short, head, row_text, description_columns, usual_columns, usage_text}

-- ---- rows of descriptions

abbrev pub has_room : ℕ → Run → Text → Bool
has_room limit run word = nat_le (columns_of (run ++ word ∷ [])) limit

-- the runs of words, if this run may still grow and these words follow it
abbrev pub runs_from : ℕ → Run → List Text → List Run
runs_from limit run [] = run ∷ []
runs_from limit run (word ∷ words) =
    if has_room limit run word then runs_from limit (run ++ word ∷ []) words
    else run ∷ runs_from limit (word ∷ []) words

-- the runs of words: each takes as many words as fit
abbrev pub runs_of : ℕ → List Text → List Run
runs_of limit [] = []
runs_of limit (word ∷ words) = runs_from limit (word ∷ []) words

abbrev pub rows_of : ℕ → List Text → List Text
rows_of limit lines =
    map text_of (flat_map (λ runs. runs) (map (runs_of limit) (map words_of lines)))

abbrev pub description_rows : ℕ → Text → List Text
description_rows limit desc = rows_of limit (lines_of desc)

-- ---- usage texts

abbrev pub usage_row_in : ℕ → Bool → Bool → Group → Text
usage_row_in columns long_only among_shorts group =
    row_text (head long_only among_shorts group)
    (description_rows (description_columns columns) group.description)

abbrev pub usage_rows_in_result : ℕ → Declared → List Text
usage_rows_in_result columns options =
    map (usage_row_in columns options.long_only (any_short options.groups)) options.groups

abbrev pub usage_rows_result : Declared → List Text
usage_rows_result options = usage_rows_in_result usual_columns options

abbrev pub usage_in_result : ℕ → Declared → Text → Text
usage_in_result columns options brief = usage_text brief (usage_rows_in_result columns options)

abbrev pub usage_result : Declared → Text → Text
usage_result options brief = usage_in_result usual_columns options brief
