-- Descriptions in rows: the lines of a description, their words, and the ways to break a line's
-- words.
use Rattle.std.specs.Prelude.{◌≡◌, ℕ, ◌+◌, ◌-◌, ◌<◌, ◌≤◌, ◌==◌, nat_lt, Bool, false, ◌⊎◌}
use Rattle.std.specs.Prelude.{List, [], ◌∷◌, ◌++◌, length, take, map, filter, sum_by, All}
use Rattle.std.specs.Prelude.{chars, encode_utf8_all, if◌then◌else◌}
use Rattle.std.specs.List.{AllZip, flat_map, join_by, join_with_byte, slice_split}
use Rattle.std.specs.Char.{is_whitespace}
use Rattle.getopts.specs.Names.{Text}
use Rattle.unicode_width.specs.Width.{str_width}

-- ---- words and runs

-- the words of one row
abbrev pub Run : Type 0
Run = List Text

-- the columns that a word takes by itself
unfoldable pub width_of : Text → ℕ
width_of word = str_width false (chars word)

abbrev pub columns_of : Run → ℕ
columns_of run = sum_by width_of run + (length run - 1)

-- the words of a run, joined by one space
abbrev pub text_of : Run → Text
text_of run = join_with_byte 32 run

-- ---- breakings

-- A run fits if it is a single word, or its columns are at most the limit.
abbrev pub FitsIn : ℕ → Run → Type 0
FitsIn limit run = (length run ≡ 1) ⊎ (columns_of run ≤ limit)

-- The words are broken into these runs: none is empty, and each fits.
pub record IsFittingBreaking (limit : ℕ) (words : List Text) (runs : List Run) : Type 0 where
  pub all_words : flat_map (λ run. run) runs ≡ words
  pub nonempty : All (λ run. 0 < length run) runs
  pub fits : All (FitsIn limit) runs

-- No run still fits with the first word of the next run added.
abbrev pub NoneTakesMore : ℕ → List Run → Type 0
NoneTakesMore limit (run ∷ next ∷ more) =
    (¬ FitsIn limit (run ++ take 1 next)) × NoneTakesMore limit (next ∷ more)
NoneTakesMore limit runs = Unit {0}

-- This is a fitting breaking in which no run has room for the next word.
pub record IsTightBreaking (limit : ℕ) (words : List Text) (runs : List Run) : Type 0 where
  pub fitting : IsFittingBreaking limit words runs
  pub tight : NoneTakesMore limit runs

-- This is a tight breaking, and no fitting breaking of the same words has fewer runs.
pub record IsFewestBreaking (limit : ℕ) (words : List Text) (runs : List Run) : Type 0 where
  pub tight : IsTightBreaking limit words runs
  pub fewest : (others : List Run) → IsFittingBreaking limit words others
      → length runs ≤ length others

-- ---- descriptions

abbrev pub lines_of : Text → List Text
lines_of desc = slice_split (λ byte. byte == 10) desc

-- the words of a line, which is split at white space
abbrev pub words_of : Text → List Text
words_of line =
    map encode_utf8_all
    (filter (λ piece. nat_lt 0 (length piece)) (slice_split is_whitespace (chars line)))

-- The description breaks into these rows; `IsBroken` says how a line's words may break into runs.
pub record BreaksInto (IsBroken : List Text → List Run → Type 0) (desc : Text)
    (rows : List Text) : Type 0 where
  pub breakings : List (List Run)
  pub each_line : AllZip IsBroken (map words_of (lines_of desc)) breakings
  pub rows_are : rows ≡ map text_of (flat_map (λ runs. runs) breakings)

-- These are the rows of the description, by a tight breaking of each line.
abbrev pub IsDescriptionRows : ℕ → Text → List Text → Type 0
IsDescriptionRows limit desc rows = BreaksInto (IsTightBreaking limit) desc rows

-- ---- rows in one text

abbrev pub joined : Text → List Text → Text
joined separator texts = join_by (λ text. text) separator texts

-- the separator before a text, unless that text is the first
abbrev pub parting : Bool → Text → Text
parting begun separator = if begun then separator else []
