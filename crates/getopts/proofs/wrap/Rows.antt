-- The rows of a line, while they are filled word after word.
use Rattle.std.proofs.Common.{◌≡◌, ℕ, ◌+◌, ◌<◌, ◌≤◌, false, List, [], ◌∷◌, ◌++◌, length, map, refl, sym, ap}
use Rattle.std.proofs.Common.{append_assoc, arith, length-append, rules}
use Rattle.std.specs.Str.{IsUtf8}
use Rattle.std.proofs.lemmas.Bool.{le-leb, lt-leb}
use Rattle.std.proofs.lemmas.List.Sums.{sum_by-append, sum_by-cons}
use Rattle.getopts.specs.Names.{Text}
use Rattle.getopts.specs.Wrap.{Run, width_of, columns_of, text_of, words_of}
use Rattle.getopts.specs.UsageResults.{has_room, runs_from, runs_of}
use Rattle.getopts.proofs.wrap.Breakings.{runs_from-taken, runs_from-refused}

-- one more word at the end of a run: columns and text
columns_of-push : (run : Run) (word : Text) → 0 < length run
    → columns_of (run ++ word ∷ []) ≡ columns_of run + (1 + width_of word)
columns_of-push run word has_word =
    omega (arith, sum_by-append width_of run (word ∷ []), length-append run (word ∷ []))

text_of-push : (run : Run) (word : Text) → 0 < length run
    → text_of (run ++ word ∷ []) ≡ (text_of run ++ 32 ∷ []) ++ word
text_of-push [] word has_word = absurd (omega arith)
text_of-push (first ∷ []) word has_word = sym (append_assoc first (32 ∷ []) word)
text_of-push (first ∷ second ∷ run) word has_word =
    search (rules, append_assoc, text_of-push (second ∷ run) word (omega arith))

-- The rows so far, the current row, and the rows of the words to come are the rows before, and
-- those of the line.
pub record RowsSoFar (limit : ℕ) (line : Text) (before rows : List Text) (row : Text) (columns : ℕ)
    (rest : Text) : Type 0 where
  pub run : Run
  pub has_word : 0 < length run
  pub row_is : row ≡ text_of run
  pub columns_are : columns ≡ columns_of run
  pub utf8 : IsUtf8 rest
  pub to_come : rows ++ map text_of (runs_from limit run (words_of rest))
      ≡ before ++ map text_of (runs_of limit (words_of line))

-- the first word begins a row
pub rows_begin : (limit : ℕ) (line : Text) (rows : List Text) (row word : Text) (columns : ℕ)
    (rest : Text) → IsUtf8 rest × (words_of line ≡ word ∷ words_of rest) → row ≡ word
    → columns ≡ width_of word → RowsSoFar limit line rows rows row columns rest
rows_begin limit line rows row word columns rest next row_is columns_are = record {
  run = word ∷ [];
  has_word = omega arith;
  row_is = row_is;
  columns_are = omega (arith, sum_by-cons width_of word []);
  utf8 = next.0;
  to_come = ap (λ (words : List Text). rows ++ map text_of (runs_of limit words)) (sym next.1);
}

module _ {limit : ℕ} {line : Text} {before rows : List Text} {row : Text} {columns : ℕ} {rest : Text}
    (so_far : RowsSoFar limit line before rows row columns rest)
    (word after : Text) (next : IsUtf8 after × (words_of rest ≡ word ∷ words_of after)) where
  -- a word that fits joins the current row
  pub rows_take : columns + (1 + width_of word) ≤ limit
      → RowsSoFar limit line before rows ((row ++ 32 ∷ []) ++ word) (columns + (1 + width_of word)) after
  rows_take fits = search (rules, columns_of-push, le-leb, length-append, text_of-push, runs_from-taken)

  -- a word that doesn't fit ends the current row and begins a new one
  pub rows_end : limit < columns + (1 + width_of word)
      → RowsSoFar limit line before (rows ++ row ∷ []) word (width_of word) after
  rows_end long =
      let run = so_far.run in
      let pushed = columns_of-push run word so_far.has_word in
      let refused : has_room limit run word ≡ false = lt-leb _ _ (omega (arith, so_far.columns_are)) in
      record {
        run = word ∷ [];
        has_word = omega arith;
        row_is = refl;
        columns_are = omega (arith, sum_by-cons width_of word []);
        utf8 = next.0;
        to_come = search (rules, append_assoc, runs_from-refused);
      }
