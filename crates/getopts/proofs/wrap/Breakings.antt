-- Breakings of a line's words: filling rows from the left gives the one tight breaking, and no
-- fitting breaking has fewer runs.
use Rattle.std.proofs.Common.{◌≡◌, ℕ, ◌<◌, ◌≤◌, true, false, List, [], ◌∷◌, ◌++◌, rules, length, sym, refl, ap, ◌∙◌}
use Rattle.std.proofs.Common.{subst, inl, inr, ⊎_elim, append_assoc, append-nil, arith, length-append}
use Rattle.std.specs.Prelude.{All}
use Rattle.std.specs.List.{flat_map}
use Rattle.std.proofs.lemmas.Bool.{cases_Bool, cond-true, cond-false, leb-true, le-leb, false_from_ne_true}
use Rattle.std.proofs.lemmas.List.Elements.{All-nil, All-cons, All-head, All-tail}
use Rattle.std.proofs.lemmas.List.Sums.{sum_by-append}
use Rattle.getopts.specs.Names.{Text}
use Rattle.getopts.specs.Wrap.{Run, FitsIn, NoneTakesMore, IsTightBreaking, IsFewestBreaking}
use Rattle.getopts.specs.UsageResults.{has_room, runs_from, runs_of}
use Rattle.getopts.proofs.Lists.{Within, cuts}
use Rattle.std.proofs.lemmas.Grind.{common_steps}

-- ---- filling row after row

-- one more word: it is taken, or begins a row
pub runs_from-taken : (limit : ℕ) (run : Run) (word : Text) (words : List Text) → has_room limit run word ≡ true
    → runs_from limit run (word ∷ words) ≡ runs_from limit (run ++ word ∷ []) words
runs_from-taken limit run word words e = cond-true (has_room limit run word) _ _ e

pub runs_from-refused : (limit : ℕ) (run : Run) (word : Text) (words : List Text) → has_room limit run word ≡ false
    → runs_from limit run (word ∷ words) ≡ run ∷ runs_from limit (word ∷ []) words
runs_from-refused limit run word words e = cond-false (has_room limit run word) _ _ e

-- ---- a run within a fitting run fits

pub FitsIn-inside : (limit : ℕ) (front run back : Run) → 0 < length run
    → FitsIn limit (front ++ (run ++ back)) → FitsIn limit run
FitsIn-inside limit front run back has_word fits = search (rules, length-append, sum_by-append)

-- ---- filling gives a tight breaking

-- a run with a word more that fits had room for the word
room_if_fits : (limit : ℕ) (run : Run) (word : Text) → 0 < length run
    → FitsIn limit (run ++ word ∷ []) → has_room limit run word ≡ true
room_if_fits limit run word has_word fits = search (rules, length-append, le-leb)

refused_does_not_fit : (limit : ℕ) (run : Run) (word : Text) → 0 < length run
    → has_room limit run word ≡ false → ¬ FitsIn limit (run ++ word ∷ [])
refused_does_not_fit limit run word has_word refused fits = search (rules, room_if_fits)

runs_from-tight : (limit : ℕ) (run : Run) (words : List Text) → 0 < length run → FitsIn limit run
    → IsTightBreaking limit (run ++ words) (runs_from limit run words)
runs_from-tight limit run [] has_word fits = search (rules, All-cons, All-nil)
runs_from-tight limit run (word ∷ words) has_word fits =
    elim (cases_Bool (has_room limit run word)) [
      | inl taken ↦
          let longer : 0 < length (run ++ word ∷ []) =
          omega (arith, length-append run (word ∷ [])) in
          let rest = runs_from-tight limit (run ++ word ∷ []) words longer
          (inr (leb-true _ _ taken)) in
          rw (runs_from-taken limit run word words taken) (rw append_assoc at rest)
      -- a run without room for the first word of a tight breaking extends it to a tight breaking
      | inr refused ↦
          let rest = runs_from-tight limit (word ∷ []) words (omega arith) (inl refl) in
          search (rules, runs_from-refused, refused_does_not_fit, rest, All-head, All-cons)
    ]

pub runs_of-tight : (limit : ℕ) (words : List Text) → IsTightBreaking limit words (runs_of limit words)
runs_of-tight limit [] = search (rules, All-nil)
runs_of-tight limit (word ∷ words) = runs_from-tight limit (word ∷ []) words (omega arith) (inl refl)

-- ---- all tight breakings

-- the words of some runs
abbrev words_in : List Run → List Text
words_in runs = flat_map (λ run. run) runs

-- if no run has room for the next word, filling from the front of the first run gives these runs
filled : (limit : ℕ) (run more : Run) (runs : List Run) → 0 < length run → FitsIn limit (run ++ more)
    → NoneTakesMore limit ((run ++ more) ∷ runs) → All (λ run. 0 < length run) runs → All (FitsIn limit) runs
    → (run ++ more) ∷ runs ≡ runs_from limit run (more ++ words_in runs)
filled limit run [] [] has_word fit tight nonempty fits = ap (λ run. run ∷ []) (append-nil run)
filled limit run [] ([] ∷ runs) has_word fit tight nonempty fits = search (rules, All-head)
filled limit run [] ((word ∷ more) ∷ runs) has_word fit tight nonempty fits =
    let long : ¬ FitsIn limit (run ++ word ∷ []) = rw append-nil at tight.0 in
    let refused : has_room limit run word ≡ false =
    false_from_ne_true _ (λ taken. long (inr (leb-true _ _ taken))) in
    let others = filled limit (word ∷ []) more runs (omega arith)
    (All-head (FitsIn limit) (word ∷ more) runs fits) tight.1
    (All-tail (λ run. 0 < length run) (word ∷ more) runs nonempty)
    (All-tail (FitsIn limit) (word ∷ more) runs fits) in search (rules, append-nil, runs_from-refused)
filled limit run (word ∷ more) runs has_word fit tight nonempty fits =
    let longer : 0 < length (run ++ word ∷ []) = omega (arith, length-append run (word ∷ [])) in
    let joined : run ++ word ∷ more ≡ (run ++ word ∷ []) ++ more =
    sym (append_assoc run (word ∷ []) more) in
    let fit_now = subst (FitsIn limit) joined fit in
    let taken = room_if_fits limit run word has_word
    (FitsIn-inside limit [] (run ++ word ∷ []) more longer fit_now) in
    ap (λ first. first ∷ runs) joined
    ∙ filled limit (run ++ word ∷ []) more runs longer fit_now
    (subst (λ first. NoneTakesMore limit (first ∷ runs)) joined tight) nonempty fits
    ∙ sym (runs_from-taken limit run word (more ++ words_in runs) taken)

-- words have one tight breaking
pub runs_of-only : (limit : ℕ) (words : List Text) (others : List Run)
    → IsTightBreaking limit words others → others ≡ runs_of limit words
runs_of-only limit words [] tight = ap (runs_of limit) tight.fitting.all_words
runs_of-only limit words ([] ∷ runs) tight = search (rules, All-head)
runs_of-only limit words ((word ∷ more) ∷ runs) tight =
    filled limit (word ∷ []) more runs (omega arith)
    (All-head (FitsIn limit) (word ∷ more) runs tight.fitting.fits) tight.tight
    (All-tail (λ run. 0 < length run) (word ∷ more) runs tight.fitting.nonempty)
    (All-tail (FitsIn limit) (word ∷ more) runs tight.fitting.fits)
    ∙ ap (runs_of limit) tight.fitting.all_words

-- a fitting run that contains a tight run doesn't go on after it
ends_with : (limit : ℕ) (front run back : Run) (runs : List Run) (word : Text) (more : List Text)
    → NoneTakesMore limit (run ∷ runs) → All (λ run. 0 < length run) (run ∷ runs) → words_in runs ≡ word ∷ more
    → FitsIn limit (front ++ (run ++ word ∷ back)) → ⊥
ends_with limit front run back runs word more tight nonempty is fits =
    grind (arith, common_steps, All-head, All-tail, FitsIn-inside, length-append, append_assoc)

-- Run by run: the first of the other runs ends with the first tight run, or before.
-- a fitting breaking has no fewer runs than a tight one, even if it breaks words before these too
no_fewer : (limit : ℕ) (front : Run) (runs others : List Run) → NoneTakesMore limit runs
    → All (λ run. 0 < length run) runs → All (FitsIn limit) others → words_in others ≡ front ++ words_in runs
    → length runs ≤ length others
no_fewer limit front [] others tight nonempty fits joined = omega arith
no_fewer limit front (run ∷ runs) [] tight nonempty fits joined =
    search (rules, length-append front (words_in (run ∷ runs)), length-append run (words_in runs), All-head)
no_fewer limit front (run ∷ runs) (other ∷ others) tight nonempty fits joined =
    let rest : (front : Run) → words_in others ≡ front ++ words_in runs → length runs ≤ length others =
    λ front joined. no_fewer limit front runs others (search rules) (All-tail (λ run. 0 < length run) run runs nonempty)
    (All-tail (FitsIn limit) other others fits) joined in
    ⊎_elim
    (λ (w : Within other (words_in others) (front ++ run) (words_in runs)). omega (arith, rest w.0 w.2))
    (λ (w : Within (front ++ run) (words_in runs) other (words_in others)). past rest w.0 w.1 w.2)
    (search (rules, cuts, append_assoc))
  where
    past : ((front : Run) → words_in others ≡ front ++ words_in runs → length runs ≤ length others)
        → (middle : Run) → other ≡ (front ++ run) ++ middle → words_in runs ≡ middle ++ words_in others
        → length (run ∷ runs) ≤ length (other ∷ others)
    past rest [] is joined = omega (arith, rest [] (sym joined))
    past rest (word ∷ middle) is joined = search (rules, ends_with, append_assoc, All-head)

pub runs_of-is_fewest : (limit : ℕ) (words : List Text) → IsFewestBreaking limit words (runs_of limit words)
runs_of-is_fewest limit words =
    let tight = runs_of-tight limit words in
    search (rules, no_fewer limit [] (runs_of limit words))
