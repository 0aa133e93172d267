-- The words of a line, one after the other, as `split_whitespace` returns them.
use Rattle.std.proofs.Common.{◌≡◌, ◌≢◌, ℕ, ◌<◌, Bool, false, List, [], ◌∷◌, ◌++◌, length, Some, sym, refl, ap, ◌∙◌, subst, append_assoc, append-nil, arith, rules}
use Rattle.std.specs.Prelude.{nat_lt, filter, chars, encode_utf8, encode_utf8_all, not}
use Rattle.std.specs.Borrow.{Bor}
use Rattle.std.specs.Char.{is_whitespace, is_not_whitespace}
use Rattle.std.specs.List.{slice_split, All}
use Rattle.std.specs.Str.{IsUtf8, NonePass, NoCharPasses, EmptyOrStartsWithPassing}
use Rattle.std.specs.Str.Iter.{split_whitespace_rest, split_whitespace_steps}
use Rattle.std.specs.declared.str.SplitWhitespace.{SplitWhitespace}
use Rattle.std.proofs.lemmas.Bool.{cond-true, lt-ltb, not-false}
use Rattle.std.proofs.lemmas.List.Elements.{All-nil, All-cons}
use Rattle.std.proofs.lemmas.List.Splits.{slice_split-cons_yes, slice_split_none, slice_split_at}
use Rattle.std.proofs.lemmas.Str.{IsUtf8-past_char, chars_past_char, chars-nil}
use Rattle.getopts.specs.Wrap.{words_of}
use Rattle.std.proofs.lemmas.Grind.{common_steps}

-- the nonempty parts between the characters that pass
abbrev pub parts_by : (ℕ → Bool) → List ℕ → List (List ℕ)
parts_by p cs = filter (λ part. nat_lt 0 (length part)) (slice_split p cs)

-- characters that pass at the front add no part
parts_by-gap : (p : ℕ → Bool) (gap cs : List ℕ) → NonePass (λ c. not (p c)) gap
    → parts_by p (gap ++ cs) ≡ parts_by p cs
parts_by-gap p [] cs none = refl
parts_by-gap p (c ∷ gap) cs none = search (rules, slice_split-cons_yes, not-false, parts_by-gap p gap cs none.1)

all_from_none : (p : ℕ → Bool) (cs : List ℕ) → NonePass p cs → All (λ c. p c ≡ false) cs
all_from_none p [] none = All-nil (λ c. p c ≡ false)
all_from_none p (c ∷ cs) none = All-cons (λ c. p c ≡ false) c cs none.0 (all_from_none p cs none.1)

nonempty : (part : List ℕ) (parts : List (List ℕ)) → 0 < length part
    → filter (λ part. nat_lt 0 (length part)) (part ∷ parts) ≡ part ∷ filter (λ part. nat_lt 0 (length part)) parts
nonempty part parts not_empty = search (rules, cond-true, lt-ltb)

-- ---- a text that begins with the text of given characters

past_chars : (front bs rest : List ℕ) → IsUtf8 bs → bs ≡ encode_utf8_all front ++ rest
    → IsUtf8 rest × (chars bs ≡ front ++ chars rest)
past_chars [] bs rest utf8 e = (subst IsUtf8 e utf8, ap chars e)
past_chars (c ∷ front) bs rest utf8 e =
    let split : bs ≡ encode_utf8 c ++ (encode_utf8_all front ++ rest) = search (rules, append_assoc) in
    let after = past_chars front (encode_utf8_all front ++ rest) rest
    (IsUtf8-past_char bs (encode_utf8_all front ++ rest) c utf8 split) refl in search (rules, chars_past_char)

some_chars : (cs : List ℕ) → 0 < length (encode_utf8_all cs) → 0 < length cs
some_chars cs not_empty = grind (arith, common_steps)

-- ---- the two results of `next`

-- the first part, before the remaining text
parts_by-next : (part rest more : List ℕ) → IsUtf8 rest → 0 < length part
    → NonePass is_whitespace part → EmptyOrStartsWithPassing is_whitespace rest more
    → parts_by is_whitespace (part ++ chars rest) ≡ part ∷ parts_by is_whitespace (chars rest)
parts_by-next part [] more utf8 not_empty solid next =
    simp (chars-nil, append-nil) (search (rules, slice_split_none, all_from_none, nonempty))
parts_by-next part (b ∷ rest) more utf8 not_empty solid next =
    let white = next (omega arith) in
    search (
      rules,
      chars_past_char (b ∷ rest) more white.0 utf8 white.2,
      slice_split_at,
      all_from_none,
      nonempty,
      slice_split-cons_yes,
    )

-- no words are left
pub words_of-none : (bs : List ℕ) → IsUtf8 bs → NoCharPasses is_not_whitespace bs → words_of bs ≡ []
words_of-none bs utf8 none =
    let split : bs ≡ encode_utf8_all none.0 ++ [] =
    sym (append-nil (encode_utf8_all none.0) ∙ none.1) in
    let all_white : chars bs ≡ none.0 ++ [] = search (rules, past_chars, chars-nil) in search (rules, parts_by-gap)

-- a word was removed from the front
pub words_of-step : (s t : SplitWhitespace) (word : Bor (List ℕ)) → IsUtf8 (split_whitespace_rest s)
    → split_whitespace_steps s (Some word) t
    → IsUtf8 (split_whitespace_rest t)
    × (words_of (split_whitespace_rest s) ≡ word.now ∷ words_of (split_whitespace_rest t))
words_of-step s t word utf8 (gap, split, not_empty, blank, solid, next) =
    let bs = split_whitespace_rest s in
    let rest = split_whitespace_rest t in
    let after_gap = past_chars blank.0 bs (word.now ++ rest) utf8
    (subst (λ (gap : List ℕ). bs ≡ gap ++ (word.now ++ rest)) (sym blank.1) split) in
    let after_word = past_chars solid.0 (word.now ++ rest) rest after_gap.0
    (ap (λ (word : List ℕ). word ++ rest) (sym solid.1)) in
    let characters : chars bs ≡ blank.0 ++ (solid.0 ++ chars rest) = search rules in
    let has_some : 0 < length solid.0 =
    some_chars solid.0 (subst (λ (word : List ℕ). 0 < length word) (sym solid.1) not_empty) in
    let parts : parts_by is_whitespace (chars bs) ≡ solid.0 ∷ parts_by is_whitespace (chars rest) =
    ap (parts_by is_whitespace) characters
    ∙ parts_by-gap is_whitespace blank.0 (solid.0 ++ chars rest) blank.2
    ∙ parts_by-next solid.0 rest next.0 after_word.0 has_some solid.2 next.1 in search rules

-- a line with a word has words
pub words_of-filled : (line : List ℕ) (s t : SplitWhitespace) (word : Bor (List ℕ))
    → split_whitespace_rest s ≡ line → IsUtf8 line → split_whitespace_steps s (Some word) t
    → words_of line ≢ []
words_of-filled line s t word is utf8 steps none =
    let filled = (words_of-step s t word (subst IsUtf8 (sym is) utf8) steps).1 in
    cc (sym filled ∙ ap words_of is ∙ none)
