-- Where the text of a word can be cut.
use Rattle.std.proofs.Common.{◌≡◌, ℕ, zero, suc, ◌<◌, ◌≤◌, inl, inr, Bool, true, false, List, [], ◌∷◌, ◌++◌, length}
use Rattle.std.proofs.Common.{take, drop, refl, sym, ap, subst, ◌∙◌, arith, append_assoc, append-nil, rules}
use Rattle.std.proofs.Math.Seq.{take-append_seam, drop-append_seam}
use Rattle.std.proofs.Math.Utf8.{encode, encodes}
use Rattle.std.proofs.lemmas.Bool.{cases_lt}
use Rattle.std.proofs.lemmas.List.{length-append, length-take, nil_from_length, take-append-drop, take-append-le}
use Rattle.std.proofs.lemmas.List.{drop_at, take_at}
use Rattle.std.proofs.lemmas.Str.{encodes-chars}
use Rattle.std.specs.Str.{IsUtf8, chars, continuation_len}
use Rattle.getopts_bytes.specs.Laws.{AreCutAlike}
use Rattle.getopts_bytes.specs.Marks.{begins_char, is_plain, mark_of, text_from, text_of}
use Rattle.getopts_bytes.proofs.Chars.{ArePastAscii, lead_of, plain}
use Rattle.getopts_bytes.proofs.Texts.{begins_ascii, text_char, text_mark}
use Rattle.std.proofs.lemmas.Grind.{common_steps}

-- ---- one character

-- fronts of equal length are the same, and so is what follows them
same_front : (front other rest left : List ℕ) → front ++ rest ≡ other ++ left
    → length front ≡ length other → (front ≡ other) × (rest ≡ left)
same_front front other rest left same size = (
  sym (take-append_seam front rest) ∙ ap (take (length front)) same
      ∙ ap (λ n. take n (other ++ left)) size ∙ take-append_seam other left,
  sym (drop-append_seam front rest) ∙ ap (drop (length front)) same
      ∙ ap (λ n. drop n (other ++ left)) size ∙ drop-append_seam other left,
)

-- a first byte, and the number of bytes after it that it announces
record IsWhole (byte : ℕ) (tail : List ℕ) : Type 0 where
  size : length tail ≡ continuation_len byte
  past : ArePastAscii tail

-- two that begin a text are the same
same_whole : (byte other : ℕ) (tail more rest left : List ℕ) → length tail ≡ continuation_len byte
    → length more ≡ continuation_len other → byte ∷ (tail ++ rest) ≡ other ∷ (more ++ left)
    → (byte ≡ other) × (tail ≡ more) × (rest ≡ left)
same_whole byte other tail more rest left size also same = search (rules, same_front)

-- a text without marks that is no longer than its first byte announces is one character
one_char : (byte : ℕ) (tail : List ℕ) → is_plain (byte ∷ tail) ≡ true → length tail ≤ continuation_len byte
    → IsWhole byte tail
one_char byte tail is fits =
    by (chars (byte ∷ tail)) (encodes-chars (byte ∷ tail) (plain (byte ∷ tail) is).utf8)
  where
    by : (cs : List ℕ) → encodes cs ≡ byte ∷ tail → IsWhole byte tail
    by [] same = absurd cc
    by (c ∷ cs) same =
        let lead = lead_of c in
        let whole : lead.0 ∷ (lead.1 ++ encodes cs) ≡ byte ∷ tail =
        ap (λ (l : List ℕ). l ++ encodes cs) (sym lead.2) ∙ same in
        let first : lead.0 ≡ byte = cc in
        let behind : lead.1 ++ encodes cs ≡ tail = cc in
        let size : length lead.1 ≡ continuation_len byte = lead.3 ∙ ap continuation_len first in
        let none : encodes cs ≡ [] = nil_from_length (encodes cs)
        (omega (arith, fits, size, ap length behind, length-append lead.1 (encodes cs))) in
        let same_tail : lead.1 ≡ tail =
        sym (append-nil lead.1) ∙ ap (λ (l : List ℕ). lead.1 ++ l) (sym none) ∙ behind in
        record { size = ap length (sym same_tail) ∙ size; past = subst ArePastAscii same_tail lead.4 }

-- what begins a character has that many bytes after it
whole_of : (byte : ℕ) (bytes : List ℕ) → begins_char byte bytes ≡ true
    → IsWhole byte (take (continuation_len byte) bytes)
whole_of byte bytes is = search (rules, one_char)

enough : (byte : ℕ) (bytes : List ℕ) → begins_char byte bytes ≡ true → continuation_len byte ≤ length bytes
enough byte bytes is =
    omega (arith, (whole_of byte bytes is).size, length-take (continuation_len byte) bytes)

-- so with fewer bytes no character begins
short_begins_not : (byte : ℕ) (bytes : List ℕ) → length bytes < continuation_len byte
    → begins_char byte bytes ≡ false
short_begins_not byte bytes short = search (rules, enough)

-- so an ASCII byte after these changes nothing
begins_before_ascii : (b : ℕ) (front : List ℕ) (byte : ℕ) (back : List ℕ) → byte < 128
    → begins_char b (front ++ byte ∷ back) ≡ begins_char b front
begins_before_ascii b front byte back small = grind (arith, common_steps, whole_of)

-- ---- at an ASCII byte

-- ASCII is its own text
text_ascii : (byte : ℕ) (bytes : List ℕ) → byte < 128 → text_of (byte ∷ bytes) ≡ byte ∷ text_of bytes
text_ascii byte bytes small = search (rules, begins_ascii)

-- what precedes it and what follows it have their own texts
ascii_from : (n : ℕ) (front : List ℕ) (byte : ℕ) (back : List ℕ) → byte < 128 → n ≤ length front
    → text_from n (front ++ byte ∷ back) ≡ text_from n front ++ byte ∷ text_of back
ascii_from zero [] byte back small fits = text_ascii byte back small
ascii_from (suc n) [] byte back small fits = absurd (omega arith)
ascii_from zero (b ∷ front) byte back small fits =
    by (λ n. ascii_from n front byte back small) (begins_char b front) refl
  where
    by : ((n : ℕ) → n ≤ length front → text_from n (front ++ byte ∷ back) ≡ text_from n front ++ byte ∷ text_of back)
        → (begins : Bool) → begins_char b front ≡ begins
        → text_from 0 (b ∷ (front ++ byte ∷ back)) ≡ text_from 0 (b ∷ front) ++ byte ∷ text_of back
    by rest true is =
        rw (begins_before_ascii b front byte back small, is)
        (ap (λ (l : List ℕ). b ∷ l) (rest (continuation_len b) (enough b front is)))
    by rest false is =
        rw (begins_before_ascii b front byte back small, is)
        (ap (λ (l : List ℕ). encode (mark_of b) ++ l) (rest 0 (omega arith))
        ∙ sym (append_assoc (encode (mark_of b)) (text_of front) (byte ∷ text_of back)))
ascii_from (suc n) (b ∷ front) byte back small fits = simp (ascii_from n front byte back small (omega (arith, fits)))

pub ascii_stays : (front back : List ℕ) (byte : ℕ) → byte < 128
    → text_of (front ++ byte ∷ back) ≡ text_of front ++ byte ∷ text_of back
ascii_stays front back byte small = ascii_from 0 front byte back small (omega arith)

-- ---- between two characters

-- characters that begin the text of a word are the text of its front
chars_cut : (cs word back : List ℕ) → encodes cs ++ back ≡ text_of word → AreCutAlike word (encodes cs) back
chars_cut [] word back same = search rules
chars_cut (c ∷ cs) [] back same = search (rules, lead_of c)
chars_cut (c ∷ cs) (byte ∷ bytes) back same = by (chars_cut cs) (begins_char byte bytes) refl
  where
    -- the text, by its first character
    begun : (lead_of c).0 ∷ ((lead_of c).1 ++ (encodes cs ++ back)) ≡ text_of (byte ∷ bytes)
    begun = ap (λ (l : List ℕ). l ++ (encodes cs ++ back)) (sym (lead_of c).2)
        ∙ sym (append_assoc (encode c) (encodes cs) back) ∙ same

    by : ((word back : List ℕ) → encodes cs ++ back ≡ text_of word → AreCutAlike word (encodes cs) back)
        → (begins : Bool) → begins_char byte bytes ≡ begins
        → AreCutAlike (byte ∷ bytes) (encodes (c ∷ cs)) back
    by rest true is =
        let n = continuation_len byte in
        let tail = take n bytes in
        let whole = whole_of byte bytes is in
        let parts = same_whole (lead_of c).0 byte (lead_of c).1 tail (encodes cs ++ back) (text_of (drop n bytes))
        (lead_of c).3 whole.size (begun ∙ text_char byte bytes is) in
        let cut = rest (drop n bytes) back parts.2 in
        let char : encode c ≡ byte ∷ tail =
        (lead_of c).2 ∙ ap (λ (b : ℕ). b ∷ (lead_of c).1) parts.0 ∙ ap (λ (l : List ℕ). byte ∷ l) parts.1 in
        let front : take n (tail ++ cut.first) ≡ tail = take_at tail cut.first n whole.size in
        let behind : drop n (tail ++ cut.first) ≡ cut.first = drop_at tail cut.first n whole.size in
        record {
          first = byte ∷ (tail ++ cut.first);
          second = cut.second;
          word_is = ap (λ (l : List ℕ). byte ∷ l) (sym (take-append-drop n bytes)
              ∙ ap (λ (l : List ℕ). tail ++ l) cut.word_is ∙ sym (append_assoc tail cut.first cut.second));
          front_is = text_char byte (tail ++ cut.first) (ap (λ (l : List ℕ). is_plain (byte ∷ l)) front ∙ is)
              ∙ ap (λ (l : List ℕ). (byte ∷ l) ++ text_of (drop n (tail ++ cut.first))) front
              ∙ ap (λ (l : List ℕ). (byte ∷ tail) ++ text_of l) behind
              ∙ ap (λ (l : List ℕ). (byte ∷ tail) ++ l) cut.front_is
              ∙ ap (λ (l : List ℕ). l ++ encodes cs) (sym char);
          back_is = cut.back_is;
        }
    by rest false is =
        let mark = lead_of (mark_of byte) in
        let parts = same_whole (lead_of c).0 mark.0 (lead_of c).1 mark.1 (encodes cs ++ back) (text_of bytes)
        (lead_of c).3 mark.3
        (begun ∙ text_mark byte bytes is ∙ ap (λ (l : List ℕ). l ++ text_of bytes) mark.2) in
        let cut = rest bytes back parts.2 in
        let char : encode c ≡ encode (mark_of byte) =
        (lead_of c).2 ∙ ap (λ (b : ℕ). b ∷ (lead_of c).1) parts.0 ∙ ap (λ (l : List ℕ). mark.0 ∷ l) parts.1
        ∙ sym mark.2 in
        record {
          first = byte ∷ cut.first;
          second = cut.second;
          word_is = ap (λ (l : List ℕ). byte ∷ l) cut.word_is;
          front_is = text_mark byte cut.first (still cut.first cut.second cut.word_is)
              ∙ ap (λ (l : List ℕ). encode (mark_of byte) ++ l) cut.front_is
              ∙ ap (λ (l : List ℕ). l ++ encodes cs) (sym char);
          back_is = cut.back_is;
        }
      where
        -- a byte that begins no character begins none in a front of the word
        still : (first second : List ℕ) → bytes ≡ first ++ second → begins_char byte first ≡ false
        still first second cut = elim (cases_lt (length first) (continuation_len byte)) [
          | inl short ↦ short_begins_not byte first short
          | inr long ↦
              ap (λ (l : List ℕ). is_plain (byte ∷ l)) (sym (take-append-le (continuation_len byte) first second long)
              ∙ ap (take (continuation_len byte)) (sym cut)) ∙ is
        ]

pub cut_alike : (word front back : List ℕ) → text_of word ≡ front ++ back → IsUtf8 front
    → AreCutAlike word front back
cut_alike word front back same utf8 = search (rules, chars_cut)
