-- The text of a word, and the bytes of a text.
use Rattle.std.proofs.Common.{◌≡◌, ℕ, zero, suc, ◌<◌, ◌≤◌, inl, inr, Bool, true, false, List, [], ◌∷◌, ◌++◌, length}
use Rattle.std.proofs.Common.{take, drop, refl, sym, ap, subst, ◌∙◌, arith, append-nil, rules}
use Rattle.std.proofs.Math.Utf8.{encode, encodes, scalar, scalars}
use Rattle.std.proofs.lemmas.Bool.{cases_lt, false≢true}
use Rattle.std.proofs.lemmas.Grind.{flat_map-append}
use Rattle.std.proofs.lemmas.List.{take-append-drop, take_at, drop_at, length-drop}
use Rattle.std.proofs.lemmas.Str.{IsUtf8-append, IsUtf8-encode, IsUtf8-nil, chars-append, chars-encodes, chars-nil}
use Rattle.std.proofs.lemmas.Str.{encodes-chars, scalars-chars}
use Rattle.std.specs.List.{flat_map, list_any}
use Rattle.std.specs.Str.{IsUtf8, chars, continuation_len}
use Rattle.getopts_bytes.specs.Laws.{ComesBack}
use Rattle.getopts_bytes.specs.Marks.{AreBytes, begins_char, bytes_of, is_mark, mark_of, text_from, text_of, written}
use Rattle.getopts_bytes.proofs.Chars.{Plain, ascii_plain, is_plain_of, lead_of, mark_chars, mark_scalar}
use Rattle.getopts_bytes.proofs.Chars.{mark_written, plain, plain_bytes}

-- ---- one character more

-- the bytes that are still to come of a character stay
text_past : (n : ℕ) (bytes : List ℕ) → text_from n bytes ≡ take n bytes ++ text_of (drop n bytes)
text_past zero bytes = refl
text_past (suc n) [] = refl
text_past (suc n) (byte ∷ bytes) = ap (λ (l : List ℕ). byte ∷ l) (text_past n bytes)

-- a character that isn't a mark stays
pub text_char : (byte : ℕ) (bytes : List ℕ) → begins_char byte bytes ≡ true
    → text_of (byte ∷ bytes) ≡ take (suc (continuation_len byte)) (byte ∷ bytes)
    ++ text_of (drop (suc (continuation_len byte)) (byte ∷ bytes))
text_char byte bytes is = simp is (ap (λ (l : List ℕ). byte ∷ l) (text_past (continuation_len byte) bytes))

-- another byte becomes its mark
pub text_mark : (byte : ℕ) (bytes : List ℕ) → begins_char byte bytes ≡ false
    → text_of (byte ∷ bytes) ≡ encode (mark_of byte) ++ text_of bytes
text_mark byte bytes is = simp is refl

-- ---- a word comes back

-- the bytes of two texts
pub bytes_append : (text more : List ℕ) → IsUtf8 text → bytes_of (text ++ more) ≡ bytes_of text ++ bytes_of more
bytes_append text more utf8 = simp (chars-append, flat_map-append)

-- ASCII begins a character
pub begins_ascii : (byte : ℕ) (bytes : List ℕ) → byte < 128 → begins_char byte bytes ≡ true
begins_ascii byte bytes small = search (rules, ascii_plain)

bytes_drop : (n : ℕ) (word : List ℕ) → AreBytes word → AreBytes (drop n word)
bytes_drop zero word bytes = bytes
bytes_drop (suc n) [] bytes = bytes
bytes_drop (suc n) (byte ∷ word) bytes = bytes_drop n word bytes.1

pub comes_back : (n : ℕ) (word : List ℕ) → length word ≤ n → AreBytes word → ComesBack word
comes_back n [] fits bytes = record { utf8 = IsUtf8-nil; same = ap (flat_map written) chars-nil }
comes_back zero (byte ∷ bytes) fits are = absurd (omega arith)
comes_back (suc n) (byte ∷ bytes) fits are = by (comes_back n) (begins_char byte bytes) refl
  where
    by : ((word : List ℕ) → length word ≤ n → AreBytes word → ComesBack word)
        → (begins : Bool) → begins_char byte bytes ≡ begins → ComesBack (byte ∷ bytes)
    by shorter true begins =
        let len = suc (continuation_len byte) in
        let front = take len (byte ∷ bytes) in
        let rest = drop (continuation_len byte) bytes in
        let is : Plain front = plain front begins in
        let rec = shorter rest (simp (length-drop (continuation_len byte) bytes) (omega arith))
        (bytes_drop (continuation_len byte) bytes are.1) in
        let text = text_char byte bytes begins in
        record {
          utf8 = subst IsUtf8 (sym text) (IsUtf8-append front (text_of rest) is.utf8 rec.utf8);
          same = ap bytes_of text ∙ bytes_append front (text_of rest) is.utf8
              ∙ ap (λ (l : List ℕ). l ++ bytes_of (text_of rest)) (plain_bytes front is)
              ∙ ap (λ (l : List ℕ). front ++ l) rec.same ∙ take-append-drop len (byte ∷ bytes);
        }
    by shorter false marked =
        let rec = shorter bytes (omega arith) are.1 in
        let text = text_mark byte bytes marked in
        let mark_utf8 = IsUtf8-encode (mark_of byte) (mark_scalar byte are.0) in
        record {
          utf8 = subst IsUtf8 (sym text) (IsUtf8-append (encode (mark_of byte)) (text_of bytes) mark_utf8 rec.utf8);
          same = search (rules, bytes_append, mark_chars, mark_written, large);
        }
      where
        large : begins_char byte bytes ≡ false → 128 ≤ byte
        large marked = elim (cases_lt byte 128) [
          | inl small ↦ absurd (false≢true (sym marked ∙ begins_ascii byte bytes small))
          | inr above ↦ above
        ]

-- ---- a text without marks stays

-- a character that isn't a mark stays, whatever follows it
pub text_past_char : (c : ℕ) (more : List ℕ) → scalar c ≡ true → is_mark c ≡ false
    → text_of (encode c ++ more) ≡ encode c ++ text_of more
text_past_char c more is unmarked =
    let lead = lead_of c in
    let len : length (lead.0 ∷ lead.1) ≡ suc (continuation_len lead.0) = ap suc lead.3 in
    let front = take_at (lead.0 ∷ lead.1) more (suc (continuation_len lead.0)) len in
    let rest = drop_at (lead.0 ∷ lead.1) more (suc (continuation_len lead.0)) len in
    let chars_are : chars (encode c) ≡ c ∷ [] =
    ap chars (sym (append-nil (encode c))) ∙ chars-encodes (c ∷ []) (simp is refl) in
    search (rules, is_plain_of, IsUtf8-encode)

chars_stay : (cs : List ℕ) → scalars cs ≡ true → list_any is_mark cs ≡ false → text_of (encodes cs) ≡ encodes cs
chars_stay [] are unmarked = refl
chars_stay (c ∷ cs) are unmarked = search (rules, text_past_char, chars_stay cs)

pub plain_stays : (text : List ℕ) → Plain text → text_of text ≡ text
plain_stays text is =
    ap text_of (sym (encodes-chars text is.utf8))
    ∙ chars_stay (chars text) (scalars-chars text is.utf8) is.unmarked
    ∙ encodes-chars text is.utf8
