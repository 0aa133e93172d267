-- Characters, and texts without marks.
use Rattle.std.proofs.Common.{◌≡◌, ℕ, suc, ◌+◌, ◌/◌, ◌%◌, ◌<◌, ◌≤◌, Bool, true, false, ltb, List, [], ◌∷◌}
use Rattle.std.proofs.Common.{length, refl, sym, ap, ◌∙◌, append-nil, arith, rules}
use Rattle.std.proofs.Math.Utf8.{encode, encodes}
use Rattle.std.proofs.lemmas.Bool.Decides.{nat_tests}
use Rattle.std.proofs.lemmas.Str.{IsUtf8-from_is_utf8, is_utf8-from_IsUtf8, chars-encodes, encodes-chars}
use Rattle.std.proofs.lemmas.Str.{chars-IsAscii, IsUtf8-from_ascii}
use Rattle.std.specs.Char.{IsScalar}
use Rattle.std.specs.List.{AllByRecursion, flat_map, list_any}
use Rattle.std.specs.Str.{IsAscii, IsUtf8, chars, continuation_len}
use Rattle.getopts_bytes.specs.Marks.{is_mark, is_plain, written, mark_of}

-- none of these bytes is ASCII
abbrev pub ArePastAscii : List ℕ → Type 0
ArePastAscii bytes = AllByRecursion (λ byte. 128 ≤ byte) bytes

-- a character's first byte announces how many bytes follow, and these aren't ASCII
pub lead_of : (c : ℕ) → (lead : ℕ) × (tail : List ℕ) × (encode c ≡ lead ∷ tail)
    × (length tail ≡ continuation_len lead) × ArePastAscii tail
unfolding encode
lead_of c = by (ltb c 128) (ltb c 2048) (ltb c 65536) refl refl refl
  where
    by : (one two three : Bool) → ltb c 128 ≡ one → ltb c 2048 ≡ two → ltb c 65536 ≡ three
        → (lead : ℕ) × (tail : List ℕ) × (encode c ≡ lead ∷ tail) × (length tail ≡ continuation_len lead)
        × ArePastAscii tail
    by true two three is _ _ = (c, [], simp is refl, simp is refl, tt)
    by false true three is also _ = (
      192 + c / 64,
      (128 + c % 64) ∷ [],
      simp (is, also) refl,
      grind (arith, nat_tests),
      (omega arith, tt),
    )
    by false false true is also too = (
      224 + c / 4096,
      (128 + c / 64 % 64) ∷ (128 + c % 64) ∷ [],
      simp (is, also, too) refl,
      grind (arith, nat_tests),
      (omega arith, (omega arith, tt)),
    )
    by false false false is also too = (
      240 + c / 262144,
      (128 + c / 4096 % 64) ∷ (128 + c / 64 % 64) ∷ (128 + c % 64) ∷ [],
      simp (is, also, too) refl,
      grind (arith, nat_tests),
      (omega arith, (omega arith, (omega arith, tt))),
    )

-- ---- marks

-- ASCII contains no mark
ascii_unmarked : (bytes : List ℕ) → IsAscii bytes → list_any is_mark bytes ≡ false
ascii_unmarked [] ascii = refl
ascii_unmarked (byte ∷ bytes) ascii =
    let small : byte < 128 = ascii 0 in
    let unmarked : is_mark byte ≡ false = grind (arith, nat_tests) in
    simp unmarked (ascii_unmarked bytes (λ i. ascii (suc i)))

pub ascii_no_marks : (bytes : List ℕ) → IsAscii bytes → list_any is_mark (chars bytes) ≡ false
ascii_no_marks bytes ascii = ap (list_any is_mark) (chars-IsAscii bytes ascii) ∙ ascii_unmarked bytes ascii

-- characters without marks are written as themselves
pub unmarked_written : (cs : List ℕ) → list_any is_mark cs ≡ false → flat_map written cs ≡ encodes cs
unmarked_written [] none = refl
unmarked_written (c ∷ cs) none = search (rules, unmarked_written cs)

-- ---- texts without marks

-- what a text without marks is
pub record Plain (bytes : List ℕ) : Type 0 where
  pub utf8 : IsUtf8 bytes
  pub unmarked : list_any is_mark (chars bytes) ≡ false

pub plain : (bytes : List ℕ) → is_plain bytes ≡ true → Plain bytes
plain bytes is = search (rules, IsUtf8-from_is_utf8)

pub is_plain_of : (bytes : List ℕ) → IsUtf8 bytes → list_any is_mark (chars bytes) ≡ false → is_plain bytes ≡ true
is_plain_of bytes utf8 unmarked = simp (is_utf8-from_IsUtf8 bytes utf8, unmarked) refl

pub marked_not_plain : (bytes : List ℕ) → list_any is_mark (chars bytes) ≡ true → is_plain bytes ≡ false
marked_not_plain bytes marked = search rules

pub not_utf8_not_plain : (bytes : List ℕ) → ¬ (IsUtf8 bytes) → is_plain bytes ≡ false
not_utf8_not_plain bytes not_utf8 = search (rules, IsUtf8-from_is_utf8)

-- ASCII is plain
pub ascii_plain : (bytes : List ℕ) → IsAscii bytes → is_plain bytes ≡ true
ascii_plain bytes ascii = is_plain_of bytes (IsUtf8-from_ascii bytes ascii) (ascii_no_marks bytes ascii)

-- its bytes are the text
pub plain_bytes : (bytes : List ℕ) → Plain bytes → flat_map written (chars bytes) ≡ bytes
plain_bytes bytes is = unmarked_written (chars bytes) is.unmarked ∙ encodes-chars bytes is.utf8

-- ---- the mark of a byte

pub mark_scalar : (byte : ℕ) → byte < 256 → IsScalar (mark_of byte)
mark_scalar byte small = grind (arith, nat_tests)

pub mark_chars : (byte : ℕ) → byte < 256 → chars (encode (mark_of byte)) ≡ mark_of byte ∷ []
mark_chars byte small =
    ap chars (sym (append-nil (encode (mark_of byte))))
    ∙ chars-encodes (mark_of byte ∷ []) (simp (mark_scalar byte small) refl)

pub mark_written : (byte : ℕ) → 128 ≤ byte → written (mark_of byte) ≡ byte ∷ []
mark_written byte large = search rules
