-- A shell turns the bytes of quoted words into the bytes of the words.
use Rattle.std.proofs.Common.{◌≡◌, ℕ, zero, suc, ◌<◌, ◌≤◌, Bool, true, false, List, [], ◌∷◌, ◌++◌, Some, length, map}
use Rattle.std.proofs.Common.{refl, arith, rules}
use Rattle.std.proofs.Math.Utf8.{encode, encodes, scalar, scalars}
use Rattle.std.proofs.lemmas.Bool.{and_parts, or_parts}
use Rattle.std.proofs.lemmas.Bool.Decides.{nat_tests}
use Rattle.std.proofs.lemmas.Grind.{flat_map-append}
use Rattle.std.proofs.lemmas.Str.{IsUtf8-append, IsUtf8-encode, IsUtf8-from_ascii, chars-encodes, encodes-chars}
use Rattle.std.proofs.lemmas.Str.{encode_ascii, scalars-chars}
use Rattle.std.specs.Prelude.{codes}
use Rattle.std.specs.Char.{is_ascii}
use Rattle.std.specs.List.{AllByRecursion, flat_map, list_all, list_any}
use Rattle.std.specs.Str.{IsAscii, IsUtf8, chars}
use Rattle.getopts.specs.Names.{AreTexts, Text}
use Rattle.getopts_bytes.specs.Marks.{AreBytes, bytes_of, is_mark, text_of, written}
use Rattle.getopts_bytes.proofs.Chars.{ascii_no_marks, plain_bytes}
use Rattle.getopts_bytes.proofs.Texts.{bytes_append, comes_back}
use Rattle.getopts_shell.specs.Quote.{quoted_byte, quoted, spaced, quoted_words, shell_words}
use Rattle.getopts_shell.proofs.Quoting.{words_same}

-- a text has these bytes
pub record Gives (text bytes : List ℕ) : Type 0 where
  pub utf8 : IsUtf8 text
  pub bytes_are : bytes_of text ≡ bytes

-- texts one after the other have their bytes one after the other
pub append_gives : {text more bytes others : List ℕ} → Gives text bytes → Gives more others
    → Gives (text ++ more) (bytes ++ others)
append_gives {text} {more} {bytes} {others} is also = search (rules, IsUtf8-append, bytes_append)

-- a text whose bytes pass the test for ASCII is ASCII
are_ascii : (text : List ℕ) → list_all is_ascii text ≡ true → IsAscii text
are_ascii [] are i = omega arith
are_ascii (byte ∷ text) are zero = search rules
are_ascii (byte ∷ text) are (suc i) = are_ascii text (and_parts (is_ascii byte) (list_all is_ascii text) are).1 i

-- the bytes of an ASCII text are the text
pub ascii_gives : (text : List ℕ) → list_all is_ascii text ≡ true → Gives text text
ascii_gives text are = search (rules, are_ascii, IsUtf8-from_ascii, plain_bytes, ascii_no_marks)

-- a character has the bytes that it is written by
char_gives : (c : ℕ) → scalar c ≡ true → Gives (encode c) (written c)
char_gives c is = record {
  utf8 = IsUtf8-encode c is;
  bytes_are = search (rules, chars-encodes (c ∷ []) (simp is refl));
}

-- ---- non-ASCII bytes are the same in quotes

-- non-ASCII bytes need no quoting
past_stays : (bytes : List ℕ) → list_any is_ascii bytes ≡ false → flat_map quoted_byte bytes ≡ bytes
past_stays [] past = refl
past_stays (byte ∷ bytes) past =
    let each = or_parts (is_ascii byte) (list_any is_ascii bytes) past in search (rules, past_stays bytes each.1)

-- the bytes of a non-ASCII character are non-ASCII
encode_past : (c : ℕ) → 128 ≤ c → list_any is_ascii (encode c) ≡ false
unfolding encode
encode_past c large = search rules

-- so are those by which it is written
written_past : (c : ℕ) → 128 ≤ c → list_any is_ascii (written c) ≡ false
written_past c large = search (rules, encode_past)

-- ---- words in quotes

-- a character in quotes
quoted_char : (c : ℕ) → scalar c ≡ true → Gives (flat_map quoted_byte (encode c)) (flat_map quoted_byte (written c))
quoted_char c is = by (is_ascii c) refl
  where
    by : (small : Bool) → is_ascii c ≡ small
        → Gives (flat_map quoted_byte (encode c)) (flat_map quoted_byte (written c))
    by true small =
        let ascii : c < 128 = grind (arith, nat_tests) in
        let unmarked : is_mark c ≡ false = grind (arith, nat_tests) in
        simp (unmarked, encode_ascii c ascii)
        (ascii_gives (flat_map quoted_byte (c ∷ [])) (search rules))
    by false large = search (rules, past_stays, encode_past, written_past, char_gives)

-- characters in quotes
quoted_chars : (cs : List ℕ) → scalars cs ≡ true
    → Gives (flat_map quoted_byte (encodes cs)) (flat_map quoted_byte (flat_map written cs))
quoted_chars [] are = ascii_gives [] refl
quoted_chars (c ∷ cs) are =
    let each = and_parts (scalar c) (scalars cs) are in
    simp (
      flat_map-append quoted_byte (encode c) (encodes cs),
      flat_map-append quoted_byte (written c) (flat_map written cs),
    )
    (append_gives (quoted_char c each.0) (quoted_chars cs each.1))

-- each text has its bytes
pub text_gives : (text : Text) → IsUtf8 text → Gives text (bytes_of text)
text_gives text utf8 = record { utf8 = utf8; bytes_are = refl }

-- a word in quotes has its bytes in quotes
pub quoted_gives : {word bytes : Text} → Gives word bytes → Gives (quoted word) (quoted bytes)
quoted_gives {word} {bytes} is =
    let quote = ascii_gives (codes "'") refl in
    let middle : Gives (flat_map quoted_byte word) (flat_map quoted_byte (bytes_of word)) =
    rw (encodes-chars word is.utf8) at (quoted_chars (chars word) (scalars-chars word is.utf8)) in
    rw (← is.bytes_are) (append_gives quote (append_gives middle quote))

-- words in quotes, each after a space
spaced_gives : (words : List Text) → AreTexts words
    → Gives (flat_map spaced words) (flat_map spaced (map bytes_of words))
spaced_gives [] are = ascii_gives [] refl
spaced_gives (word ∷ words) are =
    append_gives
    (append_gives (ascii_gives (codes " ") refl) (quoted_gives (text_gives word are.0)))
    (spaced_gives words are.1)

pub words_give : (words : List Text) → AreTexts words → Gives (quoted_words words) (quoted_words (map bytes_of words))
words_give [] are = ascii_gives [] refl
words_give (word ∷ words) are = append_gives (quoted_gives (text_gives word are.0)) (spaced_gives words are.1)

-- the texts of words have the words as their bytes
texts_back : (words : List (List ℕ)) → AllByRecursion AreBytes words
    → AreTexts (map text_of words) × (map bytes_of (map text_of words) ≡ words)
texts_back [] are = (tt, refl)
texts_back (word ∷ words) are =
    search (rules, comes_back (length word) word (omega arith) are.0, texts_back words are.1)

-- a shell turns words in quotes, read as texts and written as bytes, into the same words
pub words_given : (words : List (List ℕ)) → AllByRecursion AreBytes words
    → shell_words (bytes_of (quoted_words (map text_of words))) ≡ Some words
words_given words are = search (rules, texts_back, words_give, words_same)
