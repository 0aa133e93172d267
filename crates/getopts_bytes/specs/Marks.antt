-- Represents words of any bytes as texts, and converts back.
use Rattle.std.specs.Prelude.{◌<◌, ℕ, zero, suc, ◌+◌, ◌-◌, Bool, ◌&&◌, not, List, [], ◌∷◌, ◌++◌}
use Rattle.std.specs.Prelude.{nat_lt, take, if◌then◌else◌}
use Rattle.std.specs.Char.{encode_utf8}
use Rattle.std.specs.List.{AllByRecursion, flat_map, list_any}
use Rattle.std.specs.Str.{chars, continuation_len, is_utf8}

-- a word, as its bytes: numbers below 256
abbrev pub AreBytes : List ℕ → Type 0
AreBytes word = AllByRecursion (λ byte. byte < 256) word

-- the mark of a byte from 128 to 255 that isn't part of a text: one of the last 128 characters
abbrev pub mark_of : ℕ → ℕ
mark_of byte = 0x10_FF00 + byte

abbrev pub is_mark : ℕ → Bool
is_mark char = not (nat_lt char 0x10_FF80)

-- whether bytes are UTF-8 without marks
abbrev pub is_plain : List ℕ → Bool
is_plain bytes = is_utf8 bytes && not (list_any is_mark (chars bytes))

-- whether this byte and those after it begin with a character that isn't a mark
abbrev pub begins_char : ℕ → List ℕ → Bool
begins_char byte bytes = is_plain (take (suc (continuation_len byte)) (byte ∷ bytes))

-- the text of a word's rest, whose first n bytes belong to a character that began before
abbrev pub text_from : ℕ → List ℕ → List ℕ
text_from n [] = []
text_from zero (byte ∷ bytes) = if begins_char byte bytes then byte ∷ text_from (continuation_len byte) bytes
    else encode_utf8 (mark_of byte) ++ text_from zero bytes
text_from (suc n) (byte ∷ bytes) = byte ∷ text_from n bytes

-- the text of a word
abbrev pub text_of : List ℕ → List ℕ
text_of word = text_from 0 word

-- the bytes for a character of a text: the byte that it marks, or its own bytes
abbrev pub written : ℕ → List ℕ
written char = if is_mark char then (char - 0x10_FF00) ∷ [] else encode_utf8 char

-- the bytes of a text
abbrev pub bytes_of : List ℕ → List ℕ
bytes_of text = flat_map written (chars text)
