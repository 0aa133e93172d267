-- Texts: a text in long form, split at its first `=`.
use Rattle.std.proofs.Common.{◌≡◌, ◌≢◌, ◌==◌, ℕ, ◌<◌, ◌≤◌, true, false, List, [], ◌∷◌, ◌++◌, length, Option, Some}
use Rattle.std.proofs.Common.{None, refl, sym, subst, arith, rules, encode_utf8, append-nil}
use Rattle.std.proofs.lemmas.Bool.{cases_Bool, cases_lt, eqb-true, or_parts, and_parts}
use Rattle.getopts.specs.Names.{Text}
use Rattle.getopts.specs.Reading.{equals_sign, begins_with_dash, holds_equals, dash, is_dashed}
use Rattle.getopts.specs.Step.{with_equals, cut_at_equals, first_char}
use Rattle.std.specs.Char.{IsScalar}
use Rattle.std.specs.Str.{IsUtf8, chars}
use Rattle.std.proofs.lemmas.Str as Strings
use Rattle.std.proofs.lemmas.Grind.{common_steps}
use lib.Utf8.{scalars, encodes, scalar as scalar_test}

-- a text in long form is its name, followed by `=` and its argument if it has one
pub cut_at_equals-joined : (text : Text) → (cut_at_equals text).0 ++ with_equals (cut_at_equals text).1 ≡ text
cut_at_equals-joined [] = refl
cut_at_equals-joined (c ∷ text) = search (rules, cases_Bool, eqb-true, cut_at_equals-joined text)

-- the name in a text in long form contains no `=`
pub holds_equals-name : (text : Text) → holds_equals (cut_at_equals text).0 ≡ false
holds_equals-name [] = refl
holds_equals-name (c ∷ text) = search (rules, cases_Bool, eqb-true, holds_equals-name text)

-- the name is the part before the first `=`, and the argument the part after it
pub cut_at_equals-append : (name : Text) (argument : Option Text) → holds_equals name ≡ false
    → cut_at_equals (name ++ with_equals argument) ≡ (name, argument)
cut_at_equals-append [] None plain = refl
cut_at_equals-append [] (Some argument) plain = refl
cut_at_equals-append (c ∷ name) argument plain =
    let parts = or_parts (c == equals_sign) (holds_equals name) plain in
    rw (parts.0, cut_at_equals-append name argument parts.1) refl

-- a text that begins with a name begins with a dash only if the name does
pub begins_with_dash-append : (name : Text) (argument : Option Text) → begins_with_dash name ≡ false
    → begins_with_dash (name ++ with_equals argument) ≡ false
begins_with_dash-append name argument plain = search rules

-- the name begins with a dash only if the text does
pub begins_with_dash-front : (name more : Text) → begins_with_dash (name ++ more) ≡ false
    → begins_with_dash name ≡ false
begins_with_dash-front name more plain = search rules

-- `-` followed by a nonempty text is a dashed word
pub is_dashed-text : (text : Text) → text ≢ [] → is_dashed (dash ∷ text) ≡ true
is_dashed-text text filled = search rules

-- a text after an ASCII byte
pub IsUtf8-past_ascii : (byte : ℕ) (text : Text) → byte < 128 → IsUtf8 (byte ∷ text) → IsUtf8 text
IsUtf8-past_ascii byte text ascii utf8 =
    Strings.IsUtf8-past_char (byte ∷ text) text byte utf8 (rw (Strings.encode_ascii byte ascii) refl)

-- the first character of a text, from its characters
first_char-chars : (text : Text) (c : ℕ) (cs : List ℕ) → chars text ≡ c ∷ cs → first_char text ≡ encode_utf8 c
first_char-chars text c cs e = rw e refl

-- a text begins with this character
pub record BeginsWithChar (text : Text) (character : ℕ) : Type 0 where
  pub rest : Text
  pub scalar : IsScalar character
  pub first : first_char text ≡ encode_utf8 character
  pub text_is : text ≡ encode_utf8 character ++ rest

-- a text that isn't empty begins with a character
pub begins_with_char : (byte : ℕ) (text : Text) → IsUtf8 (byte ∷ text)
    → (character : ℕ) × BeginsWithChar (byte ∷ text) character
begins_with_char byte text (cs, spelled) = from_chars cs spelled.0 spelled.1 where
  from_chars : (cs : List ℕ) → scalars cs ≡ true → encodes cs ≡ byte ∷ text
      → (character : ℕ) × BeginsWithChar (byte ∷ text) character
  from_chars [] scalar e = cc e
  from_chars (c ∷ cs) scalar e = (
    c,
    record {
      rest = encodes cs;
      scalar = (and_parts (scalar_test c) (scalars cs) scalar).0;
      first = first_char-chars (byte ∷ text) c cs
          (subst (λ (t : Text). chars t ≡ c ∷ cs) e (Strings.chars-encodes (c ∷ cs) scalar));
      text_is = sym e;
    },
  )

-- the first character of a text that begins with a character
pub first_char-append : (c : ℕ) (rest : Text) → IsScalar c → first_char (encode_utf8 c ++ rest) ≡ encode_utf8 c
first_char-append c rest scalar =
    let utf8 = Strings.IsUtf8-encode c scalar in
    cc (
      Strings.chars-append (encode_utf8 c) rest utf8,
      Strings.chars_past_char (encode_utf8 c) [] c utf8 (sym (append-nil (encode_utf8 c))),
    )

-- a character whose first byte is ASCII is that byte alone
pub encode-ascii_byte : (c byte : ℕ) (more rest : Text) → byte ∷ more ≡ encode_utf8 c ++ rest
    → byte < 128 → encode_utf8 c ≡ byte ∷ []
encode-ascii_byte c byte more rest e ascii =
    let same : c ≡ byte = Strings.char_from_byte (byte ∷ more) rest c e ascii (omega arith) in
    rw same (Strings.encode_ascii byte ascii)

-- a character whose first byte isn't ASCII has more than one byte
pub length-encode-wide : (c byte : ℕ) (more rest : Text) → byte ∷ more ≡ encode_utf8 c ++ rest
    → 128 ≤ byte → 1 < length (encode_utf8 c)
length-encode-wide c byte more rest e wide =
    grind (arith, common_steps, cases_lt, Strings.byte_from_char, Strings.length-encode)
