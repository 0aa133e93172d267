-- Computing with literal options, command lines and help texts.
use Rattle.std.proofs.Common.{◌≡◌, Bool, true, false, nat_lt, List, [], ◌∷◌, arith, rules, ◌==◌, ◌≤◌, ◌+◌, ◌&&◌, not}
use Rattle.std.proofs.Common.{length}
use Rattle.std.specs.Prelude.{⊤}
use Rattle.std.specs.Char.{encode_utf8}
use Rattle.std.specs.List.{list_all}
use Rattle.std.specs.Str.{IsAscii, chars}
use Rattle.std.proofs.lemmas.Bool.{and_parts, ltb-true}
use Rattle.std.proofs.lemmas.Str.{IsUtf8-from_ascii}
use Rattle.std.proofs.lemmas.Str.Ascii.{IsAscii-cons}
use Rattle.std.proofs.lemmas.Grind.{common_steps}
use Rattle.getopts.specs.Names.{Text, Names, IsLawfullyNamed, AreTexts}
use Rattle.getopts.specs.Options.{Group, MayBeDeclared, Declared}
use Rattle.getopts.specs.Results.{step, read_both, read, reading_or_error, accepted_reading}
use Rattle.getopts.specs.Step.{cluster_step}
use Rattle.getopts.specs.Wrap.{width_of}
use Rattle.unicode_width.proofs.Computing.{unicode_width}

-- ---- what to unfold

-- What a proof unfolds to compute readings, results and matches of a literal line.
unfoldable pub getopts_on_literals : ⊤
unfolding step read_both read reading_or_error accepted_reading cluster_step chars encode_utf8
getopts_on_literals = tt

-- What a proof unfolds to compute a literal help text.
unfoldable pub usage_on_literals : ⊤
unfolding width_of unicode_width
usage_on_literals = tt

-- ---- literal names and words

-- whether a short name is empty, or one byte of ASCII
abbrev pub is_plain_short : Text → Bool
is_plain_short [] = true
is_plain_short (byte ∷ []) = nat_lt byte 128
is_plain_short (byte ∷ other ∷ more) = false

-- whether names are valid and the short one is ASCII
abbrev pub are_plain_names : Names → Bool
are_plain_names names =
    is_plain_short names.short && (not (length names.long == 1) && nat_lt 0
    (length names.short + length names.long))

-- whether all bytes of a text are ASCII
abbrev pub is_plain_text : Text → Bool
is_plain_text text = list_all (λ byte. nat_lt byte 128) text

text_ascii : (text : Text) → is_plain_text text ≡ true → IsAscii text
text_ascii text plain = grind (arith, common_steps, and_parts, IsAscii-cons, ltb-true)

short_told : (short : Text) → is_plain_short short ≡ true → (length short ≤ 1) × IsAscii short
short_told short plain = search (rules, text_ascii)

plain_lawful : (names : Names) → are_plain_names names ≡ true → IsLawfullyNamed names
plain_lawful names plain = search (rules, and_parts, short_told, ltb-true)

-- whether all options have such names
abbrev pub are_plain : List Group → Bool
are_plain groups = list_all (λ group. are_plain_names group.signature.names) groups

lawful_groups : (groups : List Group) → are_plain groups ≡ true → MayBeDeclared groups
lawful_groups [] plain = record { named = tt; shorts = tt }
lawful_groups (group ∷ groups) plain =
    let names = group.signature.names in
    let parts = and_parts (are_plain_names group.signature.names) (are_plain groups) plain in
    search (rules, and_parts, plain_lawful, IsUtf8-from_ascii, short_told, lawful_groups groups parts.1)

-- literal options may be declared if their names pass this test
pub MayBeDeclared-plain : (options : Declared) → are_plain options.groups ≡ true → MayBeDeclared options.groups
MayBeDeclared-plain options plain = lawful_groups options.groups plain

-- literal words are texts if they pass this test
pub AreTexts-plain : (words : List Text) → list_all is_plain_text words ≡ true → AreTexts words
AreTexts-plain [] plain = tt
AreTexts-plain (word ∷ words) plain =
    let parts = and_parts (is_plain_text word) (list_all is_plain_text words) plain in
    (IsUtf8-from_ascii word (text_ascii word parts.0), AreTexts-plain words parts.1)
