-- The canonical line of a script's words.
use Rattle.std.proofs.Common.{◌≡◌, ◌≢◌, ℕ, zero, suc, false, List, [], ◌∷◌, ◌++◌, Some, None, refl, sym, ◌∙◌, rules}
use Rattle.std.specs.List.{AllByRecursion}
use Rattle.std.specs.Option.{option_map_or}
use Rattle.getopts.specs.Canon.{canonical_word, main_at}
use Rattle.getopts.specs.Parse.{IsUnwritable, IsWritten, KeepsLineLaws}
use Rattle.getopts.specs.Names.{AreTexts, Text, resolution, EmptyResolvesNot}
use Rattle.getopts.specs.Options.{Declared, Group, names_of}
use Rattle.getopts.specs.Reading.{Mention, holds_equals, stop_word}
use Rattle.getopts_shell.specs.Program.{IsCanonicalLineOf}
use Rattle.getopts_shell.proofs.Plain.{ArePlainlyNamed}
use Rattle.getopts_shell.proofs.Written.{sets_words}

-- no main name contains `=`
plain_at : (groups : List Group) → ArePlainlyNamed groups → (place : ℕ) → holds_equals (main_at groups place) ≡ false
plain_at [] plain zero = refl
plain_at [] plain (suc place) = refl
plain_at (group ∷ groups) plain zero = plain.0
plain_at (group ∷ groups) plain (suc place) = plain_at groups plain.1 place

-- each content is plain
always_plain : (groups : List Group) → ArePlainlyNamed groups → (mentioned : List Mention)
    → AllByRecursion (λ (m : Mention). holds_equals (main_at groups m.place) ≡ false) mentioned
always_plain groups plain [] = tt
always_plain groups plain (m ∷ mentioned) = search (rules, plain_at, always_plain groups plain mentioned)

-- there are no words whose content can't be written
pub never_unwritable : (options : Declared) (words : List Text) → ArePlainlyNamed options.groups
    → IsUnwritable options words → ⊥
never_unwritable options words plain is = search (rules, always_plain)

-- the canonical word of a main name isn't the stop
main_no_stop : (groups : List Group) → EmptyResolvesNot (names_of groups) → (m : Mention)
    → resolution (names_of groups) (main_at groups m.place) ≡ Some m.place → canonical_word groups m ≢ stop_word
main_no_stop groups empty m sound = λ same. by_main (main_at groups m.place) sound same
  where
    by_main : (main : Text) → resolution (names_of groups) main ≡ Some m.place
        → 45 ∷ 45 ∷ (main ++ option_map_or (λ (text : Text). 61 ∷ text) m.value []) ≡ 45 ∷ 45 ∷ []
        → ⊥
    by_main [] sound same = let both : None ≡ Some m.place = sym empty ∙ sound in cc
    by_main (byte ∷ main) sound same = cc

no_stops : (groups : List Group) → EmptyResolvesNot (names_of groups) → (mentioned : List Mention)
    → AllByRecursion (λ (m : Mention). resolution (names_of groups) (main_at groups m.place) ≡ Some m.place) mentioned
    → AllByRecursion (λ (m : Mention). canonical_word groups m ≢ stop_word) mentioned
no_stops groups empty [] sound = tt
no_stops groups empty (m ∷ mentioned) sound = search (rules, main_no_stop, no_stops groups empty mentioned sound.1)

-- the facts about a canonical line
pub tells_words : (options : Declared) (words line : List Text) → AreTexts line
    → EmptyResolvesNot (names_of options.groups)
    → KeepsLineLaws options → IsWritten options words line → IsCanonicalLineOf options words line
tells_words options words line are empty laws written = record {
  shell = sets_words line are;
  written = written;
  reads_back = laws words line written;
  stop_is_first = no_stops options.groups empty written.content.mentions
      (laws words line written).sound;
}
