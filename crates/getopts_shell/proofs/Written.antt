-- What a shell makes of the bytes that are written.
use Rattle.std.proofs.Common.{◌≡◌, ℕ, ◌%◌, ◌/◌, zero, suc, Bool, true, false, cond, eqb, List, [], ◌∷◌, Option, Some}
use Rattle.std.proofs.Common.{None, refl, sym, subst, map, string_bytes, arith, rules}
use Rattle.std.specs.Prelude.{MatchOption, codes, decimal, not, ⊤}
use Rattle.std.specs.Char.{is_ascii, is_ascii_digit}
use Rattle.std.specs.declared.alloc.Global.{Global}
use Rattle.std.specs.declared.string.String.{String}
use Rattle.std.specs.Fmt.{digits, digits_onto, digit_glyph}
use Rattle.std.specs.List.{AllByRecursion, flat_map, last_or, list_all}
use Rattle.std.specs.Option.{option_map}
use Rattle.std.specs.Str.{IsUtf8}
use Rattle.std.proofs.lemmas.Bool.{and_from, and_parts, cond_both}
use Rattle.std.proofs.lemmas.Bool.Decides.{nat_tests}
use Rattle.std.proofs.lemmas.List.{length-map}
use Rattle.std.proofs.lemmas.Str.{IsUtf8-string_bytes}
use Rattle.getopts.specs.Matches.{GroupOccurrence}
use Rattle.getopts.specs.Names.{AreTexts, Text}
use Rattle.getopts.specs.declared.kinds.HasArg.{HasArg}
use Rattle.getopts.specs.declared.kinds.HasArg.TheVariants.{Yes, No, Maybe}
use Rattle.getopts_bytes.specs.Marks.{bytes_of}
use Rattle.getopts_shell.specs.Program.{IsOneWord}
use Rattle.getopts_shell.specs.Table.{Entry}
use Rattle.getopts_shell.specs.Variables.{AreTextValues, CodeSetsVariables, occurrence_in_bytes, Given, count_text}
use Rattle.getopts_shell.specs.Variables.{given_alone, HaveOwnVariables, variable_value, holds_all, HoldTexts, in_bytes}
use Rattle.getopts_shell.specs.Variables.{is_variable, is_variable_byte, line_code, many, one, option_code}
use Rattle.getopts_shell.specs.Variables.{SetsVariables, SetsWords, texts_given, Value, value_line, variable_of}
use Rattle.getopts_shell.proofs.Assignments.{each_makes}
use Rattle.getopts_shell.proofs.Quoting.{word_same}
use Rattle.getopts_shell.proofs.QuotedBytes.{append_gives, ascii_gives, Gives, quoted_gives, text_gives, words_give}
use Rattle.getopts_shell.proofs.Shell.{code_runs, line_runs, once_more}

-- ---- ASCII

-- the bytes that a variable's name may contain are ASCII
variable_bytes_ascii : (name : Text) → list_all is_variable_byte name ≡ true → list_all is_ascii name ≡ true
variable_bytes_ascii [] is = refl
variable_bytes_ascii (byte ∷ name) is =
    let each = and_parts (is_variable_byte byte) (list_all is_variable_byte name) is in
    let first : is_variable_byte byte ≡ true = each.0 in
    and_from (is_ascii byte) (list_all is_ascii name) (grind (arith, nat_tests))
    (variable_bytes_ascii name each.1)

-- the bytes of a variable's name are the name
variable_gives : (name : Text) → is_variable name ≡ true → Gives name name
variable_gives [] is = ascii_gives [] refl
variable_gives (byte ∷ name) is = ascii_gives (byte ∷ name) (variable_bytes_ascii (byte ∷ name)
    (and_parts (not (is_ascii_digit byte)) (list_all is_variable_byte (byte ∷ name)) is).1)

-- the digits of a number are ASCII
digits_ascii : (k n : ℕ) (onto : Text) → list_all is_ascii onto ≡ true
    → list_all is_ascii (digits_onto k 10 false n onto) ≡ true
digits_ascii zero n onto are = are
digits_ascii (suc k) n onto are =
    let last = digit_glyph false (n % 10) in
    let more = and_from (is_ascii last) (list_all is_ascii onto) (search rules) are in
    cond_both (eqb (n / 10) 0) (last ∷ onto) (digits_onto k 10 false (n / 10) (last ∷ onto))
    (λ (text : Text). list_all is_ascii text ≡ true)
    (λ _. more) (λ _. digits_ascii k (n / 10) (last ∷ onto) more)

-- the bytes of a number's digits are the digits
decimal_gives : (n : ℕ) → Gives (decimal n) (decimal n)
unfolding digits
decimal_gives n = ascii_gives (decimal n) (digits_ascii 64 n [] refl)

-- so are those of a count
count_gives : (count : ℕ) → Gives (count_text count) (count_text count)
count_gives count = by_test (eqb count 0)
  where
    by_test : (test : Bool)
        → Gives (cond test [] (decimal count)) (cond test [] (decimal count))
    by_test true = ascii_gives [] refl
    by_test false = decimal_gives count

-- ---- values

-- the values in bytes are the bytes of the values
texts_in_bytes : (occurrences : List GroupOccurrence)
    → texts_given (map occurrence_in_bytes occurrences) ≡ map bytes_of (texts_given occurrences)
texts_in_bytes [] = refl
texts_in_bytes (occurrence ∷ occurrences) = search (rules, ascii_gives, texts_in_bytes occurrences)

-- so is the last value
last_in_bytes : (texts : List Text) (before : Option Text)
    → last_or (option_map bytes_of before) (map bytes_of texts) ≡ option_map bytes_of (last_or before texts)
last_in_bytes [] before = refl
last_in_bytes (text ∷ texts) before = last_in_bytes texts (Some text)

-- the line that gives a variable one word
one_gives : (name text bytes : Text) → Gives name name → Gives text bytes
    → Gives (value_line name (Some (one text))) (value_line name (Some (one bytes)))
one_gives name text bytes named is = search (rules, append_gives, ascii_gives, quoted_gives)

-- the line that gives a variable many words
many_give : (name : Text) (texts : List Text) → Gives name name → AreTexts texts
    → Gives (value_line name (Some (many texts))) (value_line name (Some (many (map bytes_of texts))))
many_give name texts named are =
    append_gives named (append_gives (ascii_gives (codes "=") refl)
    (append_gives (append_gives (ascii_gives (codes "(${") refl)
    (append_gives named (ascii_gives (codes "+} ") refl)))
    (append_gives (words_give texts are) (ascii_gives (codes ")\n") refl))))

-- the line of an option that takes an argument
argument_gives : (name : Text) (arrays all : Bool) (occurrences : List GroupOccurrence) → Gives name name
    → AreTextValues Yes all occurrences
    → Gives (value_line name (variable_value arrays Yes all occurrences))
    (value_line name (variable_value arrays Yes all (map occurrence_in_bytes occurrences)))
argument_gives name true true occurrences named are = search (rules, texts_in_bytes, many_give)
argument_gives name false true occurrences named are = search (rules, texts_in_bytes, one_gives, words_give)
argument_gives name arrays false occurrences named are =
    rw (texts_in_bytes occurrences, last_in_bytes (texts_given occurrences) None)
    (by_last (last_or None (texts_given occurrences)) are)
  where
    by_last : (last : Option Text) → MatchOption last ⊤ IsUtf8
        → Gives (value_line name (option_map {U = Value} (λ text. one text) last))
        (value_line name (option_map {U = Value} (λ text. one text) (option_map bytes_of last)))
    by_last None utf8 = ascii_gives [] refl
    by_last (Some text) utf8 = one_gives name text _ named (text_gives text utf8)

-- the line of an option
value_gives : (name : Text) (arrays all : Bool) (kind : HasArg) (occurrences : List GroupOccurrence)
    → Gives name name
    → AreTextValues kind all occurrences
    → Gives (value_line name (variable_value arrays kind all occurrences))
    (value_line name (variable_value arrays kind all (map occurrence_in_bytes occurrences)))
value_gives name arrays all No occurrences named are = search (rules, length-map, one_gives, count_gives)
value_gives name arrays all Yes occurrences named are = argument_gives name arrays all occurrences named are
value_gives name arrays all Maybe occurrences named are = argument_gives name arrays all occurrences named are

-- ---- the text

-- the command that sets the words
line_code_gives : (words : List Text) → AreTexts words → Gives (line_code words) (line_code (map bytes_of words))
line_code_gives words are = search (rules, append_gives, ascii_gives, words_give)

-- the commands for all options
codes_give : (prefix : Text) (arrays : Bool) (options : List Given)
    → AllByRecursion (λ entry. is_variable (variable_of prefix entry) ≡ true)
    (map (λ (option : Given). option.entry) options)
    → HoldTexts options
    → Gives (flat_map (option_code prefix arrays) options)
    (flat_map (option_code prefix arrays) (map in_bytes options))
codes_give prefix arrays [] make hold = ascii_gives [] refl
codes_give prefix arrays (option ∷ options) make hold =
    let name = variable_of prefix option.entry in
    let named = variable_gives name make.0 in
    append_gives (append_gives (ascii_gives (codes "\\unset -v ") refl)
    (append_gives named (append_gives (ascii_gives (codes "\n") refl)
    (value_gives name arrays (holds_all option.entry.frequency) option.entry.kind option.occurrences
    named hold.0))))
    (codes_give prefix arrays options make.1 hold.1)

-- the entries are the same if values are taken in bytes
entries_kept : (options : List Given)
    → map (λ (option : Given). option.entry) (map in_bytes options) ≡ map (λ (option : Given). option.entry) options
entries_kept [] = refl
entries_kept (option ∷ options) = simp (entries_kept options)

-- ---- what a shell makes of it

-- a shell that runs the command holds the words, and one that runs its bytes holds their bytes
pub sets_words : (words : List Text) → AreTexts words → SetsWords words
sets_words words are = record {
  shell = line_runs words;
  bytes = λ before.
      rw (line_code_gives words are).bytes_are (line_runs (map bytes_of words) before);
}

-- the code for options sets variables
pub code_sets : CodeSetsVariables
code_sets prefix arrays options free own =
    let make = each_makes prefix [] (map (λ (option : Given). option.entry) options) own in record {
      own = own;
      shell = code_runs prefix arrays options free make;
      bytes = λ hold are before. rw
          (append_gives (codes_give prefix arrays options make hold)
          (line_code_gives free are)).bytes_are
          (code_runs prefix arrays (map in_bytes options) (map bytes_of free)
          (subst (AllByRecursion (λ entry. is_variable (variable_of prefix entry) ≡ true))
          (sym (entries_kept options)) make) before);
      once_more = once_more options;
    }

-- ---- one option alone

-- what the variables hold is UTF-8 if only one option was given
pub alone_holds_texts : (entries : List Entry) (alone : Entry) → HoldTexts (given_alone entries alone)
alone_holds_texts [] alone = tt
alone_holds_texts (entry ∷ entries) alone = search (rules, alone_holds_texts entries alone)

-- the entries of these options are the table's
alone_entries : (entries : List Entry) (alone : Entry)
    → map (λ (option : Given). option.entry) (given_alone entries alone) ≡ entries
alone_entries [] alone = refl
alone_entries (entry ∷ entries) alone = simp (alone_entries entries alone)

-- so the code for it sets variables if the table's options make them
pub alone_sets : (prefix : Text) (arrays : Bool) (entries : List Entry) (alone : Entry)
    → HaveOwnVariables prefix entries → SetsVariables prefix arrays (given_alone entries alone) []
alone_sets prefix arrays entries alone own = search (rules, code_sets, alone_entries)

-- ---- words

-- a help is one word
pub one_word : (text : Text) → IsUtf8 text → IsOneWord text
one_word text utf8 = record {
  shell = word_same text;
  bytes = rw (quoted_gives (text_gives text utf8)).bytes_are (word_same (bytes_of text));
}

-- the texts of strings are texts
pub strings_are_texts : (strings : List (String Global)) → AreTexts (map string_bytes strings)
strings_are_texts [] = tt
strings_are_texts (string ∷ strings) = (IsUtf8-string_bytes string, strings_are_texts strings)
