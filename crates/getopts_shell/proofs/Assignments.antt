-- The code that sets variables, as it is written, and the errors of their names.
use Rattle.std.proofs.Common.{◌≡◌, ◌≢◌, ℕ, Bool, true, false, cond, List, [], ◌∷◌, ◌++◌, Option, Some, None, refl, ap}
use Rattle.std.proofs.Common.{◌∙◌, suc, zero, length, take, drop, map, append_assoc, append-nil, add-one, arith}
use Rattle.std.proofs.Common.{get_or, ◌+◌, ◌-◌, ◌<◌, rules}
use Rattle.std.specs.Prelude.{nat_lt, not, slice_get, ◌&&◌}
use Rattle.std.specs.Char.{is_ascii_digit}
use Rattle.std.specs.List.{AllByRecursion, find, flat_map, last_or, list_all}
use Rattle.std.specs.Option.{option_map_or, option_or, unwrap_or}
use Rattle.std.specs.Str.{bytes_eq}
use Rattle.std.proofs.lemmas.Bool.{eq-eqb}
use Rattle.std.proofs.lemmas.Bool.Decides.{nat_tests}
use Rattle.std.proofs.lemmas.List.{length-map, take_more}
use Rattle.std.proofs.lemmas.List.Concat.{flat_map-append}
use Rattle.std.proofs.lemmas.List.Folds.{list_all-append, list_all-map}
use Rattle.getopts.specs.Accessors.{occurrences_of_group}
use Rattle.getopts.specs.Matches.{GroupOccurrence, MatchedGroup}
use Rattle.getopts.specs.Names.{Text, main_name}
use Rattle.getopts.specs.Wrap.{parting}
use Rattle.getopts_shell.specs.Quote.{quoted, quoted_words, replaced, spaced}
use Rattle.getopts_shell.specs.Stored.{entries_of, entry_of_row}
use Rattle.getopts_shell.specs.Table.{Entry}
use Rattle.getopts_shell.specs.Variables.{first_fault, given_from, is_variable, with_same_variable, is_variable_byte}
use Rattle.getopts_shell.specs.Variables.{texts_given, variable, variable_byte, variable_fault, VariableFault}
use Rattle.getopts_shell.specs.Variables.{variable_of}
use Rattle.getopts_shell.specs.declared.row.Row.{Row}
use Rattle.std.proofs.lemmas.Grind.{common_steps}

some_lt : (n : ℕ) → true ≡ nat_lt 0 (suc n)
some_lt n = grind (arith, nat_tests)

-- ---- a name with `_` for each `-`

-- each byte of a name, as it is in a variable's name
pub name_written : (name : Text) → flat_map (replaced 45 (95 ∷ [])) name ≡ map variable_byte name
name_written [] = refl
name_written (byte ∷ name) = search (rules, name_written name)

-- ---- values

-- the value of an occurrence, or the empty text
pub text_of : (occurrences : List GroupOccurrence) (nth : ℕ)
    → get_or (texts_given occurrences) nth []
    ≡ option_map_or (λ occurrence. unwrap_or occurrence.value []) (slice_get occurrences nth) []
text_of [] nth = refl
text_of (first ∷ occurrences) zero = refl
text_of (first ∷ occurrences) (suc nth) = text_of occurrences nth

-- there is one text for each occurrence
pub length_texts : (occurrences : List GroupOccurrence) → length (texts_given occurrences) ≡ length occurrences
length_texts occurrences = simp length-map

-- one more word after a space
spaced_last : (front : Text) (words : List Text) (word : Text)
    → front ++ flat_map spaced (words ++ word ∷ []) ≡ (front ++ flat_map spaced words) ++ (32 ∷ quoted word)
spaced_last front words word = rw flat_map-append (simp append_assoc)

-- one more word in quotes
pub quoted_words_more : (texts : List Text) (nth : ℕ) → nth < length texts
    → quoted_words (take (nth + 1) texts)
    ≡ quoted_words (take nth texts)
    ++ (parting (nat_lt 0 nth) (32 ∷ []) ++ quoted (get_or texts nth []))
quoted_words_more texts nth below =
    ap quoted_words (take_more texts nth [] below) ∙ by_place texts nth below
  where
    by_place : (texts : List Text) (nth : ℕ) → nth < length texts
        → quoted_words (take nth texts ++ get_or texts nth [] ∷ [])
        ≡ quoted_words (take nth texts)
        ++ (parting (nat_lt 0 nth) (32 ∷ []) ++ quoted (get_or texts nth []))
    by_place [] nth below = absurd (omega arith)
    by_place (first ∷ texts) zero below = append-nil (quoted first)
    by_place (first ∷ texts) (suc nth) below =
        rw (← some_lt nth) (spaced_last (quoted first) (take nth texts) (get_or texts nth []))

-- ---- options

-- the last text
pub last_text : (texts : List Text) (before : Option Text) → 0 < length texts
    → last_or before texts ≡ Some (get_or texts (length texts - 1) [])
last_text [] before some = absurd (omega arith)
last_text (text ∷ []) before some = refl
last_text (text ∷ other ∷ texts) before some = search (rules, last_text (other ∷ texts) (Some text) (omega arith))

-- the value of the last occurrence
pub last_given : (occurrences : List GroupOccurrence) (count : ℕ) → count ≡ length occurrences → count ≢ 0
    → last_or None (texts_given occurrences) ≡ Some (get_or (texts_given occurrences) (count - 1) [])
last_given occurrences count is some = search (rules, last_text, length_texts)

-- one more option
pub given_more : (place : ℕ) (rows : List Row) (held : List MatchedGroup) (row : Row)
    (occurrences : List GroupOccurrence)
    → place < length rows → row ≡ get_or rows place row → occurrences ≡ occurrences_of_group held place
    → given_from 0 (entries_of (take (place + 1) rows)) held
    ≡ given_from 0 (entries_of (take place rows)) held
    ++ record { entry = entry_of_row row; occurrences = occurrences } ∷ []
given_more place rows held row occurrences below is occurrences_are =
    rw (add-one place, occurrences_are) (by_place 0 place rows below is (omega arith))
  where
    by_place : (from before : ℕ) (rows : List Row) → before < length rows
        → row ≡ get_or rows before row
        → from + before ≡ place
        → given_from from (entries_of (take (suc before) rows)) held
        ≡ given_from from (entries_of (take before rows)) held
        ++ record { entry = entry_of_row row; occurrences = occurrences_of_group held place } ∷ []
    by_place from before [] below is here = absurd (omega arith)
    by_place from zero (other ∷ rows) below is here = search rules
    by_place from (suc before) (other ∷ rows) below is here =
        rw (by_place (from + 1) before rows (omega arith) is (omega arith)) refl

-- ---- variables

-- the test on the first byte and those on all bytes make a variable's name
pub variable_parts : (prefix name : Text) → is_variable (variable prefix name)
    ≡ (option_map_or (λ byte. not (is_ascii_digit byte)) (slice_get (variable prefix name) 0) false
    && (list_all is_variable_byte prefix
    && list_all (λ byte. is_variable_byte (variable_byte byte)) name))
variable_parts prefix name =
    by_first (variable prefix name) ∙ simp (list_all-append, list_all-map)
  where
    by_first : (text : Text) → is_variable text
        ≡ (option_map_or (λ byte. not (is_ascii_digit byte)) (slice_get text 0) false
        && list_all is_variable_byte text)
    by_first [] = refl
    by_first (byte ∷ text) = refl

-- the same text before both changes nothing
same_front : (front name other : Text) → bytes_eq (front ++ name) (front ++ other) ≡ bytes_eq name other
same_front [] name other = refl
same_front (byte ∷ front) name other = simp (eq-eqb, same_front front name other)

-- the first row that makes the variable of an entry
pub found_variable : (prefix : Text) (rows : List Row) (entry : Entry)
    → with_same_variable prefix (entries_of rows) entry
    ≡ find (λ (other : Entry). bytes_eq (map variable_byte (main_name other.names))
    (map variable_byte (main_name entry.names))) (entries_of rows)
found_variable prefix [] entry = refl
found_variable prefix (row ∷ rows) entry = simp (same_front, found_variable prefix rows entry)

-- the error from a row on: its own, or else the error from the next row on
pub fault_from : (prefix : Text) (rows : List Row) (place : ℕ) (row : Row) → place < length rows
    → row ≡ get_or rows place row
    → first_fault prefix (entries_of (take place rows)) (entries_of (drop place rows))
    ≡ option_or (variable_fault prefix (entries_of (take place rows)) (entry_of_row row))
    (first_fault prefix (entries_of (take (place + 1) rows))
    (entries_of (drop (place + 1) rows)))
fault_from prefix rows place row below row_is = grind (arith, common_steps)

-- an entry without an error makes a variable
no_fault : (made : Bool) (more : Option VariableFault) (one : VariableFault) (rest : Option VariableFault)
    → option_or (cond made more (Some one)) rest ≡ None → (made ≡ true) × (rest ≡ None)
no_fault made more one rest is = search rules

-- if no error is found, each entry makes a variable
pub each_makes : (prefix : Text) (before entries : List Entry) → first_fault prefix before entries ≡ None
    → AllByRecursion (λ entry. is_variable (variable_of prefix entry) ≡ true) entries
each_makes prefix before [] is = tt
each_makes prefix before (entry ∷ more) is =
    let parts = no_fault (is_variable (variable_of prefix entry)) _ _ _ is in
    (parts.0, each_makes prefix (before ++ entry ∷ []) more parts.1)
