-- One step of reading: what the first word of a command line gives, with the words after it.
-- Clauses of `scan` say that the code takes these steps, and lemmas show that they agree with
-- `Reading`.
use Rattle.std.specs.Prelude.{◌≡◌, ◌≢◌, ◌==◌, ℕ, List, [], ◌∷◌, ◌++◌, Option}
use Rattle.std.specs.Prelude.{Some, None, Result, Ok, Err, if◌then◌else◌, false, encode_utf8}
use Rattle.std.specs.Option.{option_map_or}
use Rattle.std.specs.Str.{chars}
use Rattle.getopts.specs.Names.{Text}
use Rattle.getopts.specs.Options.{Grammar}
use Rattle.getopts.specs.Fail.{Fault, argument_missing, unrecognized_option, unexpected_argument}
use Rattle.getopts.specs.Reading.{dash, begins_with_dash, equals_sign, is_dashed, Argument, none}
use Rattle.getopts.specs.Reading.{attached, separate, Dashes, dash_text, flags, ends_in, Item, long, cluster}
use Rattle.getopts.specs.Reading.{value_of, argument_words, MayPrecede, free_items, Tail}
use Rattle.getopts.specs.Reading.{mentions, IsFlag}
use Rattle.getopts.specs.declared.kinds.HasArg.{HasArg}
use Rattle.getopts.specs.declared.kinds.HasArg.TheVariants.{Yes, No, Maybe}

-- one step of reading: the line's tail, an item with the argument of its last option, or an error
pub data Step : Type 0 where
  ends : Tail → Step
  takes : Item → Argument → Step
  faults : Fault → Step

-- `=` and the attached argument, if there is one
abbrev pub with_equals : Option Text → Text
with_equals argument = option_map_or (λ text. equals_sign ∷ text) argument []

-- The word is in long form: dashes, and this text, which isn't empty and which they may precede.
pub record IsInLongForm (grammar : Grammar) (dashes : Dashes) (word text : Text) : Type 0 where
  pub before : MayPrecede grammar.long_only dashes text
  pub word_is : word ≡ dash_text dashes ++ text
  pub filled : word ≢ dash_text dashes

-- The word is in short form: `-`, and this text.
pub record IsShortForm (grammar : Grammar) (word text : Text) : Type 0 where
  pub ordinary : grammar.long_only ≡ false
  pub word_is : word ≡ dash ∷ text
  pub filled : text ≢ []
  pub second : begins_with_dash text ≡ false

-- the argument of an option in long form, by the attached one and the next words, or its error
abbrev pub chosen_long : HasArg → Text → Option Text → List Text → Result Argument Fault
chosen_long No name None after = Ok none
chosen_long No name (Some argument) after = Err (unexpected_argument name)
chosen_long Yes name None [] = Err (argument_missing name)
chosen_long Yes name None (word ∷ after) = Ok (separate word)
chosen_long Yes name (Some argument) after = Ok (attached argument)
chosen_long Maybe name None after = Ok none
chosen_long Maybe name (Some argument) after = Ok (attached argument)

-- the argument of an option that ends a cluster, by its word's rest and later words, or its error
abbrev pub chosen_end : HasArg → Text → Text → List Text → Result Argument Fault
chosen_end kind name (byte ∷ text) after = Ok (attached (byte ∷ text))
chosen_end No name [] after = Ok none
chosen_end Yes name [] [] = Err (argument_missing name)
chosen_end Yes name [] (word ∷ after) = Ok (separate word)
chosen_end Maybe name [] [] = Ok none
chosen_end Maybe name [] (word ∷ after) = if is_dashed word then Ok none else Ok (separate word)

-- an item with the argument that was chosen, or the error
abbrev pub chosen_step : (Argument → Item) → Result Argument Fault → Step
chosen_step item (Ok argument) = takes (item argument) argument
chosen_step item (Err fault) = faults fault

-- the step of a name in long form, by its kind and the argument attached to it
abbrev pub long_name_step : Option HasArg → Dashes → Text → Option Text → List Text → Step
long_name_step None dashes name argument after = faults (unrecognized_option name)
long_name_step (Some kind) dashes name argument after =
    chosen_step (λ a. long dashes name a) (chosen_long kind name argument after)

-- a cut of a text, with this byte before it
abbrev pub onto_cut : ℕ → Text × Option Text → Text × Option Text
onto_cut c cut = (c ∷ cut.0, cut.1)

-- a text in long form, split at its first `=`: the name, and the argument attached to it
abbrev pub cut_at_equals : Text → Text × Option Text
cut_at_equals [] = ([], None)
cut_at_equals (c ∷ text) =
    if c == equals_sign then ([], Some text) else onto_cut c (cut_at_equals text)

-- the step of a word in long form, by its text after the dashes
abbrev pub long_step : Grammar → Dashes → Text → List Text → Step
long_step grammar dashes text after =
    let cut = cut_at_equals text in
    long_name_step (grammar.kind cut.0) dashes cut.0 cut.1 after

-- the first character of a text
abbrev pub first_char : Text → Text
first_char text = of_chars (chars text) where
  of_chars : List ℕ → Text
  of_chars [] = []
  of_chars (c ∷ cs) = encode_utf8 c

-- the step of a cluster at a byte after flags, by the byte's kind; `more` if the byte is a flag too
abbrev pub byte_step : Option HasArg → List ℕ → ℕ → Text → List Text → Step → Step
byte_step None bytes byte text after more = faults (unrecognized_option (first_char (byte ∷ text)))
byte_step (Some No) bytes byte text after more = more
byte_step (Some kind) bytes byte text after more =
    chosen_step (λ a. cluster bytes (ends_in byte a)) (chosen_end kind (byte ∷ []) text after)

-- the step of a cluster, by the flags that were read and the remaining text
unfoldable pub cluster_step : Grammar → List ℕ → Text → List Text → Step
cluster_step grammar bytes [] after = takes (cluster bytes flags) none
cluster_step grammar bytes (byte ∷ text) after =
    byte_step (grammar.kind (byte ∷ [])) bytes byte text after
    (cluster_step grammar (bytes ++ byte ∷ []) text after)

-- the step of a cluster at the first of these names; `more` if it is a flag
abbrev pub name_step : Grammar → List ℕ → Text → List Text → Step → Step
name_step grammar bytes [] after more = more
name_step grammar bytes (byte ∷ text) after more =
    byte_step (grammar.kind (byte ∷ [])) bytes byte text after more

-- An argument was chosen, which gives this value. Of the words after the option, these are left.
pub record Chooses (chosen : Result Argument Fault) (after : List Text) (value : Option Text)
    (left : List Text) : Type 0 where
  pub argument : Argument
  pub chosen_is : chosen ≡ Ok argument
  pub value_is : value ≡ value_of argument
  pub after_is : after ≡ argument_words argument ++ left

-- A dashed word gives one option. Of the words after it, these are left.
pub record TakesOne (grammar : Grammar) (step : Step) (after : List Text) (place : ℕ)
    (value : Option Text) (left : List Text) : Type 0 where
  pub item : Item
  pub argument : Argument
  pub step_is : step ≡ takes item argument
  pub after_is : after ≡ argument_words argument ++ left
  pub no_free : free_items (item ∷ []) ≡ []
  pub mentioned : mentions grammar item ≡ record { place = place; value = value } ∷ []

-- The first of a cluster's names gives this option, and these names and words are left.
pub data TakesName (grammar : Grammar) (names : Text) (after : List Text) (place : ℕ)
    (value : Option Text) (names_left : Text) (left : List Text) : Type 0 where
  -- the option ends the cluster
  takes_last : (byte : ℕ) (text : Text) (kind : HasArg) → names ≡ byte ∷ text → names_left ≡ []
      → grammar.place (byte ∷ []) ≡ Some place → kind ≢ No → grammar.kind (byte ∷ []) ≡ Some kind
      → Chooses (chosen_end kind (byte ∷ []) text after) after value left
      → TakesName grammar names after place value names_left left
  -- the option is a flag
  takes_flag : (byte : ℕ) → names ≡ byte ∷ names_left → IsFlag grammar byte
      → grammar.place (byte ∷ []) ≡ Some place → value ≡ None → left ≡ after
      → TakesName grammar names after place value names_left left
