-- One word: `step` agrees with the definitions.
use Rattle.std.proofs.Common.{◌≡◌, ◌≢◌, ◌==◌, ℕ, ◌<◌, Bool, true, false, List, [], ◌∷◌, ◌++◌, rules, length, Option}
use Rattle.std.proofs.Common.{Some, None, Ok, refl, sym, ap, ◌∙◌, subst, inl, inr, arith, encode_utf8, unwrap_or}
use Rattle.std.proofs.Common.{append_assoc, append-nil}
use Rattle.std.proofs.lemmas.Bool.{cases_Bool, cases_lt, eqb-true, false≢true, true_from_ne_false}
use Rattle.std.specs.Char.{IsScalar}
use Rattle.std.specs.List.{AllByRecursion}
use Rattle.std.specs.Str.{IsUtf8}
use Rattle.std.proofs.lemmas.List.{length-append}
use Rattle.std.proofs.lemmas.Str.{encode_ascii, length-encode, len_utf8_bounds}
use Rattle.std.proofs.Math.Utf8.{low_scalar}
use Rattle.getopts.specs.Names.{Text}
use Rattle.getopts.specs.Options.{Grammar}
use Rattle.getopts.specs.Fail.{Fault, unrecognized_option}
use Rattle.getopts.specs.Reading.{dash, Dashes, flags, ends_in, cluster, FitsEnd, IsFlag, is_bare, is_dashed}
use Rattle.getopts.specs.Reading.{stop_word, long_word, tail_words, IsLongForm, holds_equals, one, argument_words}
use Rattle.getopts.specs.Reading.{MayPrecede, EndsOrIsDashed, Argument, attached_argument, unknown_byte}
use Rattle.getopts.specs.Reading.{unwanted_argument, none, two, End, Item, free, long, stop, end_text, end_words}
use Rattle.getopts.specs.Reading.{FitsLong, dash_text, IsFaultAt, item_words, IsLawfulEnd, IsLawfulItem, IsLawfulTail}
use Rattle.getopts.specs.Reading.{unknown_name, wide_character, IsLawfulCluster, HasAfterFlags, long_unfinished}
use Rattle.getopts.specs.Reading.{short_unfinished}
use Rattle.getopts.specs.Step.{with_equals, Step, ends, takes, faults, IsInLongForm, IsShortForm, chosen_long}
use Rattle.getopts.specs.Step.{chosen_end, chosen_step, long_name_step, cut_at_equals, long_step, first_char, byte_step}
use Rattle.getopts.specs.Step.{cluster_step}
use Rattle.getopts.specs.declared.kinds.HasArg.{HasArg}
use Rattle.getopts.specs.declared.kinds.HasArg.TheVariants.{Yes, No, Maybe}
use Rattle.std.proofs.Permutation.{every_append}
use Rattle.getopts.proofs.Lists.{filled-append}
use Rattle.getopts.proofs.Reading.Reader.{spelled, HasTextNames, free_step, step}
use Rattle.getopts.proofs.Reading.Texts as Texts

-- ---- sound steps: words in long form

-- a line begins with this item, and these words follow it
pub record BeginsWith (grammar : Grammar) (words : List Text) (item : Item) (more : List Text)
    : Type 0 where
  pub spells : words ≡ item_words item ++ more
  pub lawful : IsLawfulItem grammar item
  pub followed : is_bare item ≡ true → EndsOrIsDashed more

-- A step is right about a line that begins with this word: its tail, its item or its error.
abbrev pub IsSoundStep : Grammar → Text → List Text → Step → Type 0
IsSoundStep grammar word more (ends tail) = IsLawfulTail grammar tail
    × (tail_words tail ≡ word ∷ more)
IsSoundStep grammar word more (takes item argument) = (others : List Text)
    × (more ≡ argument_words argument ++ others) × BeginsWith grammar (word ∷ more) item others
IsSoundStep grammar word more (faults fault) = IsUtf8 word → IsFaultAt grammar word more fault

-- dashes that may precede a text may precede a name at its front
before_front : (long_only : Bool) (dashes : Dashes) (name more : Text)
    → MayPrecede long_only dashes (name ++ more) → MayPrecede long_only dashes name
before_front long_only dashes name more before = search (rules, Texts.begins_with_dash-front)

-- Words in long form with this name.
module _ (grammar : Grammar) (dashes : Dashes) (word name : Text)
    (plain : holds_equals name ≡ false) where
  -- its dashes precede it, and `=` and an argument follow if there is one
  long_form : (argument : Option Text) → IsInLongForm grammar dashes word (name ++ with_equals argument)
      → IsLongForm grammar word name argument
  long_form argument form = search (rules, before_front)

  -- an argument that its kind may have
  takes_long : (kind : HasArg) (argument : Argument) (more : List Text)
      → IsInLongForm grammar dashes word (name ++ with_equals (attached_argument argument))
      → grammar.kind name ≡ Some kind → FitsLong kind argument
      → IsSoundStep grammar word (argument_words argument ++ more) (takes (long dashes name argument) argument)
  takes_long kind argument more form resolved fits = search (rules, before_front, false≢true)

  -- each kind, and an unknown name
  long_name_sound : (kind : Option HasArg) (argument : Option Text) (more : List Text)
      → IsInLongForm grammar dashes word (name ++ with_equals argument) → grammar.kind name ≡ kind
      → IsSoundStep grammar word more (long_name_step kind dashes name argument more)
  long_name_sound None argument more form resolved = λ utf8. unknown_name name argument (long_form argument form) resolved
  long_name_sound (Some No) None more form resolved = takes_long No none more form resolved tt
  long_name_sound (Some No) (Some argument) more form resolved =
      λ utf8. unwanted_argument name argument (long_form (Some argument) form) resolved
  long_name_sound (Some Yes) None [] form resolved = λ utf8. long_unfinished name (long_form None form) resolved refl
  long_name_sound (Some Yes) None (next ∷ others) form resolved = search (rules, takes_long)
  long_name_sound (Some Maybe) None more form resolved = takes_long Maybe none more form resolved tt
  long_name_sound (Some kind) (Some argument) more form resolved = search (rules, takes_long)

-- ---- sound steps: words in short form

-- the rest after flags is a text
IsUtf8-past_flags : (grammar : Grammar) → HasTextNames grammar → (bytes text : Text)
    → AllByRecursion (IsFlag grammar) bytes → IsUtf8 (bytes ++ text) → IsUtf8 text
IsUtf8-past_flags grammar named [] text each utf8 = utf8
IsUtf8-past_flags grammar named (byte ∷ bytes) text each utf8 =
    let ascii : byte < 128 = search rules in
    IsUtf8-past_flags grammar named bytes text each.1 (Texts.IsUtf8-past_ascii byte (bytes ++ text) ascii utf8)

IsUtf8-after_flags : (grammar : Grammar) → HasTextNames grammar → (word : Text) (bytes text : Text)
    → IsShortForm grammar word (bytes ++ text) → AllByRecursion (IsFlag grammar) bytes → IsUtf8 word → IsUtf8 text
IsUtf8-after_flags grammar named word bytes text form each utf8 =
    IsUtf8-past_flags grammar named bytes text each
    (Texts.IsUtf8-past_ascii dash (bytes ++ text) (omega arith) (subst IsUtf8 form.word_is utf8))

-- Words in short form that begin with these flags.
module _ (grammar : Grammar) (word : Text) (bytes : List ℕ)
    (each : AllByRecursion (IsFlag grammar) bytes) where
  -- a line that begins with a cluster
  begins_cluster : (end : End) (more : List Text) → IsShortForm grammar word (bytes ++ end_text end)
      → IsLawfulEnd grammar bytes end → (is_bare (cluster bytes end) ≡ true → EndsOrIsDashed more)
      → BeginsWith grammar (word ∷ (end_words end ++ more)) (cluster bytes end) more
  begins_cluster end more form last followed = search rules

  -- an option that ends it, with an argument that its kind may have
  takes_end : (option : ℕ) (kind : HasArg) (argument : Argument) (more : List Text)
      → IsShortForm grammar word (bytes ++ end_text (ends_in option argument))
      → grammar.kind (option ∷ []) ≡ Some kind → FitsEnd kind argument
      → (is_bare (cluster bytes (ends_in option argument)) ≡ true → EndsOrIsDashed more)
      → IsSoundStep grammar word (argument_words argument ++ more)
      (takes (cluster bytes (ends_in option argument)) argument)
  takes_end option kind argument more form resolved fits followed = search (rules, begins_cluster)

  -- a text that follows the flags
  after_flags : (rest : Text) → IsShortForm grammar word (bytes ++ rest) → HasAfterFlags grammar word rest
  after_flags rest form = search rules

  -- a name that doesn't resolve
  unknown_flag : HasTextNames grammar → (byte : ℕ) (text : Text) (more : List Text)
      → IsShortForm grammar word (bytes ++ byte ∷ text) → grammar.kind (byte ∷ []) ≡ None
      → IsUtf8 word → IsFaultAt grammar word more (unrecognized_option (first_char (byte ∷ text)))
  unknown_flag named byte text more form resolved utf8 =
      let begins = Texts.begins_with_char byte text
      (IsUtf8-after_flags grammar named word bytes (byte ∷ text) form each utf8) in
      rw begins.1.first (elim (cases_lt byte 128) [
        | inl ascii ↦
            rw (Texts.encode-ascii_byte begins.0 byte text begins.1.rest begins.1.text_is ascii)
            (unknown_byte byte text ascii (after_flags (byte ∷ text) form) resolved)
        | inr wide ↦
            wide_character begins.0 begins.1.rest begins.1.scalar
            (Texts.length-encode-wide begins.0 byte text begins.1.rest begins.1.text_is wide)
            (search (rules, after_flags))
      ])

  -- one more byte, by its kind, given the result of one more flag
  byte_sound : HasTextNames grammar → (byte : ℕ) (kind : Option HasArg) (text : Text) (more : List Text) (after : Step)
      → IsShortForm grammar word (bytes ++ byte ∷ text) → grammar.kind (byte ∷ []) ≡ kind
      → (kind ≡ Some No → IsSoundStep grammar word more after)
      → IsSoundStep grammar word more (byte_step kind bytes byte text more after)
  byte_sound named byte None text more after form resolved flag = search (rules, unknown_flag)
  byte_sound named byte (Some No) text more after form resolved flag = flag refl
  byte_sound named byte (Some kind) (c ∷ text) more after form resolved flag = search rules
  byte_sound named byte (Some Yes) [] [] after form resolved flag =
      λ utf8. short_unfinished byte (after_flags (byte ∷ []) form) resolved refl
  byte_sound named byte (Some Yes) [] (next ∷ others) after form resolved flag = search rules
  byte_sound named byte (Some Maybe) [] [] after form resolved flag = search (rules, takes_end)
  byte_sound named byte (Some Maybe) [] (next ∷ others) after form resolved flag =
      search (rules, cases_Bool, takes_end)

-- a cluster, by the flags that were read and the remaining text
cluster_sound : (grammar : Grammar) → HasTextNames grammar → (word : Text) (bytes : List ℕ) (text : Text)
    (more : List Text) → IsShortForm grammar word (bytes ++ text) → AllByRecursion (IsFlag grammar) bytes
    → IsSoundStep grammar word more (cluster_step grammar bytes text more)
unfolding cluster_step
cluster_sound grammar named word bytes [] more form each = search (rules, begins_cluster, false≢true)
cluster_sound grammar named word bytes (byte ∷ text) more form each =
    byte_sound grammar word bytes each named byte (grammar.kind (byte ∷ [])) text more
    (cluster_step grammar (bytes ++ byte ∷ []) text more) form refl
    (λ flag. cluster_sound grammar named word (bytes ++ byte ∷ []) text more
    (subst (IsShortForm grammar word) (sym (append_assoc bytes (byte ∷ []) text)) form)
    (every_append (IsFlag grammar) bytes (byte ∷ []) each (flag, tt)))

-- ---- sound steps: any word

-- the step of a word that isn't dashed
pub step_free : (grammar : Grammar) (word : Text) (more : List Text) → is_dashed word ≡ false
    → step grammar word more ≡ free_step grammar.style word more
unfolding step
step_free grammar word more plain = search rules

-- the step of `--`
pub step_stop : (grammar : Grammar) (more : List Text) → step grammar stop_word more ≡ ends (stop more)
unfolding step
step_stop grammar more = refl

-- the step of a word in long form
pub step_long : (grammar : Grammar) (dashes : Dashes) (word text : Text) (more : List Text)
    → IsInLongForm grammar dashes word text → step grammar word more ≡ long_step grammar dashes text more
unfolding step
step_long grammar dashes word text more form = search rules

-- the step of a word in short form
pub step_short : (grammar : Grammar) (word text : Text) (more : List Text)
    → IsShortForm grammar word text → step grammar word more ≡ cluster_step grammar [] text more
unfolding step
step_short grammar word text more form = search rules

plain_sound : (grammar : Grammar) (word : Text) (more : List Text) → is_dashed word ≡ false
    → IsSoundStep grammar word more (step grammar word more)
plain_sound grammar word more plain = search (rules, step_free)

-- the first word of a line
pub step_sound : (grammar : Grammar) → HasTextNames grammar → (word : Text) (more : List Text)
    → IsSoundStep grammar word more (step grammar word more)
step_sound grammar named [] more = plain_sound grammar [] more refl
step_sound grammar named (first ∷ []) more = plain_sound grammar (first ∷ []) more refl
step_sound grammar named (first ∷ second ∷ text) more = elim (cases_Bool (first == dash)) [
  | inr plain ↦ plain_sound grammar (first ∷ second ∷ text) more plain
  | inl dashed ↦ rw (eqb-true first dash dashed) (elim (cases_Bool (second == dash)) [
    | inl again ↦ rw (eqb-true second dash again) (two_sound text)
    | inr name ↦ elim (cases_Bool grammar.long_only) [
      | inl long_only ↦ in_long one (dash ∷ second ∷ text) (second ∷ text) (search rules)
      | inr ordinary ↦
          let form : IsShortForm grammar (dash ∷ second ∷ text) (second ∷ text) =
          record { ordinary = ordinary; word_is = refl; filled = λ e. cc e; second = name } in
          rw (step_short grammar (dash ∷ second ∷ text) (second ∷ text) more form)
          (cluster_sound grammar named (dash ∷ second ∷ text) [] (second ∷ text) more form tt)
    ]
  ])
] where
  in_long : (dashes : Dashes) (word others : Text) → IsInLongForm grammar dashes word others
      → IsSoundStep grammar word more (step grammar word more)
  in_long dashes word others form =
      let cut = cut_at_equals others in
      rw (step_long grammar dashes word others more form)
      (search (rules, long_name_sound, Texts.holds_equals-name, Texts.cut_at_equals-joined))

  two_sound : (others : Text)
      → IsSoundStep grammar (dash ∷ dash ∷ others) more (step grammar (dash ∷ dash ∷ others) more)
  two_sound [] = rw (step_stop grammar more) (tt, refl)
  two_sound (c ∷ others) = in_long two (dash ∷ dash ∷ c ∷ others) (c ∷ others)
      (record { before = tt; word_is = refl; filled = λ e. cc e })

-- ---- the step of a line's first item

-- Conversely, the beginning of a line determines the step of its first word.

-- a text in long form, by its name, its kind and its attached argument
pub long_step_cut : (grammar : Grammar) (dashes : Dashes) (name : Text) (argument : Option Text)
    (more : List Text) (kind : Option HasArg) → holds_equals name ≡ false
    → grammar.kind name ≡ kind
    → long_step grammar dashes (name ++ with_equals argument) more
    ≡ long_name_step kind dashes name argument more
long_step_cut grammar dashes name argument more kind plain resolved = search (rules, Texts.cut_at_equals-append)

-- dashes that may precede a name may precede it and its argument
before_more : (long_only : Bool) (dashes : Dashes) (name : Text) (argument : Option Text)
    → MayPrecede long_only dashes name → MayPrecede long_only dashes (name ++ with_equals argument)
before_more long_only dashes name argument before = search (rules, Texts.begins_with_dash-append)

-- the step of a word in long form, by its name, its kind and its attached argument
pub long_form_step : (grammar : Grammar) (word name : Text) (argument : Option Text)
    (more : List Text) (kind : Option HasArg) (form : IsLongForm grammar word name argument)
    → grammar.kind name ≡ kind
    → step grammar word more ≡ long_name_step kind form.dashes name argument more
long_form_step grammar word name argument more kind form resolved =
    search (rules, step_long, before_more, long_step_cut grammar form.dashes)

-- So `--` is only the stop: if the empty name resolved, it would be a long item, too.
-- the word of a name that resolves is longer than its dashes
resolved_word : (grammar : Grammar) → HasTextNames grammar → (dashes : Dashes) (name : Text) (argument : Option Text)
    (kind : HasArg) → grammar.kind name ≡ Some kind → long_word dashes name argument ≢ dash_text dashes
resolved_word grammar named dashes [] argument kind resolved = search rules
resolved_word grammar named one (c ∷ name) argument kind resolved = λ e. cc e
resolved_word grammar named two (c ∷ name) argument kind resolved = λ e. cc e

-- A flag is of kind `No`, and a last option isn't, so only one byte can be the last option.
-- flags precede the rest
pub cluster_flags : (grammar : Grammar) (before names : List ℕ) (text : Text) (more : List Text)
    → AllByRecursion (IsFlag grammar) names
    → cluster_step grammar before (names ++ text) more ≡ cluster_step grammar (before ++ names) text more
unfolding cluster_step
cluster_flags grammar before [] text more each = rw (append-nil before) refl
cluster_flags grammar before (byte ∷ names) text more each =
    search (rules, append_assoc, cluster_flags grammar (before ++ byte ∷ []) names text more each.1)

-- the step of a word in short form, after its flags
pub short_step_flags : (grammar : Grammar) (word : Text) (names : List ℕ) (text : Text) (more : List Text)
    → IsShortForm grammar word (names ++ text) → AllByRecursion (IsFlag grammar) names
    → step grammar word more ≡ cluster_step grammar names text more
short_step_flags grammar word names text more form each =
    cc (step_short grammar word (names ++ text) more form, cluster_flags grammar [] names text more each)

-- the step of a word in short form, at a byte after its flags
pub short_step_byte : (grammar : Grammar) (word : Text) (names : List ℕ) (byte : ℕ) (text : Text)
    (more : List Text) (kind : Option HasArg) → IsShortForm grammar word (names ++ byte ∷ text)
    → AllByRecursion (IsFlag grammar) names → grammar.kind (byte ∷ []) ≡ kind
    → step grammar word more
    ≡ byte_step kind names byte text more (cluster_step grammar (names ++ byte ∷ []) text more)
unfolding cluster_step
short_step_byte grammar word names byte text more kind form each resolved =
    short_step_flags grammar word names (byte ∷ text) more form each ∙ rw resolved

-- the step of a line's first word takes this item, and these words follow it
abbrev pub TakesItem : Grammar → List Text → Item → List Text → Type 0
TakesItem grammar [] item others = ⊥
TakesItem grammar (word ∷ more) item others = (argument : Argument)
    × (step grammar word more ≡ takes item argument) × (more ≡ argument_words argument ++ others)

-- `FitsLong` leaves no choice: without `=`, only `Yes` takes the next word, and always does. If
-- `Maybe` could take it, `--color x` would have two readings.
-- an argument that fits in long form is chosen
long_chosen : (kind : HasArg) (name : Text) (argument : Argument) (more : List Text) → FitsLong kind argument
    → chosen_long kind name (attached_argument argument) (argument_words argument ++ more) ≡ Ok argument
long_chosen kind name argument more fits = search rules

-- Each condition excludes a second reading: of `-o x`, if an attached argument could be empty; of
-- `-c -v`, if a separate argument of `Maybe` could be dashed; of `-c x`, if a word that isn't
-- dashed could follow a bare cluster.
-- an argument that fits at the end of a cluster is chosen
end_chosen : (kind : HasArg) (name : Text) (argument : Argument) (more : List Text) → FitsEnd kind argument
    → (argument ≡ none → EndsOrIsDashed more)
    → chosen_end kind name (unwrap_or (attached_argument argument) []) (argument_words argument ++ more) ≡ Ok argument
end_chosen kind name argument more fits followed = search rules

-- a valid cluster's word is in short form
pub lawful_short : (grammar : Grammar) (names : List ℕ) (end : End) → IsLawfulCluster grammar names end
    → IsShortForm grammar (dash ∷ (names ++ end_text end)) (names ++ end_text end)
lawful_short grammar names end lawful = search (rules, append-nil, filled-append)

-- an option that isn't a flag, by its kind
pub byte_step-end : (kind : HasArg) (bytes : List ℕ) (byte : ℕ) (text : Text) (more : List Text)
    (after : Step) → kind ≢ No
    → byte_step (Some kind) bytes byte text more after
    ≡ chosen_step (λ a. cluster bytes (ends_in byte a)) (chosen_end kind (byte ∷ []) text more)
byte_step-end kind bytes byte text more after other = search rules

-- This is why readings are unique: a step is a function of the words, so only one valid item can
-- begin there.
-- the step of the words that a valid item spells takes this item, and leaves the words after it
pub spelled_step : (grammar : Grammar) → HasTextNames grammar → (item : Item) (more : List Text)
    → IsLawfulItem grammar item → (is_bare item ≡ true → EndsOrIsDashed more)
    → TakesItem grammar (spelled item more) item more
unfolding cluster_step
spelled_step grammar named (free word) more lawful followed = search (rules, step_free, free_step)
spelled_step grammar named (long dashes name argument) more lawful followed =
    let kind = lawful.resolves in
    let text = attached_argument argument in
    let word = resolved_word grammar named dashes name text kind.0 kind.1 in (
      argument,
      long_form_step grammar (long_word dashes name text) name text
          (argument_words argument ++ more) (Some kind.0)
          (search rules) kind.1 ∙ ap (chosen_step (λ a. long dashes name a))
          (long_chosen kind.0 name argument more kind.2),
      refl,
    )
spelled_step grammar named (cluster bytes flags) more lawful followed =
    search (
      rules,
      short_step_flags grammar (dash ∷ (bytes ++ [])) bytes [] more (lawful_short grammar bytes flags lawful) lawful.each,
    )
spelled_step grammar named (cluster bytes (ends_in option argument)) more lawful followed =
    let kind = lawful.last in
    let text = unwrap_or (attached_argument argument) [] in
    let others = argument_words argument ++ more in (
      argument,
      short_step_byte grammar (dash ∷ (bytes ++ option ∷ text)) bytes option text others
          (Some kind.0)
          (lawful_short grammar bytes (ends_in option argument) lawful) lawful.each kind.1
          ∙ byte_step-end kind.0 bytes option text others _
          (search rules)
          ∙ ap (chosen_step (λ a. cluster bytes (ends_in option a)))
          (end_chosen kind.0 (option ∷ []) argument more kind.2 (λ e. followed (rw e refl))),
      refl,
    )

-- ---- the step of an error

-- a wide character is unknown, by its first byte
pub wide_unknown : (grammar : Grammar) → HasTextNames grammar → (c byte : ℕ) (others text : Text)
    → byte ∷ others ≡ encode_utf8 c ++ text → 1 < length (encode_utf8 c) → grammar.kind (byte ∷ []) ≡ None
wide_unknown grammar named c byte others text e wide = search (rules, Texts.encode-ascii_byte)

-- a word with a wide character after its flags
wide_step : (grammar : Grammar) → HasTextNames grammar → (word : Text) (names : List ℕ) (c : ℕ) (text whole : Text)
    (more : List Text) → whole ≡ encode_utf8 c ++ text → IsScalar c → IsShortForm grammar word (names ++ whole)
    → AllByRecursion (IsFlag grammar) names → 1 < length (encode_utf8 c)
    → step grammar word more ≡ faults (unrecognized_option (encode_utf8 c))
wide_step grammar named word names c text [] more e scalar form each wide =
    absurd (omega (arith, ap length e, length-append (encode_utf8 c) text, length-encode c, len_utf8_bounds c))
wide_step grammar named word names c text (byte ∷ others) more e scalar form each wide =
    short_step_byte grammar word names byte others more None form each
    (wide_unknown grammar named c byte others text e wide)
    ∙ ap (λ (t : Text). faults (unrecognized_option t)) (rw e (Texts.first_char-append c text scalar))

-- a text that begins with a character isn't empty
filled-character : (bytes : List ℕ) (c : ℕ) (text : Text) → bytes ++ (encode_utf8 c ++ text) ≢ []
filled-character bytes c text nil = search (rules, length-append {A = ℕ}, length-encode c, len_utf8_bounds c)

-- a word with a text after flags is in short form
pub short_of : (grammar : Grammar) (word text : Text) (has : HasAfterFlags grammar word text)
    → has.bytes ++ text ≢ [] → IsShortForm grammar word (has.bytes ++ text)
short_of grammar word text has filled = search rules

-- a text that begins with a byte of ASCII begins with that character
pub first_byte : (byte : ℕ) (text : Text) → byte < 128 → first_char (byte ∷ text) ≡ byte ∷ []
first_byte byte text ascii =
    let encoded = encode_ascii byte ascii in
    let whole : encode_utf8 byte ++ text ≡ byte ∷ text = ap (λ (t : Text). t ++ text) encoded in
    ap first_char (sym whole) ∙ Texts.first_char-append byte text (low_scalar byte (omega arith)) ∙ encoded

-- a word with an error
pub fault_step : (grammar : Grammar) → HasTextNames grammar → (word : Text) (more : List Text) (fault : Fault)
    → IsFaultAt grammar word more fault → step grammar word more ≡ faults fault
fault_step grammar named word more fault (unknown_name name argument form unknown) =
    long_form_step grammar word name argument more None form unknown
fault_step grammar named word more fault (unknown_byte byte text ascii has unknown) =
    let form = short_of grammar word _ has (filled-append has.bytes byte text) in
    short_step_byte grammar word has.bytes byte text more None form has.each unknown
    ∙ ap (λ (t : Text). faults (unrecognized_option t)) (first_byte byte text ascii)
fault_step grammar named word more fault (wide_character character text scalar wide has) =
    let form = short_of grammar word _ has (filled-character has.bytes character text) in
    wide_step grammar named word has.bytes character text _ more refl scalar form has.each wide
fault_step grammar named word more fault (unwanted_argument name argument form kind) =
    long_form_step grammar word name (Some argument) more (Some No) form kind
fault_step grammar named word more fault (long_unfinished name form kind ended) =
    rw ended (long_form_step grammar word name None [] (Some Yes) form kind)
fault_step grammar named word more fault (short_unfinished option has kind ended) =
    rw ended (short_step_byte grammar word has.bytes option [] [] (Some Yes)
    (short_of grammar word _ has (filled-append has.bytes option [])) has.each kind)

-- a word with an error is dashed
pub faults_dashed : (grammar : Grammar) (word : Text) (more : List Text) (fault : Fault)
    → step grammar word more ≡ faults fault → is_dashed word ≡ true
faults_dashed grammar word more fault is = search (rules, true_from_ne_false, step_free, free_step)
