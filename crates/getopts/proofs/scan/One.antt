-- A line that is read one option or free word at a time: a name in long form, a name of a cluster,
-- and a free word.
use Rattle.std.proofs.Common.{inl, inr, Err, ◌≡◌, ◌≢◌, ◌+◌, ◌-◌, ◌<◌, ◌≤◌, ℕ, List, [], ◌∷◌, ◌++◌, length, rules}
use Rattle.std.proofs.Common.{drop, refl, ◌∙◌, ap, sym, Option, Some, None, arith, ◌==◌, ◌&&◌, not, true, map}
use Rattle.std.proofs.Common.{append_assoc, Result, Ok, slice_index, slice_range}
use Rattle.std.proofs.lemmas.Bool.{and_parts, cases_Bool}
use Rattle.std.specs.Prelude.{⊤}
use Rattle.std.proofs.lemmas.List.{append-nil, map-append}
use Rattle.std.proofs.Math.Seq.{drop-append_seam}
use Rattle.std.proofs.Permutation.{every_append}
use Rattle.getopts.specs.Names.{Text}
use Rattle.getopts.specs.Options.{Declared, Grammar, grammar_of}
use Rattle.getopts.specs.Fail.{Fault}
use Rattle.getopts.specs.Reading as Spec
use Rattle.getopts.specs.Reader.{Left, Next, next_by_step, next_free, next_name, next_option, next_word, size_of}
use Rattle.getopts.specs.Reader.{words_size}
use Rattle.getopts.specs.Parse.{IsDeclared}
use Rattle.getopts.specs.Step.{Step, ends, takes, faults, byte_step, chosen_step, cluster_step, chosen_end}
use Rattle.getopts.specs.Step.{first_char, IsShortForm}
use Rattle.getopts.specs.Scan.{AreBeforeWords, AreBefore, HasOneMore, GivesOne, between_words, within_word, words_left}
use Rattle.getopts.specs.declared.kinds.HasArg.{HasArg}
use Rattle.getopts.specs.declared.kinds.HasArg.TheVariants.{Maybe, No, Yes}
use Rattle.getopts.proofs.Lists.{filled-append}
use Rattle.getopts.proofs.Reading.Reader.{HasTextNames, step, read}
use Rattle.getopts.proofs.Reading.Readings.{reading_read, read_step, items_read, spelled_all-joined}
use Rattle.getopts.proofs.Reading.Positions.{order_of_items-append, occurrences_after-append, length-spelled_all}
use Rattle.getopts.proofs.Reading.Positions.{options_in-append, options_in-options, options_in-given_by}
use Rattle.getopts.proofs.Reading.Steps as Steps
use Rattle.getopts.proofs.canon.Lines.{FitsKind-long}
use Rattle.std.proofs.lemmas.Grind.{common_steps}

-- words, and those that are left after an argument
words_size-left : (words left : List Text) → words_size left ≤ words_size (words ++ left)
words_size-left [] left = omega arith
words_size-left (word ∷ words) left = omega (arith, words_size-left words left)

-- names that aren't empty are the first one and the others
pub names_are : (names : Text) → names ≢ [] → names ≡ slice_index names 0 ∷ drop 1 names
names_are [] filled = absurd (filled refl)
names_are (byte ∷ rest) filled = refl

-- a first byte of ASCII is the first character
pub name_first : (names : Text) → names ≢ [] → slice_index names 0 < 128 → first_char names ≡ slice_index names 0 ∷ []
name_first names filled ascii = grind (arith, common_steps, Steps.first_byte)

-- names of no length
pub empty_names : (names : Text) → (length names == 0) ≡ true → names ≡ []
empty_names names empty = grind (arith, common_steps)

-- names that aren't empty have a first one
pub names_length : (names : Text) → names ≢ [] → 0 < length names
names_length names filled = grind (arith, common_steps)

-- the first byte of a text, as a text
pub first_name : (names : Text) → names ≢ [] → slice_range names 0 1 ≡ slice_index names 0 ∷ []
first_name names filled = search rules

-- items that are well followed still are with one more item
followed-item : (items : List Spec.Item) (item : Spec.Item) (left : List Text)
    → Spec.AreWellFollowed items (Spec.item_words item ++ left)
    → (Spec.is_bare item ≡ true → Spec.EndsOrIsDashed left) → Spec.AreWellFollowed (items ++ item ∷ []) left
followed-item [] item left followed end = (end, tt)
followed-item (first ∷ items) item left followed end =
    search (rules, spelled_all-joined items (item ∷ []) left, followed-item items item left followed.1 end)

-- one more item
pub AreBeforeWords-item : {grammar : Grammar} {line : List Text} {items : List Spec.Item} {words : List Text} (item : Spec.Item)
    (left : List Text) → AreBeforeWords grammar line items words → Steps.BeginsWith grammar words item left
    → AreBeforeWords grammar line (items ++ item ∷ []) left
AreBeforeWords-item {grammar} {line} {items} item left read_to begins =
    search (rules, spelled_all-joined, every_append, followed-item)

-- between words, no word is half read
pub AreBeforeWords-between : {grammar : Grammar} {line : List Text} {items : List Spec.Item} {names : Text}
    {words : List Text} → names ≡ [] → AreBefore grammar line items names words → AreBeforeWords grammar line items words
AreBeforeWords-between empty read_to = search rules

-- items that were read, and then a valid tail, are the reading of the line
pub read-tail : {grammar : Grammar} → HasTextNames grammar → {line : List Text} {items : List Spec.Item} {names : Text}
    {words : List Text} (tail : Spec.Tail) → Spec.IsLawfulTail grammar tail → names ≡ [] → words ≡ Spec.tail_words tail
    → AreBefore grammar line items names words → read grammar line ≡ Ok (record { items = items; tail = tail })
read-tail {grammar} named {line} {items} {names} {words} tail lawful none words_are read_to =
    let before = AreBeforeWords-between none read_to in
    reading_read grammar named (record { items = items; tail = tail }) line (search rules)

-- one option or free word more, from an item in place of one that gave less
HasOneMore-item : {grammar : Grammar} {line : List Text} {before items : List Spec.Item} {word : Text}
    {words left : List Text} {names : Text} {position : ℕ} {given : Spec.Given} (item : Spec.Item)
    (part : List Spec.Given) → AreBeforeWords grammar line before (word ∷ words)
    → position ≡ length line - (1 + length words) → Spec.given_by grammar item ≡ part ++ given ∷ []
    → Spec.order_of_items grammar items ≡ Spec.order_of_items grammar before ++ part
    → Spec.occurrences_after 0 grammar items ≡ Spec.occurrences_after 0 grammar before
    ++ map (Spec.at_position (Spec.word_count before)) (Spec.options_in part)
    → AreBefore grammar line (before ++ item ∷ []) names left
    → HasOneMore grammar line items position given names left
HasOneMore-item {grammar} {line} {before} {items} {word} {words} {position = position} {given = given} item part read_to
    position_is gives order occurrences longer =
    let here : position ≡ Spec.word_count before =
    omega (arith, ap length read_to.spells, length-spelled_all before (word ∷ words)) in
    let mentions : Spec.mentions grammar item ≡ Spec.options_in part ++ Spec.options_in (given ∷ []) =
    sym (options_in-given_by grammar item) ∙ ap Spec.options_in gives ∙ options_in-append part (given ∷ []) in record {
      all = before ++ item ∷ [];
      read = longer;
      order = search (rules, order_of_items-append, append_assoc);
      occurrences = search (rules, occurrences_after-append grammar before (item ∷ []) 0, map-append, append_assoc);
    }

-- These names are left in the word after some items, perhaps after flags. The items and the flags
-- gave what these items give.
record IsInWord (grammar : Grammar) (line : List Text) (items : List Spec.Item) (names : Text) (words : List Text)
    : Type 0 where
  before : List Spec.Item
  word : Text
  has : Spec.HasAfterFlags grammar word names
  read_to : AreBeforeWords grammar line before (word ∷ words)
  order : Spec.order_of_items grammar items ≡ Spec.order_of_items grammar before
      ++ Spec.given_by grammar (Spec.cluster has.bytes Spec.flags)
  occurrences : Spec.occurrences_after 0 grammar items ≡ Spec.occurrences_after 0 grammar before
      ++ map (Spec.at_position (Spec.word_count before))
      (Spec.options_in (Spec.given_by grammar (Spec.cluster has.bytes Spec.flags)))

module _ {grammar : Grammar} {line words : List Text} {items : List Spec.Item} {names : Text} where
  -- after a flag
  IsInWord-within : names ≢ [] → AreBefore grammar line items names words → IsInWord grammar line items names words
  IsInWord-within filled (between_words none read_to) = absurd (filled none)
  IsInWord-within filled (within_word before word other has begun items_are read_to) = record {
    before = before;
    word = word;
    has = has;
    read_to = read_to;
    order = search (rules, order_of_items-append);
    occurrences = search (rules, occurrences_after-append, options_in-options);
  }

  -- when a cluster begins
  IsInWord-begins : {word : Text} → IsShortForm grammar word names → AreBefore grammar line items [] (word ∷ words)
      → IsInWord grammar line items names words
  IsInWord-begins {word} form read_to = record {
    before = items;
    word = word;
    has = record { bytes = []; ordinary = form.ordinary; word_is = form.word_is; second = form.second; each = tt };
    read_to = AreBeforeWords-between refl read_to;
    order = sym (append-nil _);
    occurrences = sym (append-nil _);
  }

-- the step of a word at a name after its flags
step-inside : {grammar : Grammar} {word : Text} {byte : ℕ} {names : Text} (more : List Text)
    (has : Spec.HasAfterFlags grammar word (byte ∷ names)) (kind : Option HasArg) → grammar.kind (byte ∷ []) ≡ kind
    → step grammar word more ≡ byte_step kind has.bytes byte names more (cluster_step grammar (has.bytes ++ byte ∷ []) names more)
step-inside {grammar} {word} {byte} {names} more has kind is =
    Steps.short_step_byte grammar word has.bytes byte names more kind
    (Steps.short_of grammar word (byte ∷ names) has (filled-append has.bytes byte names)) has.each is

-- A line, and its words after the one that is being read.
module _ {grammar : Grammar} (named : HasTextNames grammar) (line words : List Text) where
  -- one more item
  AreBefore-item : {before : List Spec.Item} {word : Text} (item : Spec.Item) (argument : Spec.Argument)
      {left : List Text} → AreBeforeWords grammar line before (word ∷ words) → step grammar word words ≡ takes item argument
      → words ≡ Spec.argument_words argument ++ left → AreBefore grammar line (before ++ item ∷ []) [] left
  AreBefore-item {word = word} item argument {left} read_to is after_is =
      let sound = rw is at (Steps.step_sound grammar named word words) in
      let same : sound.0 ≡ left = search (
        rules,
        drop-append_seam (Spec.argument_words argument) sound.0,
        drop-append_seam (Spec.argument_words argument) left,
      ) in
      between_words refl (AreBeforeWords-item item left read_to (rw same at sound.2))

  module _ {position : ℕ} (here : position ≡ length line - (1 + length words)) {items : List Spec.Item} where
    -- a word that gives one option or free word
    HasOneMore-word : (word : Text) (item : Spec.Item) {given : Spec.Given} {left : List Text}
        → Steps.BeginsWith grammar (word ∷ words) item left → Spec.given_by grammar item ≡ given ∷ []
        → AreBefore grammar line items [] (word ∷ words) → HasOneMore grammar line items position given [] left
    HasOneMore-word word item {left = left} begins gives read_to =
        let read = AreBeforeWords-between refl read_to in
        HasOneMore-item item [] read here gives (sym (append-nil _)) (sym (append-nil _))
        (between_words refl (AreBeforeWords-item item left read begins))

    -- a flag in a cluster
    HasOneMore-flag : (byte : ℕ) (names : Text) → Spec.IsFlag grammar byte
        → IsInWord grammar line items (byte ∷ names) words → HasOneMore grammar line items position
        (Spec.given_option (Spec.mention_of grammar (byte ∷ []) None)) names words
    unfolding cluster_step
    HasOneMore-flag byte names flag inside =
        HasOneMore-item (Spec.cluster (inside.has.bytes ++ byte ∷ []) Spec.flags)
        (Spec.given_by grammar (Spec.cluster inside.has.bytes Spec.flags)) inside.read_to here
        (search (rules, map-append)) inside.order inside.occurrences (more names inside.has) where
          more : (names : Text) (has : Spec.HasAfterFlags grammar inside.word (byte ∷ names)) → AreBefore grammar line
              (inside.before ++ Spec.cluster (has.bytes ++ byte ∷ []) Spec.flags ∷ []) names words
          more [] has =
              let form = Steps.short_of grammar inside.word (byte ∷ []) has (filled-append has.bytes byte []) in
              AreBefore-item (Spec.cluster (has.bytes ++ byte ∷ []) Spec.flags) Spec.none inside.read_to
              (Steps.short_step_byte grammar inside.word has.bytes byte [] words (Some No) form has.each flag) refl
          more (c ∷ names) has = within_word inside.before inside.word (λ e. cc e) (search (
            rules,
            append_assoc,
            every_append (Spec.IsFlag grammar) has.bytes (byte ∷ []) has.each (flag, tt),
          )) (filled-append has.bytes byte []) refl inside.read_to

    -- the last option in a cluster
    HasOneMore-last : (byte : ℕ) (text : Text) (kind : HasArg) (argument : Spec.Argument) {left : List Text}
        → grammar.kind (byte ∷ []) ≡ Some kind → kind ≢ No → chosen_end kind (byte ∷ []) text words ≡ Ok argument
        → words ≡ Spec.argument_words argument ++ left → IsInWord grammar line items (byte ∷ text) words
        → HasOneMore grammar line items position
        (Spec.given_option (Spec.mention_of grammar (byte ∷ []) (Spec.value_of argument))) [] left
    HasOneMore-last byte text kind argument kind_is other chosen_is after_is inside =
        let item = Spec.cluster inside.has.bytes (Spec.ends_in byte argument) in
        HasOneMore-item item (Spec.given_by grammar (Spec.cluster inside.has.bytes Spec.flags)) inside.read_to here
        (search (rules, map-append)) inside.order inside.occurrences
        (AreBefore-item item argument inside.read_to
        (step-inside words inside.has (Some kind) kind_is ∙ Steps.byte_step-end kind inside.has.bytes byte text words _ other
        ∙ ap (chosen_step (λ a. Spec.cluster inside.has.bytes (Spec.ends_in byte a))) chosen_is) after_is)

-- ---- what is next

-- the error of a word is that of the whole line
line_fault : {grammar : Grammar} → HasTextNames grammar → {line : List Text} {items : List Spec.Item} {word : Text}
    (words : List Text) {fault : Fault} → AreBeforeWords grammar line items (word ∷ words)
    → step grammar word words ≡ faults fault → read grammar line ≡ Err fault
line_fault named words read_to is = search (rules, items_read, read_step)

-- the argument that ends a cluster fits its option, and precedes the words that are left
end_chosen : (kind : HasArg) (name text : Text) (words : List Text) (argument : Spec.Argument) → kind ≢ No
    → chosen_end kind name text words ≡ Ok argument → Spec.FitsKind kind (Spec.value_of argument)
    × (words ≡ Spec.argument_words argument ++ drop (length (Spec.argument_words argument)) words)
end_chosen kind name text words argument other is = search rules

-- This is next of these names and words: the error of each line of which they are left, a tail, or
-- an option or free word, which is declared.
pub data IsNext (options : Declared) (names : Text) (words : List Text) (frees : Option (List Text)) (result : Next) : Type 0 where
  is_error : {fault : Fault} → result ≡ Err fault → ((line : List Text) (items : List Spec.Item)
      → AreBefore (grammar_of options) line items names words → read (grammar_of options) line ≡ Err fault)
      → IsNext options names words frees result
  is_tail : (tail : Spec.Tail) → result ≡ next_free (Spec.tail_frees tail) → names ≡ []
      → Spec.IsLawfulTail (grammar_of options) tail → words ≡ Spec.tail_words tail → IsNext options names words frees result
  is_one : {given : Spec.Given} {names_left : Text} {left : List Text}
      → result ≡ Ok (Some (given, record { names = names_left; words = left; free_words = frees }))
      → GivesOne (grammar_of options) names words names_left left given → IsDeclared options.groups given
      → IsNext options names words frees result

module _ (options : Declared) (named : HasTextNames (grammar_of options)) (frees : Option (List Text)) where
  abbrev grammar : Grammar
  grammar = grammar_of options

  -- the option that a name means
  declared-name : (name : Text) (value : Option Text) (kind : HasArg) → grammar.kind name ≡ Some kind → Spec.FitsKind kind value
      → IsDeclared options.groups (Spec.given_option (Spec.mention_of grammar name value))
  declared-name name value kind is fits = grind (arith, common_steps)

  -- A name of a cluster.
  module _ (byte : ℕ) (names : Text) (words : List Text) {names_old : Text} {words_old : List Text}
      (inside : (line : List Text) (items : List Spec.Item) → AreBefore grammar line items names_old words_old
      → IsInWord grammar line items (byte ∷ names) words) (begins : words_left names_old words_old ≡ 1 + length words)
      (less : 1 + length names + words_size words ≤ length names_old + words_size words_old) where
    IsNext-last : (kind : HasArg) → kind ≢ No → grammar.kind (byte ∷ []) ≡ Some kind → (chosen : Result Spec.Argument Fault)
        → chosen_end kind (byte ∷ []) names words ≡ chosen → IsNext options names_old words_old frees
        (next_by_step grammar (record { names = []; words = words; free_words = frees })
        (chosen_step (λ a. Spec.cluster [] (Spec.ends_in byte a)) chosen))
    IsNext-last kind other is (Err fault) chosen_is = is_error refl (λ line items read_to.
        let here = inside line items read_to in
        line_fault named words here.read_to (step-inside words here.has (Some kind) is
        ∙ Steps.byte_step-end kind here.has.bytes byte names words _ other
        ∙ ap (chosen_step (λ a. Spec.cluster here.has.bytes (Spec.ends_in byte a))) chosen_is))
    IsNext-last kind other is (Ok argument) chosen_is =
        let fits = end_chosen kind (byte ∷ []) names words argument other chosen_is in
        is_one refl (record {
          reads = λ line items read_to. HasOneMore-last named line words (rw begins refl) byte names kind argument is
              other chosen_is fits.1 (inside line items read_to);
          less = omega (
            arith,
            less,
            ap words_size fits.1,
            words_size-left (Spec.argument_words argument)
                (drop (length (Spec.argument_words argument)) words),
          );
        }) (declared-name (byte ∷ []) (Spec.value_of argument) kind is fits.0)

    IsNext-name : (kind : Option HasArg) → grammar.kind (byte ∷ []) ≡ kind → IsNext options names_old words_old frees
        (next_name kind grammar byte (record { names = names; words = words; free_words = frees }))
    IsNext-name None is = is_error refl (λ line items read_to.
        let here = inside line items read_to in line_fault named words here.read_to (step-inside words here.has None is))
    IsNext-name (Some No) is = is_one refl (record {
      reads = λ line items read_to. HasOneMore-flag named line words (rw begins refl) byte names is (inside line items read_to);
      less = omega (arith, less);
    }) (declared-name (byte ∷ []) None No is tt)
    IsNext-name (Some Yes) is = IsNext-last Yes (λ e. cc e) is (chosen_end Yes (byte ∷ []) names words) refl
    IsNext-name (Some Maybe) is = IsNext-last Maybe (λ e. cc e) is (chosen_end Maybe (byte ∷ []) names words) refl

  -- A word that isn't in short form.
  module _ (word : Text) (words : List Text) (plain : (names : Text) → IsShortForm grammar word names → ⊥) where
    IsNext-given : (item : Spec.Item) (argument : Spec.Argument) (left : List Text) → words ≡ Spec.argument_words argument ++ left
        → Steps.BeginsWith grammar (word ∷ words) item left → (given : Spec.Given) → Spec.given_by grammar item ≡ given ∷ []
        → IsDeclared options.groups given → IsNext options [] (word ∷ words) frees
        (next_by_step grammar (record { names = []; words = words; free_words = frees }) (takes item argument))
    IsNext-given item argument left after_is begins given gives declared =
        is_one (rw (gives, after_is, drop-append_seam (Spec.argument_words argument) left) refl) (record {
          reads = λ line items read_to. HasOneMore-word named line words (omega arith) word item begins gives read_to;
          less = omega (arith, ap words_size after_is, words_size-left (Spec.argument_words argument) left);
        }) declared

    IsNext-item : (item : Spec.Item) (argument : Spec.Argument) (left : List Text) → words ≡ Spec.argument_words argument ++ left
        → Steps.BeginsWith grammar (word ∷ words) item left → IsNext options [] (word ∷ words) frees
        (next_by_step grammar (record { names = []; words = words; free_words = frees }) (takes item argument))
    IsNext-item (Spec.cluster bytes end) argument left after_is begins =
        let same : word ≡ Spec.dash ∷ (bytes ++ Spec.end_text end) = cc begins.spells in
        absurd (plain (bytes ++ Spec.end_text end) (rw same (Steps.lawful_short grammar bytes end begins.lawful)))
    IsNext-item (Spec.free free) argument left after_is begins =
        IsNext-given (Spec.free free) argument left after_is begins (Spec.free_word free) refl tt
    IsNext-item (Spec.long dashes name value) argument left after_is begins =
        let resolves = begins.lawful.resolves in
        IsNext-given (Spec.long dashes name value) argument left after_is begins _ refl
        (declared-name name (Spec.value_of value) resolves.0 resolves.1 (FitsKind-long resolves.0 value resolves.2))

    IsNext-step : (taken : Step) → step grammar word words ≡ taken → IsNext options [] (word ∷ words) frees
        (next_by_step grammar (record { names = []; words = words; free_words = frees }) taken)
    IsNext-step (ends tail) is =
        let sound = rw is at (Steps.step_sound grammar named word words) in is_tail tail refl refl sound.0 (sym sound.1)
    IsNext-step (faults fault) is = is_error refl (λ line items read_to. line_fault named words (AreBeforeWords-between refl read_to) is)
    IsNext-step (takes item argument) is =
        let sound = rw is at (Steps.step_sound grammar named word words) in
        IsNext-item item argument sound.0 sound.1 sound.2

  IsNext-word : (word : Text) (words : List Text) → IsNext options [] (word ∷ words) frees
      (next_word grammar word (record { names = []; words = words; free_words = frees }))
  IsNext-word [] words = IsNext-step [] words (λ names form. cc form.word_is) (step grammar [] words) refl
  IsNext-word (first ∷ []) words = IsNext-step (first ∷ []) words (λ names form. form.filled (cc form.word_is)) (step grammar (first ∷ []) words) refl
  IsNext-word (first ∷ second ∷ names) words =
      elim (cases_Bool ((first == Spec.dash) && (not (second == Spec.dash) && not options.long_only))) [
        | inr long ↦ rw long (IsNext-step (first ∷ second ∷ names) words (λ text form. search rules) (step grammar (first ∷ second ∷ names) words) refl)
        | inl short ↦
            let form : IsShortForm grammar (first ∷ second ∷ names) (second ∷ names) = search (rules, and_parts) in
            rw short (IsNext-name second names words (λ line items. IsInWord-begins form) (omega arith) (omega arith)
            (grammar.kind (second ∷ [])) refl)
      ]

  pub next : (names : Text) (words : List Text) → IsNext options names words frees (next_option grammar names words frees)
  next [] [] = is_tail Spec.no_tail refl refl tt refl
  next [] (word ∷ words) = IsNext-word word words
  next (byte ∷ names) words = IsNext-name byte names words (λ line items. IsInWord-within (λ e. cc e)) refl (omega arith)
      (grammar.kind (byte ∷ [])) refl

-- What is next is declared, and leaves less. Before the free words that end a line, it is one option
-- or free word more of each line of which this is left, and an error is the error of each.
abbrev pub Says : Declared → Left → Next → Type 0
Says options left (Err fault) = (line : List Text) (items : List Spec.Item)
    → AreBefore (grammar_of options) line items left.names left.words → read (grammar_of options) line ≡ Err fault
Says options left (Ok None) = ⊤
Says options left (Ok (Some (given, after))) = IsDeclared options.groups given × (size_of after < size_of left)
    × (after.free_words ≡ None → GivesOne (grammar_of options) left.names left.words after.names after.words given)

pub frees_say : (options : Declared) (left : Left) (tail : Spec.Tail) → left.words ≡ Spec.tail_words tail
    → Says options left (next_free (Spec.tail_frees tail))
frees_say options left tail is = search rules

pub said : (options : Declared) → HasTextNames (grammar_of options) → (left : Left) {result : Next}
    → next_option (grammar_of options) left.names left.words left.free_words ≡ result → Says options left result
said options named left is = elim (next options named left.free_words left.names left.words) [
  | is_error told fails ↦ rw (sym is ∙ told) fails
  | is_tail tail told none lawful words_are ↦ rw (sym is ∙ told) (frees_say options left tail words_are)
  | is_one told reads declared ↦ rw (sym is ∙ told) (declared, reads.less, λ among. reads)
]
