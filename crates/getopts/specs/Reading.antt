-- How words are read: items and their spelling, readings, what a reading gives, and the errors of
-- words without a reading.
use Rattle.std.specs.Prelude.{◌≡◌, ◌≢◌, ◌==◌, ⊤, ℕ, ◌+◌, ◌<◌, Bool, true, false, List, [], ◌∷◌}
use Rattle.std.specs.Prelude.{◌++◌, length, map, Option, Some, None, encode_utf8}
use Rattle.std.specs.Char.{IsScalar}
use Rattle.std.specs.List.{AllByRecursion, list_any}
use Rattle.std.specs.Option.{option_map_or, unwrap_or}
use Rattle.getopts.specs.Names.{Text}
use Rattle.getopts.specs.Options.{Grammar}
use Rattle.getopts.specs.Fail.{Fault, argument_missing, unrecognized_option, unexpected_argument}
use Rattle.getopts.specs.declared.kinds.HasArg.{HasArg}
use Rattle.getopts.specs.declared.kinds.HasArg.TheVariants.{Yes, No, Maybe}
use Rattle.getopts.specs.declared.kinds.ParsingStyle.TheVariants.{FloatingFrees, StopAtFirstFree}

abbrev pub dash : ℕ
dash = 45

abbrev pub equals_sign : ℕ
equals_sign = 61

abbrev pub is_dashed : Text → Bool
is_dashed (c ∷ d ∷ more) = c == dash
is_dashed text = false

abbrev pub begins_with_dash : Text → Bool
begins_with_dash [] = false
begins_with_dash (c ∷ more) = c == dash

abbrev pub holds_equals : Text → Bool
holds_equals text = list_any (λ c. c == equals_sign) text

abbrev pub stop_word : Text
stop_word = dash ∷ dash ∷ []

-- the argument of an option: attached in the same word, or separate as the next word
pub data Argument : Type 0 where
  none : Argument
  attached : Text → Argument
  separate : Text → Argument

-- the dashes before a name in long form
pub data Dashes : Type 0 where
  one : Dashes
  two : Dashes

-- how a cluster ends: after its flags, or in an option that may have an argument
pub data End : Type 0 where
  flags : End
  ends_in : ℕ → Argument → End

-- an item of a command line; a cluster has flags of one byte each, and an end
pub data Item : Type 0 where
  free : Text → Item
  long : Dashes → Text → Argument → Item
  cluster : List ℕ → End → Item

abbrev pub dash_text : Dashes → Text
dash_text one = dash ∷ []
dash_text two = dash ∷ dash ∷ []

abbrev pub long_word : Dashes → Text → Option Text → Text
long_word dashes name argument =
    dash_text dashes ++ (name ++ option_map_or (λ text. equals_sign ∷ text) argument [])

abbrev pub attached_argument : Argument → Option Text
attached_argument (attached argument) = Some argument
attached_argument argument = None

abbrev pub value_of : Argument → Option Text
value_of none = None
value_of (attached argument) = Some argument
value_of (separate word) = Some word

-- what the end adds to the cluster's word
abbrev pub end_text : End → Text
end_text flags = []
end_text (ends_in option argument) = option ∷ unwrap_or (attached_argument argument) []

-- the words that an argument adds after the word of its option
abbrev pub argument_words : Argument → List Text
argument_words (separate word) = word ∷ []
argument_words argument = []

-- the words that the end adds after the cluster's word
abbrev pub end_words : End → List Text
end_words flags = []
end_words (ends_in option argument) = argument_words argument

abbrev pub item_words : Item → List Text
item_words (free word) = word ∷ []
item_words (long dashes name argument) =
    long_word dashes name (attached_argument argument) ∷ argument_words argument
item_words (cluster bytes end) = (dash ∷ (bytes ++ end_text end)) ∷ end_words end

-- the words that items spell, followed by these words
abbrev pub spelled_all : List Item → List Text → List Text
spelled_all [] more = more
spelled_all (item ∷ items) more = item_words item ++ spelled_all items more

-- These dashes may precede this name. The first argument is whether the mode is long-only.
abbrev pub MayPrecede : Bool → Dashes → Text → Type 0
MayPrecede long_only one name = (long_only ≡ true) × (begins_with_dash name ≡ false)
MayPrecede long_only two name = ⊤

-- The value fits the kind: there is none for `No`, one for `Yes`, and at most one for `Maybe`.
abbrev pub FitsKind : HasArg → Option Text → Type 0
FitsKind No (Some value) = ⊥
FitsKind Yes None = ⊥
FitsKind kind value = ⊤

-- The argument fits the kind in long form: its value does, and for `Maybe` it isn't separate.
abbrev pub FitsLong : HasArg → Argument → Type 0
FitsLong Maybe (separate word) = ⊥
FitsLong kind argument = FitsKind kind (value_of argument)

-- The argument fits the kind at the end of a cluster.
abbrev pub FitsEnd : HasArg → Argument → Type 0
FitsEnd kind none = kind ≡ Maybe
FitsEnd kind (attached argument) = (kind ≢ No) × (argument ≢ [])
FitsEnd kind (separate word) = (kind ≢ No) × (kind ≡ Maybe → is_dashed word ≡ false)

-- The name is a flag: one byte that resolves to a group of kind `No`.
abbrev pub IsFlag : Grammar → ℕ → Type 0
IsFlag grammar name = grammar.kind (name ∷ []) ≡ Some No

-- The end is valid in a cluster with these flags.
abbrev pub IsLawfulEnd : Grammar → List ℕ → End → Type 0
IsLawfulEnd grammar bytes flags = bytes ≢ []
IsLawfulEnd grammar bytes (ends_in option argument) = (kind : HasArg)
    × (grammar.kind (option ∷ []) ≡ Some kind)
    × FitsEnd kind argument

-- The long item is valid.
pub record IsLawfulLong (grammar : Grammar) (dashes : Dashes) (name : Text) (argument : Argument)
    : Type 0 where
  pub before : MayPrecede grammar.long_only dashes name
  pub cut_once : holds_equals name ≡ false
  pub resolves : (kind : HasArg) × (grammar.kind name ≡ Some kind) × FitsLong kind argument

-- The cluster is valid.
pub record IsLawfulCluster (grammar : Grammar) (bytes : List ℕ) (end : End) : Type 0 where
  pub ordinary : grammar.long_only ≡ false
  pub short_form : begins_with_dash (bytes ++ end_text end) ≡ false
  pub each : AllByRecursion (IsFlag grammar) bytes
  pub last : IsLawfulEnd grammar bytes end

-- The item is valid.
abbrev pub IsLawfulItem : Grammar → Item → Type 0
IsLawfulItem grammar (free word) = (is_dashed word ≡ false) × (grammar.style ≡ FloatingFrees)
IsLawfulItem grammar (long dashes name argument) = IsLawfulLong grammar dashes name argument
IsLawfulItem grammar (cluster bytes end) = IsLawfulCluster grammar bytes end

abbrev pub is_bare : Item → Bool
is_bare (cluster bytes (ends_in option none)) = true
is_bare item = false

-- The command line ends, or its next word is dashed.
abbrev pub EndsOrIsDashed : List Text → Type 0
EndsOrIsDashed [] = ⊤
EndsOrIsDashed (word ∷ words) = is_dashed word ≡ true

-- After each bare cluster the command line ends, or its next word is dashed.
abbrev pub AreWellFollowed : List Item → List Text → Type 0
AreWellFollowed [] more = ⊤
AreWellFollowed (item ∷ items) more =
    (is_bare item ≡ true → EndsOrIsDashed (spelled_all items more)) × AreWellFollowed items more

-- what follows the items; the rest has all words from the first free word on
pub data Tail : Type 0 where
  no_tail : Tail
  stop : List Text → Tail
  rest : List Text → Tail

abbrev pub tail_frees : Tail → List Text
tail_frees no_tail = []
tail_frees (stop words) = words
tail_frees (rest words) = words

abbrev pub tail_words : Tail → List Text
tail_words (stop words) = stop_word ∷ words
tail_words tail = tail_frees tail

-- The tail is valid.
abbrev pub IsLawfulTail : Grammar → Tail → Type 0
IsLawfulTail grammar (rest []) = ⊥
IsLawfulTail grammar (rest (word ∷ words)) =
    (is_dashed word ≡ false) × (grammar.style ≡ StopAtFirstFree)
IsLawfulTail grammar tail = ⊤

-- one way to read a command line
pub record Reading : Type 0 where
  pub items : List Item
  pub tail : Tail

-- This is a reading of the words.
pub record IsReading (grammar : Grammar) (reading : Reading) (words : List Text) : Type 0 where
  pub spells : spelled_all reading.items (tail_words reading.tail) ≡ words
  pub items : AllByRecursion (IsLawfulItem grammar) reading.items
  pub tail : IsLawfulTail grammar reading.tail
  pub followed : AreWellFollowed reading.items (tail_words reading.tail)

-- a mention of an option, by its place among the groups
pub record Mention : Type 0 where
  pub place : ℕ
  pub value : Option Text

-- a mention of the option that a name means; in a valid item there is one, so the 0 isn't used
abbrev pub mention_of : Grammar → Text → Option Text → Mention
mention_of grammar name value =
    record { place = unwrap_or (grammar.place name) 0; value = value }

abbrev pub end_mentions : Grammar → End → List Mention
end_mentions grammar flags = []
end_mentions grammar (ends_in option argument) =
    mention_of grammar (option ∷ []) (value_of argument) ∷ []

abbrev pub mentions : Grammar → Item → List Mention
mentions grammar (free word) = []
mentions grammar (long dashes name argument) =
    mention_of grammar name (value_of argument) ∷ []
mentions grammar (cluster bytes end) =
    map (λ byte. mention_of grammar (byte ∷ []) None) bytes ++ end_mentions grammar end

-- a mention and its position, which is the index of the first word of its item
pub record Occurrence : Type 0 where
  pub mention : Mention
  pub position : ℕ

abbrev pub at_position : ℕ → Mention → Occurrence
at_position position m = record { mention = m; position = position }

abbrev pub word_count : List Item → ℕ
word_count items = length (spelled_all items [])

-- the occurrences of items that follow this many words
abbrev pub occurrences_after : ℕ → Grammar → List Item → List Occurrence
occurrences_after before grammar [] = []
occurrences_after before grammar (item ∷ items) =
    map (at_position before) (mentions grammar item)
    ++ occurrences_after (before + word_count (item ∷ [])) grammar items

abbrev pub occurrences_of : Grammar → Reading → List Occurrence
occurrences_of grammar reading = occurrences_after 0 grammar reading.items

abbrev pub free_items : List Item → List Text
free_items [] = []
free_items (free word ∷ items) = word ∷ free_items items
free_items (item ∷ items) = free_items items

abbrev pub free_words : Reading → List Text
free_words reading = free_items reading.items ++ tail_frees reading.tail

-- what a command line gives: an option, by its place, or a free word
pub data Given : Type 0 where
  option : ℕ → Option Text → Given
  free_word : Text → Given

abbrev pub given_option : Mention → Given
given_option m = option m.place m.value

abbrev pub given_by : Grammar → Item → List Given
given_by grammar (free word) = free_word word ∷ []
given_by grammar item = map given_option (mentions grammar item)

abbrev pub order_of_items : Grammar → List Item → List Given
order_of_items grammar [] = []
order_of_items grammar (item ∷ items) = given_by grammar item ++ order_of_items grammar items

-- the options and free words of a reading, in command-line order
abbrev pub order_of_reading : Grammar → Reading → List Given
order_of_reading grammar reading =
    order_of_items grammar reading.items ++ map free_word (tail_frees reading.tail)

abbrev pub options_in : List Given → List Mention
options_in [] = []
options_in (option place value ∷ order) =
    record { place = place; value = value } ∷ options_in order
options_in (free_word word ∷ order) = options_in order

abbrev pub frees_in : List Given → List Text
frees_in [] = []
frees_in (option place value ∷ order) = frees_in order
frees_in (free_word word ∷ order) = word ∷ frees_in order

-- the trailing start, if this many free words precede the tail
abbrev pub trailing_after : ℕ → Tail → Option ℕ
trailing_after before (stop (word ∷ words)) = Some before
trailing_after before tail = None

-- the number of free words before the stop, if any word follows it
abbrev pub trailing_start : Reading → Option ℕ
trailing_start reading = trailing_after (length (free_items reading.items)) reading.tail

-- The word is in long form, with this name and this attached argument.
pub record IsLongForm (grammar : Grammar) (word name : Text) (argument : Option Text) : Type 0 where
  pub dashes : Dashes
  pub before : MayPrecede grammar.long_only dashes name
  pub cut_once : holds_equals name ≡ false
  pub word_is : word ≡ long_word dashes name argument
  pub filled : word ≢ dash_text dashes

-- The word is in short form, with this text after its flags.
pub record HasAfterFlags (grammar : Grammar) (word text : Text) : Type 0 where
  pub bytes : List ℕ
  pub ordinary : grammar.long_only ≡ false
  pub word_is : word ≡ dash ∷ (bytes ++ text)
  pub second : begins_with_dash (bytes ++ text) ≡ false
  pub each : AllByRecursion (IsFlag grammar) bytes

-- The word has this error if these words follow it.
pub data IsFaultAt (grammar : Grammar) (word : Text) (after : List Text) : Fault → Type 0 where
  unknown_name : (name : Text) (argument : Option Text) → IsLongForm grammar word name argument
      → grammar.kind name ≡ None → IsFaultAt grammar word after (unrecognized_option name)
  unknown_byte : (byte : ℕ) (more : Text) → byte < 128 → HasAfterFlags grammar word (byte ∷ more)
      → grammar.kind (byte ∷ []) ≡ None
      → IsFaultAt grammar word after (unrecognized_option (byte ∷ []))
  -- in short form, after flags, a character of several bytes, which is never a short name
  wide_character : (character : ℕ) (more : Text) → IsScalar character
      → 1 < length (encode_utf8 character)
      → HasAfterFlags grammar word (encode_utf8 character ++ more)
      → IsFaultAt grammar word after (unrecognized_option (encode_utf8 character))
  unwanted_argument : (name argument : Text) → IsLongForm grammar word name (Some argument)
      → grammar.kind name ≡ Some No → IsFaultAt grammar word after (unexpected_argument name)
  -- in long form, an option of kind `Yes` without an argument at the end of the command line
  long_unfinished : (name : Text) → IsLongForm grammar word name None
      → grammar.kind name ≡ Some Yes → after ≡ []
      → IsFaultAt grammar word after (argument_missing name)
  -- in short form, after flags, a last option of kind `Yes` at the end of the command line
  short_unfinished : (option : ℕ) → HasAfterFlags grammar word (option ∷ [])
      → grammar.kind (option ∷ []) ≡ Some Yes → after ≡ []
      → IsFaultAt grammar word after (argument_missing (option ∷ []))

-- This is a scan error: the error of the first word that can't be read.
pub record IsScanFault (grammar : Grammar) (words : List Text) (fault : Fault) : Type 0 where
  pub before : List Text
  pub word : Text
  pub after : List Text
  pub items : List Item
  pub words_are : words ≡ before ++ word ∷ after
  pub reads : IsReading grammar (record { items = items; tail = no_tail }) before
  pub fault_at : IsFaultAt grammar word after fault
