-- What the functions of `scan` find in the words that they are given.
use Rattle.std.specs.Prelude.{◌≡◌, ◌≢◌, Bool, true, false, List, [], ◌∷◌, ◌++◌, length, map}
use Rattle.std.specs.Prelude.{Result, Ok, ℕ, ◌<◌, ◌+◌, ◌-◌, if◌then◌else◌}
use Rattle.std.specs.List.{AllByRecursion}
use Rattle.std.specs.Str.{bytes_eq}
use Rattle.std.specs.String.{string_bytes}
use Rattle.getopts.specs.Names.{Text}
use Rattle.getopts.specs.Options.{Declared, Grammar, MayBeDeclared, names_of, grammar_of}
use Rattle.getopts.specs.Stored.Table.{IsTableOf}
use Rattle.getopts.specs.Canon.{Content}
use Rattle.getopts.specs.Fail.{Fault}
use Rattle.getopts.specs.Reading.{Dashes, is_dashed, stop_word, Reading}
use Rattle.getopts.specs.Reading.{occurrences_of, free_words, trailing_start}
use Rattle.getopts.specs.Reading.{Occurrence, occurrences_after, Item, cluster, flags, Tail, no_tail, stop, rest}
use Rattle.getopts.specs.Reading.{IsLawfulItem, AreWellFollowed, HasAfterFlags, spelled_all}
use Rattle.getopts.specs.Reading.{Given, options_in, frees_in, order_of_items, at_position}
use Rattle.getopts.specs.Reader.{words_size}
use Rattle.getopts.specs.Results.{reading_or_error, accepted_reading}
use Rattle.getopts.specs.Step.{IsInLongForm, IsShortForm}
use Rattle.getopts.specs.declared.scan.Line.{Line}
use Rattle.getopts.specs.declared.scan.Scanner.{Scanner}
use Rattle.getopts.specs.declared.scan.Shape.{Shape}
use Rattle.getopts.specs.declared.scan.Shape.TheVariants as shape

-- the grammar of a scanner's options
abbrev pub scanner_grammar : Scanner → Grammar
scanner_grammar scanner = grammar_of scanner.options.now

-- The scanner's options may be declared, and its table is the table of their names.
pub record IsLawfulScanner (scanner : Scanner) : Type 0 where
  pub declared : MayBeDeclared scanner.options.now.groups
  pub table : IsTableOf (names_of scanner.options.now.groups) scanner.table.now

-- This shape says how the word is read.
abbrev pub HasShape : Grammar → Text → Shape → Type 0
HasShape grammar word shape.Free = is_dashed word ≡ false
HasShape grammar word shape.Stop = word ≡ stop_word
HasShape grammar word (shape.Long text) =
    (dashes : Dashes) × IsInLongForm grammar dashes word text.now
HasShape grammar word (shape.Cluster text) = IsShortForm grammar word text.now

-- the reading of words, with its counts checked or not, or their error
abbrev pub reading_if : Bool → Declared → List Text → Result Reading Fault
reading_if true options words = accepted_reading options words
reading_if false options words = reading_or_error options words

-- The result is a reading, and the line is what it gives.
pub record GivesLine (grammar : Grammar) (result : Result Reading Fault) (line : Line)
    : Type 0 where
  pub reading : Reading
  pub result_is : result ≡ Ok reading
  pub occurrences : line.found ≡ occurrences_of grammar reading
  pub free : map string_bytes line.free.items ≡ free_words reading
  pub trailing : line.trailing_start ≡ trailing_start reading

-- a tail of these words: free words, or a stop and free words
abbrev pub tail_of : List Text → Tail
tail_of [] = no_tail
tail_of (word ∷ after) = if bytes_eq word stop_word then stop after else rest (word ∷ after)

-- the content of an order
abbrev pub order_content : List Given → Content
order_content order = record { mentions = options_in order; free = frees_in order }

-- the occurrence of an option at a position; a free word has none
abbrev pub placed : ℕ → Given → List Occurrence
placed position given = map (at_position position) (options_in (given ∷ []))

-- These items begin the line, and these words are left.
pub record AreBeforeWords (grammar : Grammar) (line : List Text) (items : List Item) (words : List Text)
    : Type 0 where
  pub spells : spelled_all items words ≡ line
  pub lawful : AllByRecursion (IsLawfulItem grammar) items
  pub followed : AreWellFollowed items words

-- These items begin the line, and these names and words are left.
pub data AreBefore (grammar : Grammar) (line : List Text) (items : List Item) (names : Text)
    (words : List Text) : Type 0 where
  between_words : names ≡ [] → AreBeforeWords grammar line items words
      → AreBefore grammar line items names words
  -- flags precede the names in their word, and the last item has these flags
  within_word : (before : List Item) (word : Text) → names ≢ []
      → (has : HasAfterFlags grammar word names) → has.bytes ≢ []
      → items ≡ before ++ cluster has.bytes flags ∷ [] → AreBeforeWords grammar line before (word ∷ words)
      → AreBefore grammar line items names words

-- After these items, an option or a free word was read, in a word at this position.
pub record HasOneMore (grammar : Grammar) (line : List Text) (items : List Item) (position : ℕ)
    (given : Given) (names : Text) (words : List Text) : Type 0 where
  pub all : List Item
  -- these names and words are left
  pub read : AreBefore grammar line all names words
  pub order : order_of_items grammar all ≡ order_of_items grammar items ++ given ∷ []
  pub occurrences : occurrences_after 0 grammar all
      ≡ occurrences_after 0 grammar items ++ placed position given

-- the number of words left, and one more if names of a cluster are left
abbrev pub words_left : {S : Type 0} → Text → List S → ℕ
words_left [] words = length words
words_left (byte ∷ names) words = 1 + length words

-- An option or a free word was read, after which these names and words are left.
pub record GivesOne (grammar : Grammar) (names : Text) (words : List Text) (names_new : Text)
    (words_new : List Text) (given : Given) : Type 0 where
  pub reads : (line : List Text) (items : List Item) → AreBefore grammar line items names words
      → HasOneMore grammar line items (length line - words_left names words) given names_new words_new
  pub less : length names_new + words_size words_new < length names + words_size words
