-- Canonical lines: command lines rewritten with main names only. The laws of such lines, and when
-- there is no such line.
use Rattle.std.specs.Prelude.{◌≡◌, ◌≢◌, ◌↔◌, ℕ, Bool, false, List, [], ◌∷◌, ◌++◌, map, Option}
use Rattle.std.specs.Prelude.{Some, None, slice_get}
use Rattle.std.specs.List.{AllByRecursion, Contains}
use Rattle.std.specs.Option.{option_map_or}
use Rattle.getopts.specs.Names.{Text, main_name, resolution}
use Rattle.getopts.specs.Options.{Group, Declared, names_of, grammar_of}
use Rattle.getopts.specs.Reading.{holds_equals, stop_word, Argument, none, attached, two, Item, long}
use Rattle.getopts.specs.Reading.{long_word, item_words, IsLawfulItem, stop, Reading, IsReading}
use Rattle.getopts.specs.Reading.{Mention, mentions, free_words}
use Rattle.getopts.specs.ReadingLaws.{mentions_of}
use Rattle.getopts.specs.Matches.{matches_of, KeepsCounts}
use Rattle.getopts.specs.declared.kinds.ParsingStyle.{ParsingStyle}

-- what a command line says, apart from positions
pub record Content : Type 0 where
  pub mentions : List Mention
  pub free : List Text

abbrev pub content_of : Declared → Reading → Content
content_of options reading = record {
  mentions = mentions_of (grammar_of options) reading;
  free = free_words reading;
}

abbrev pub main_at : List Group → ℕ → Text
main_at groups place =
    option_map_or (λ group. main_name group.signature.names) (slice_get groups place) []

-- The content is plain: no mentioned group has a main name that contains `=`.
abbrev pub IsPlain : List Group → Content → Type 0
IsPlain groups content =
    AllByRecursion (λ m. holds_equals (main_at groups m.place) ≡ false) content.mentions

-- The content is sound: the main name of each mentioned group resolves to that group.
abbrev pub IsSound : List Group → Content → Type 0
IsSound groups content =
    AllByRecursion (λ m. resolution (names_of groups) (main_at groups m.place) ≡ Some m.place)
    content.mentions

-- `--main`, or `--main=value` if the mention has a value
abbrev pub canonical_word : List Group → Mention → Text
canonical_word groups m = long_word two (main_at groups m.place) m.value

abbrev pub canonical_line : List Group → Content → List Text
canonical_line groups content =
    map (canonical_word groups) content.mentions ++ stop_word ∷ content.free

abbrev pub attached_value : Option Text → Argument
attached_value None = none
attached_value (Some value) = attached value

abbrev pub canonical_item : List Group → Mention → Item
canonical_item groups m = long two (main_at groups m.place) (attached_value m.value)

abbrev pub canonical_reading : List Group → Content → Reading
canonical_reading groups content = record {
  items = map (canonical_item groups) content.mentions;
  tail = stop content.free;
}

abbrev pub with_setting : Declared → ParsingStyle → Bool → Declared
with_setting options style long_only = record options { style = style; long_only = long_only }

-- This is a reading of the words that keeps the counts.
pub record IsCountKeeping (options : Declared) (reading : Reading) (words : List Text)
    : Type 0 where
  pub reads : IsReading (grammar_of options) reading words
  pub keeps : KeepsCounts (matches_of options reading).groups

-- In some style and mode, the words have a reading with this content that keeps the counts.
pub record Says (options : Declared) (words : List Text) (content : Content) : Type 0 where
  pub style : ParsingStyle
  pub long_only : Bool
  pub reading : Reading
  pub reads : IsCountKeeping (with_setting options style long_only) reading words
  pub content_is : content ≡ content_of (with_setting options style long_only) reading

-- The canonical line is read as the canonical reading, which keeps the counts and this content.
pub record ReadsBack (options : Declared) (content : Content) : Type 0 where
  pub reads : IsCountKeeping options (canonical_reading options.groups content)
      (canonical_line options.groups content)
  pub same : content_of options (canonical_reading options.groups content) ≡ content

-- The canonical line of this content reads back, says nothing else, and is no other content's.
pub record HasCanonicalLine (options : Declared) (content : Content) : Type 0 where
  pub sound : IsSound options.groups content
  pub reads_back : (style : ParsingStyle) (long_only : Bool)
      → ReadsBack (with_setting options style long_only) content
  pub says_nothing_else : (other : Content)
      → Says options (canonical_line options.groups content) other
      → other ≡ content
  pub again : (other : Content) → Says options (canonical_line options.groups content) other
      → canonical_line options.groups other ≡ canonical_line options.groups content
  pub only : (other : Content) → IsSound options.groups other → IsPlain options.groups other
      → (canonical_line options.groups other ≡ canonical_line options.groups content)
      ↔ (other ≡ content)

-- No valid item with just this mention begins with the mention's canonical word.
abbrev pub HasNoItem : Declared → Mention → Type 0
HasNoItem options m = (style : ParsingStyle) (long_only : Bool) (item : Item)
    → IsLawfulItem (grammar_of (with_setting options style long_only)) item
    → mentions (grammar_of (with_setting options style long_only)) item ≡ m ∷ []
    → slice_get (item_words item) 0 ≢ Some (canonical_word options.groups m)

-- Some mention of the content can't be written by its canonical word.
pub record HasUnwritable (options : Declared) (content : Content) : Type 0 where
  pub unwritable : Mention
  pub mentioned : Contains content.mentions unwritable
  pub no_item : HasNoItem options unwritable
