-- Laws of readings: which items may replace others, how command lines compose, and facts about free
-- words, the trailing start, positions and order. Each law covers every reading of every command
-- line.
use Rattle.std.specs.Prelude.{◌≡◌, ◌≢◌, ℕ, ◌+◌, ◌<◌, ⊤, List, [], ◌∷◌, ◌++◌, map, drop, Some, None}
use Rattle.std.specs.Prelude.{nat_le, if◌then◌else◌, Bool, false, true, length, slice_get, Contains}
use Rattle.std.specs.List.{AllByRecursion, filter, flat_map, last_or, zip}
use Rattle.std.specs.Option.{option_map_or}
use Rattle.std.specs.List.Sorted.{IsNonDecreasingBy}
use Rattle.getopts.specs.Names.{Text}
use Rattle.getopts.specs.Options.{Grammar}
use Rattle.getopts.specs.Reading.{begins_with_dash, Argument, attached, separate, Dashes, End, flags}
use Rattle.getopts.specs.Reading.{ends_in, Item, long, cluster, end_text, item_words, spelled_all}
use Rattle.getopts.specs.Reading.{is_bare, Tail, no_tail, stop, tail_words, Reading, IsReading}
use Rattle.getopts.specs.Reading.{Mention, mentions, Occurrence, at_position, word_count}
use Rattle.getopts.specs.Reading.{occurrences_of, free_items, free_words, trailing_start}
use Rattle.getopts.specs.Reading.{Given, given_option, options_in, frees_in, order_of_reading}
use Rattle.getopts.specs.Matches.{MatchedGroup}
use Rattle.getopts.specs.declared.kinds.HasArg.TheVariants.{Yes}

abbrev pub mentions_of : Grammar → Reading → List Mention
mentions_of grammar reading = map (λ o. o.mention) (occurrences_of grammar reading)

abbrev pub spelled_words : Reading → List Text
spelled_words reading = spelled_all reading.items (tail_words reading.tail)

abbrev pub reading_of : List Item → List Item → List Item → Tail → Reading
reading_of front middle back tail = record { items = front ++ (middle ++ back); tail = tail }

abbrev pub positions_in : Grammar → Reading → List ℕ
positions_in grammar reading = map (λ o. o.position) (occurrences_of grammar reading)

abbrev pub one_higher_after : ℕ → ℕ → ℕ
one_higher_after position other = if nat_le other position then other else other + 1

-- The new positions are the old ones, but each position after this one is one higher.
abbrev pub AreHigherAfter : ℕ → List ℕ → List ℕ → Type 0
AreHigherAfter position old new = new ≡ map (one_higher_after position) old

-- Both readings give the same, except that `Alike` relates the old positions to the new ones.
pub record ReadsAlike (grammar : Grammar) (Alike : List ℕ → List ℕ → Type 0) (old new : Reading)
    : Type 0 where
  pub reads : IsReading grammar new (spelled_words new)
  pub mentions : mentions_of grammar new ≡ mentions_of grammar old
  pub free : free_words new ≡ free_words old
  pub trailing : trailing_start new ≡ trailing_start old
  pub positions : Alike (positions_in grammar old) (positions_in grammar new)

-- In every reading, these items may replace the item; `Alike` also gets the item's position.
abbrev pub Respells : Grammar → Item → List Item → (ℕ → List ℕ → List ℕ → Type 0) → Type 0
Respells grammar item others Alike = (front back : List Item) (tail : Tail) (words : List Text)
    → IsReading grammar (reading_of front (item ∷ []) back tail) words
    → ReadsAlike grammar (Alike (word_count front))
    (reading_of front (item ∷ []) back tail) (reading_of front others back tail)

-- Either item may replace the other; with the longer one, later positions are one higher.
pub record AreOneWordApart (grammar : Grammar) (shorter longer : Item) : Type 0 where
  pub to_longer : Respells grammar shorter (longer ∷ []) AreHigherAfter
  pub to_shorter : Respells grammar longer (shorter ∷ [])
      (λ position old new. AreHigherAfter position new old)

-- If the kind is `Yes`, `--name=argument` and `--name argument` read alike, except for positions.
pub record LongAttachedOrSeparate (grammar : Grammar) : Type 0 where
  pub either : (dashes : Dashes) (name argument : Text)
      → grammar.kind name ≡ Some Yes
      → AreOneWordApart grammar
      (long dashes name (attached argument)) (long dashes name (separate argument))

-- If the kind is `Yes`, `-xargument` and `-x argument` read alike, except for positions.
pub record ShortAttachedOrSeparate (grammar : Grammar) : Type 0 where
  pub either : (bytes : List ℕ) (option : ℕ) (argument : Text)
      → grammar.kind (option ∷ []) ≡ Some Yes
      → argument ≢ []
      → AreOneWordApart grammar (cluster bytes (ends_in option (attached argument)))
      (cluster bytes (ends_in option (separate argument)))

-- For a flag `x` and a cluster `-s`, `-xs` and `-x -s` read alike, except for positions.
pub record ClusterSplits (grammar : Grammar) : Type 0 where
  pub after_flag : (flag : ℕ) (bytes : List ℕ) (end : End)
      → bytes ++ end_text end ≢ []
      → begins_with_dash (bytes ++ end_text end) ≡ false
      → Respells grammar (cluster (flag ∷ bytes) end)
      (cluster (flag ∷ []) flags ∷ cluster bytes end ∷ []) (λ position old new. ⊤)

-- In long-only mode, `-name` and `--name` give the same, unless the name begins with `-`.
pub record OneDashOrTwo (grammar : Grammar) : Type 0 where
  pub other_dashes : (dashes other : Dashes) (name : Text) (argument : Argument)
      → grammar.long_only ≡ true
      → begins_with_dash name ≡ false
      → Respells grammar (long dashes name argument) (long other name argument ∷ [])
      (λ position old new. new ≡ old)

abbrev pub is_last_bare : List Item → Bool
is_last_bare items = option_map_or is_bare (last_or None items) false

abbrev pub joined_reading : Reading → Reading → Reading
joined_reading first second = record { items = first.items ++ second.items; tail = second.tail }

-- The whole gives the mentions and free words of the first reading, then those of the second.
pub record HasContentOfBoth (grammar : Grammar) (first second whole : Reading) : Type 0 where
  pub mentions : mentions_of grammar whole ≡ mentions_of grammar first ++ mentions_of grammar second
  pub free : free_words whole ≡ free_words first ++ free_words second

-- Two lines can be joined, unless the first has a stop or a rest, or ends in a bare cluster.
pub record LinesCompose (grammar : Grammar) : Type 0 where
  pub of_both : (first second : Reading) (words more : List Text)
      → IsReading grammar first words
      → first.tail ≡ no_tail
      → is_last_bare first.items ≡ false
      → IsReading grammar second more
      → IsReading grammar (joined_reading first second) (words ++ more)
      × ((whole : Reading) → IsReading grammar whole (words ++ more)
      → HasContentOfBoth grammar first second whole)

-- The free words from this index on are the words after the stop, and there is at least one.
pub record IsAfterStop (reading : Reading) (start : ℕ) : Type 0 where
  pub below : start < length (free_words reading)
  pub tail_is : reading.tail ≡ stop (drop start (free_words reading))

-- From the trailing start on, the free words are the words after the stop.
pub record TrailingStartIsAfterStop (grammar : Grammar) : Type 0 where
  pub after_stop : (reading : Reading) (words : List Text) (start : ℕ)
      → IsReading grammar reading words
      → trailing_start reading ≡ Some start
      → IsAfterStop reading start

-- The texts are words from the list, in the same order; words may be left out.
abbrev pub IsSubsequence : List Text → List Text → Type 0
IsSubsequence texts words = (kept : List Bool)
    × (texts ≡ map (λ pair. pair.1) (filter (λ pair. pair.0) (zip kept words)))

-- Free words are a subsequence of the words.
pub record FreeWordsAreSubsequence (grammar : Grammar) : Type 0 where
  pub subsequence : (reading : Reading) (words : List Text)
      → IsReading grammar reading words
      → IsSubsequence (free_words reading) words

-- In each group in the matches, the positions never decrease.
abbrev pub HavePositionsInOrder : List MatchedGroup → Type 0
HavePositionsInOrder groups =
    AllByRecursion (λ group. IsNonDecreasingBy (λ occurrence. occurrence.position) group.occurrences) groups

-- In an order, the item's options follow what the items before it give.
pub record FollowsItems (grammar : Grammar) (order : List Given) (before : List Item) (item : Item)
    : Type 0 where
  pub earlier : List Given
  pub later : List Given
  pub order_is : order ≡ earlier ++ (map given_option (mentions grammar item) ++ later)
  pub options : options_in earlier ≡ flat_map (mentions grammar) before
  pub frees : frees_in earlier ≡ free_items before

-- The occurrence is a mention of an item in the reading, at the position of the item's first word.
pub record BelongsToItem (grammar : Grammar) (reading : Reading) (words : List Text)
    (occurrence : Occurrence) : Type 0 where
  pub before : List Item
  pub item : Item
  pub after : List Item
  pub items_are : reading.items ≡ before ++ item ∷ after
  pub mentioned :
      Contains (map (at_position (word_count before)) (mentions grammar item)) occurrence
  pub first_word : slice_get words occurrence.position ≡ slice_get (item_words item) 0
  pub in_order : FollowsItems grammar (order_of_reading grammar reading) before item

-- The position of each occurrence is the index of its item's first word.
pub record PositionsAreWords (grammar : Grammar) : Type 0 where
  pub of_occurrence : (reading : Reading) (words : List Text) (occurrence : Occurrence)
      → IsReading grammar reading words
      → Contains (occurrences_of grammar reading) occurrence
      → BelongsToItem grammar reading words occurrence

-- Each position in the matches is below this number of words.
abbrev pub HavePositionsBelow : ℕ → List MatchedGroup → Type 0
HavePositionsBelow count groups =
    AllByRecursion (λ group. AllByRecursion (λ occurrence. occurrence.position < count) group.occurrences) groups

-- This grammar obeys the laws of readings.
pub record KeepsReadingLaws (grammar : Grammar) : Type 0 where
  pub long_argument : LongAttachedOrSeparate grammar
  pub short_argument : ShortAttachedOrSeparate grammar
  pub cluster : ClusterSplits grammar
  pub dashes : OneDashOrTwo grammar
  pub lines : LinesCompose grammar
  pub trailing : TrailingStartIsAfterStop grammar
  pub frees : FreeWordsAreSubsequence grammar
  pub positions : PositionsAreWords grammar
