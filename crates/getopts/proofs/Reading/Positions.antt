-- Positions: how many words items spell, which occurrences move up by one, and what is at a
-- position. Orders: the options and free words in the order of a reading.
use Rattle.std.proofs.Common.{◌≡◌, ℕ, ◌+◌, ◌<◌, true, false, List, [], ◌∷◌, append_assoc, ◌++◌, length, map, refl, ap}
use Rattle.std.proofs.Common.{◌∙◌, sym, inl, inr, add-zero, zero-add, arith, Some, rules}
use Rattle.std.specs.Prelude.{nat_le, slice_get, Contains}
use Rattle.std.specs.List.{AllByRecursion, flat_map}
use Rattle.std.proofs.lemmas.List.{map-append, length-append, map-id, append-nil}
use Rattle.std.proofs.lemmas.List.Elements.{Contains-append_cases, All-contains, All-map, All-contains_itself}
use Rattle.std.proofs.lemmas.List.Elements.{All-weaker, recursion_from_All}
use Rattle.std.proofs.lemmas.Simd.{map-map}
use Rattle.std.proofs.lemmas.Bool.Decides.{nat_tests}
use Rattle.std.proofs.lemmas.Option.{slice_get_within}
use Rattle.getopts.specs.Names.{Text}
use Rattle.getopts.specs.Options.{Signature, Grammar}
use Rattle.getopts.specs.Reading.{Item, free, long, cluster, item_words, spelled_all, Tail, tail_words, Reading}
use Rattle.getopts.specs.Reading.{IsReading, Mention, mentions, Occurrence, at_position, word_count}
use Rattle.getopts.specs.Reading.{occurrences_after, occurrences_of, Given, option, free_word, given_option, given_by}
use Rattle.getopts.specs.Reading.{order_of_items, tail_frees, order_of_reading, options_in, frees_in, free_items}
use Rattle.getopts.specs.Reading.{free_words}
use Rattle.getopts.specs.Matches.{matched}
use Rattle.getopts.specs.ReadingLaws as Spec
use Rattle.getopts.proofs.Lists.{AllByRecursion-filter, AllByRecursion-map, slice_get-append}
use Rattle.getopts.proofs.counts.Groups.{AllByRecursion-matched}
use Rattle.getopts.proofs.Reading.Reader.{spelled}
use Rattle.getopts.proofs.Reading.Readings.{spelled_all-append, spelled_all-joined}

-- the words of items, and the following words
pub length-spelled_all : (items : List Item) (more : List Text)
    → length (spelled_all items more) ≡ word_count items + length more
length-spelled_all items more = cc (spelled_all-append items [] more, length-append (spelled_all items []) more)

-- the words of an item, and of the items after it
pub word_count-cons : (item : Item) (items : List Item)
    → word_count (item ∷ items) ≡ word_count (item ∷ []) + word_count items
word_count-cons item items = length-spelled_all (item ∷ []) (spelled_all items [])

-- the mentions of the occurrences of items are those of the items
mention-occurrences_after : (before : ℕ) (grammar : Grammar) (items : List Item)
    → map (λ (o : Occurrence). o.mention) (occurrences_after before grammar items) ≡ flat_map (mentions grammar) items
mention-occurrences_after before grammar [] = refl
mention-occurrences_after before grammar (item ∷ items) =
    simp (map-map, map-id, map-append, mention-occurrences_after (before + word_count (item ∷ [])) grammar items)

-- a reading's mentions are those of its items, in order
pub mentions_of-items : (grammar : Grammar) (reading : Reading)
    → Spec.mentions_of grammar reading ≡ flat_map (mentions grammar) reading.items
mentions_of-items grammar reading = mention-occurrences_after 0 grammar reading.items

-- the options and free words in two orders
pub options_in-append : (order more : List Given)
    → options_in (order ++ more) ≡ options_in order ++ options_in more
options_in-append [] more = refl
options_in-append (option place value ∷ order) more =
    ap (λ told. record { place = place; value = value } ∷ told) (options_in-append order more)
options_in-append (free_word word ∷ order) more = options_in-append order more

pub frees_in-append : (order more : List Given)
    → frees_in (order ++ more) ≡ frees_in order ++ frees_in more
frees_in-append [] more = refl
frees_in-append (option place value ∷ order) more = frees_in-append order more
frees_in-append (free_word word ∷ order) more =
    ap (λ words. word ∷ words) (frees_in-append order more)

-- in an order of options
pub options_in-options : (told : List Mention) → options_in (map given_option told) ≡ told
options_in-options [] = refl
options_in-options (m ∷ told) = ap (λ told. m ∷ told) (options_in-options told)

frees_in-options : (told : List Mention)
    → frees_in (map given_option told) ≡ []
frees_in-options [] = refl
frees_in-options (m ∷ told) = frees_in-options told

-- in an order of free words
options_in-frees : (words : List Text) → options_in (map free_word words) ≡ []
options_in-frees [] = refl
options_in-frees (word ∷ words) = options_in-frees words

frees_in-frees : (words : List Text) → frees_in (map free_word words) ≡ words
frees_in-frees [] = refl
frees_in-frees (word ∷ words) = ap (λ words. word ∷ words) (frees_in-frees words)

-- in what an item gives
pub options_in-given_by : (grammar : Grammar) (item : Item)
    → options_in (given_by grammar item) ≡ mentions grammar item
options_in-given_by grammar item = search (rules, options_in-options)

frees_in-given_by : (grammar : Grammar) (item : Item)
    → frees_in (given_by grammar item) ≡ free_items (item ∷ [])
frees_in-given_by grammar item = search (rules, frees_in-options)

-- in what items give
pub options_in-items : (grammar : Grammar) (items : List Item)
    → options_in (order_of_items grammar items) ≡ flat_map (mentions grammar) items
options_in-items grammar [] = refl
options_in-items grammar (item ∷ items) =
    simp (options_in-append, options_in-given_by, options_in-items grammar items)

pub frees_in-items : (grammar : Grammar) (items : List Item)
    → frees_in (order_of_items grammar items) ≡ free_items items
frees_in-items grammar [] = refl
frees_in-items grammar (free word ∷ items) =
    ap (λ words. word ∷ words) (frees_in-items grammar items)
frees_in-items grammar (long dashes name argument ∷ items) = frees_in-items grammar items
frees_in-items grammar (cluster bytes end ∷ items) =
    search (rules, frees_in-append, frees_in-given_by, frees_in-items grammar items)

-- the options in the order of a reading are its mentions
pub options_in-order : (grammar : Grammar) (reading : Reading)
    → options_in (order_of_reading grammar reading) ≡ Spec.mentions_of grammar reading
options_in-order grammar reading =
    search (
      rules,
      options_in-append,
      options_in-items grammar reading.items,
      options_in-frees (tail_frees reading.tail),
      mentions_of-items grammar reading,
      append-nil,
    )

-- and its free words are those of the reading
pub frees_in-order : (grammar : Grammar) (reading : Reading)
    → frees_in (order_of_reading grammar reading) ≡ free_words reading
frees_in-order grammar reading =
    search (
      rules,
      frees_in-append,
      frees_in-items grammar reading.items,
      frees_in-frees (tail_frees reading.tail),
    )

-- items one after the other give one order after the other
pub order_of_items-append : (grammar : Grammar) (items others : List Item)
    → order_of_items grammar (items ++ others) ≡ order_of_items grammar items ++ order_of_items grammar others
order_of_items-append grammar [] others = refl
order_of_items-append grammar (item ∷ items) others =
    simp (append_assoc, order_of_items-append grammar items others)

-- and so do their occurrences
pub occurrences_after-append : (grammar : Grammar) (items others : List Item) (before : ℕ)
    → occurrences_after before grammar (items ++ others)
    ≡ occurrences_after before grammar items ++ occurrences_after (before + word_count items) grammar others
occurrences_after-append grammar [] others before = rw add-zero refl
occurrences_after-append grammar (item ∷ items) others before =
    let next = before + word_count (item ∷ []) in
    let count : before + word_count (item ∷ items) ≡ next + word_count items = omega (arith, word_count-cons item items) in
    rw (count, occurrences_after-append grammar items others next) (simp append_assoc)

-- an item that mentions something gives options
given_by-mentioned : (grammar : Grammar) (at : ℕ) (item : Item) (occurrence : Occurrence)
    → Contains (map (at_position at) (mentions grammar item)) occurrence
    → given_by grammar item ≡ map given_option (mentions grammar item)
given_by-mentioned grammar at item occurrence contained = search rules

-- its options follow what the items before it give
FollowsItems-reading : (grammar : Grammar) (reading : Reading) (before after : List Item) (item : Item)
    → reading.items ≡ before ++ item ∷ after
    → given_by grammar item ≡ map given_option (mentions grammar item)
    → Spec.FollowsItems grammar (order_of_reading grammar reading) before item
FollowsItems-reading grammar reading before after item are gives = record {
  earlier = order_of_items grammar before;
  later = order_of_items grammar after ++ map free_word (tail_frees reading.tail);
  order_is = search (rules, order_of_items-append, append_assoc);
  options = options_in-items grammar before;
  frees = frees_in-items grammar before;
}

-- an occurrence, one position higher if it comes after this one
abbrev raised_after : ℕ → Occurrence → Occurrence
raised_after position o = record {
  mention = o.mention;
  position = Spec.one_higher_after position o.position;
}

-- mentions at a position, one higher if it comes after this one
raised_after-mentions : (at position : ℕ) (told : List Mention)
    → map (raised_after at) (map (at_position position) told)
    ≡ map (at_position (Spec.one_higher_after at position)) told
raised_after-mentions at position told = map-map (raised_after at) (at_position position) told

-- the occurrences of items after this position are one higher
occurrences_after-moves : (grammar : Grammar) (at before : ℕ) (items : List Item) → at < before
    → map (raised_after at) (occurrences_after before grammar items) ≡ occurrences_after (before + 1) grammar items
occurrences_after-moves grammar at before [] past = refl
occurrences_after-moves grammar at before (item ∷ items) past =
    let next = before + word_count (item ∷ []) in
    let later : next + 1 ≡ before + 1 + word_count (item ∷ []) = omega arith in
    let later_one : nat_le before at ≡ false = grind (arith, nat_tests) in
    search (rules, map-append, raised_after-mentions, occurrences_after-moves grammar at next items (omega arith))

-- If an item is replaced by one that spells one more word and mentions the same, later occurrences
-- move up by one.
module _ (grammar : Grammar) (item other : Item) (back : List Item)
    (same : mentions grammar other ≡ mentions grammar item)
    (longer : word_count (other ∷ []) ≡ word_count (item ∷ []) + 1) where
  -- if there are items before it
  occurrences_after-one_higher : (front : List Item) (before : ℕ)
      → map (raised_after (before + word_count front))
      (occurrences_after before grammar (front ++ item ∷ back))
      ≡ occurrences_after before grammar (front ++ other ∷ back)
  occurrences_after-one_higher [] before =
      rw add-zero (search (rules, map-append, raised_after-mentions, occurrences_after-moves))
  occurrences_after-one_higher (first ∷ front) before =
      let at = before + word_count (first ∷ front) in
      let next = before + word_count (first ∷ []) in
      let same_place : at ≡ next + word_count front = omega (arith, word_count-cons first front) in
      let earlier : nat_le before at ≡ true = grind (arith, nat_tests) in
      search (rules, map-append, raised_after-mentions, occurrences_after-one_higher front next)

  -- in a whole line
  pub positions_in-one_higher : (front : List Item) (tail : Tail)
      → Spec.positions_in grammar (record { items = front ++ other ∷ back; tail = tail })
      ≡ map (Spec.one_higher_after (word_count front))
      (Spec.positions_in grammar (record { items = front ++ item ∷ back; tail = tail }))
  positions_in-one_higher front tail =
      let whole = rw zero-add at (occurrences_after-one_higher front 0) in
      rw (← whole) (map-map (λ (o : Occurrence). o.position) (raised_after (word_count front)) _
      ∙ sym (map-map (Spec.one_higher_after (word_count front)) (λ (o : Occurrence). o.position) _))

-- an occurrence of the later items of a reading, after these items
belongs : (grammar : Grammar) (reading : Reading) (words : List Text) (occurrence : Occurrence)
    (before items : List Item) → IsReading grammar reading words → reading.items ≡ before ++ items
    → Contains (occurrences_after (word_count before) grammar items) occurrence
    → Spec.BelongsToItem grammar reading words occurrence
belongs grammar reading words occurrence before [] reads are contained = absurd (omega (arith, contained.1))
belongs grammar reading words occurrence before (item ∷ items) reads are contained =
    elim (Contains-append_cases (map (at_position (word_count before)) (mentions grammar item)) _
    occurrence contained) [
      | inl here ↦
          let more = spelled_all items (tail_words reading.tail) in
          let place = All-contains (λ o. o.position ≡ word_count before) _ occurrence
          (search (rules, All-map)) here in
          record {
            before = before;
            item = item;
            after = items;
            items_are = are;
            mentioned = here;
            in_order = FollowsItems-reading grammar reading before items item are
                (given_by-mentioned grammar _ item occurrence here);
            first_word = rw (
              place,
              ← reads.spells,
              are,
              spelled_all-joined before (item ∷ items) (tail_words reading.tail),
              spelled_all-append before [] (spelled item more),
              slice_get-append (spelled_all before []) (spelled item more),
            ) (search rules);
          }
      | inr later ↦
          let count : word_count before + word_count (item ∷ []) ≡ word_count (before ++ item ∷ []) =
          search (rules, spelled_all-joined, length-spelled_all) in
          belongs grammar reading words occurrence (before ++ item ∷ []) items reads
          (are ∙ sym (append_assoc before (item ∷ []) items)) (rw count at later)
    ]

-- positions are indices of words
pub PositionsAreWords_lem : (grammar : Grammar) → Spec.PositionsAreWords grammar
PositionsAreWords_lem grammar = record {
  of_occurrence = λ reading words occurrence reads contained.
      belongs grammar reading words occurrence [] reading.items reads refl contained;
}

-- an item has a first word
first_word : (item : Item) → (word : Text) × (slice_get (item_words item) 0 ≡ Some word)
first_word (free word) = (word, refl)
first_word (long dashes name argument) = (_, refl)
first_word (cluster names end) = (_, refl)

-- the positions of a reading are below the number of words
below-occurrences_of : (grammar : Grammar) (reading : Reading) (words : List Text) → IsReading grammar reading words
    → AllByRecursion (λ o. o.position < length words) (occurrences_of grammar reading)
below-occurrences_of grammar reading words reads =
    let occurrences = occurrences_of grammar reading in
    recursion_from_All (λ o. o.position < length words) occurrences
    (All-weaker (Contains occurrences) (λ o. o.position < length words) (λ o contained.
    let there = (PositionsAreWords_lem grammar).of_occurrence reading words o reads contained in
    let first = first_word there.item in
    slice_get_within words o.position first.0 (there.first_word ∙ first.1))
    occurrences (All-contains_itself occurrences))

-- so are those of the groups in a reading's matches
pub HavePositionsBelow-matched : (grammar : Grammar) (reading : Reading) (words : List Text)
    → IsReading grammar reading words → (place : ℕ) (signatures : List Signature)
    → Spec.HavePositionsBelow (length words) (matched place signatures (occurrences_of grammar reading))
HavePositionsBelow-matched grammar reading words reads place signatures =
    search (rules, AllByRecursion-matched, AllByRecursion-map, AllByRecursion-filter, below-occurrences_of)
