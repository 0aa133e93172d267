-- The laws of readings, proved for every grammar.
use Rattle.std.proofs.Common.{◌≡◌, ◌≢◌, ℕ, zero, suc, ◌+◌, ◌≤◌, true, false, List, [], ◌∷◌, ◌++◌, length, map, Some}
use Rattle.std.proofs.Common.{refl, sym, ap, subst, rules, arith}
use Rattle.std.specs.Prelude.{⊤}
use Rattle.std.proofs.lemmas.Bool.{cases_Bool}
use Rattle.std.proofs.Math.Seq.{drop-append_seam}
use Rattle.std.specs.List.{AllByRecursion, AllAdjacentBelow, flat_map}
use Rattle.std.specs.List.Sorted.{IsNonDecreasingBy}
use Rattle.std.proofs.lemmas.List.{append-nil, append_assoc, length-append}
use Rattle.std.proofs.lemmas.Grind.{flat_map-append, common_steps}
use Rattle.std.proofs.lemmas.List.Sorted.{IsNonDecreasingBy-from_all_adjacent}
use Rattle.getopts.specs.Names.{Text}
use Rattle.getopts.specs.Options.{Signature, Grammar}
use Rattle.getopts.specs.Reading.{item_words, tail_words, Occurrence, at_position, word_count, ends_in, free_items}
use Rattle.getopts.specs.Reading.{tail_frees, free_words, begins_with_dash, spelled_all, occurrences_after, Argument}
use Rattle.getopts.specs.Reading.{IsLawfulEnd, IsLawfulLong, IsLawfulItem, end_text, FitsLong, no_tail, IsReading}
use Rattle.getopts.specs.Reading.{Dashes, attached, separate, cluster, FitsEnd, is_bare, Reading, Mention, mentions, End}
use Rattle.getopts.specs.Reading.{flags, Item, free, long, Tail, stop, rest, EndsOrIsDashed, AreWellFollowed, occurrences_of}
use Rattle.getopts.specs.Matches.{GroupOccurrence, matched, occurrences_mentioning}
use Rattle.getopts.specs.ReadingLaws as Spec
use Rattle.getopts.specs.declared.kinds.HasArg.TheVariants.{Yes}
use Rattle.std.proofs.Permutation.{every_append}
use Rattle.std.proofs.Recursive.{every_back, every_front}
use Rattle.getopts.proofs.counts.Groups.{AllByRecursion-matched}
use Rattle.getopts.proofs.Reading.Positions.{mentions_of-items, positions_in-one_higher}
use Rattle.getopts.proofs.Reading.Readings.{EndsOrIsDashed-spelled, spelled_all-append, spelled_all-joined}
use Rattle.getopts.proofs.Reading.Steps.{lawful_short}
use Rattle.getopts.proofs.Reading.Texts.{is_dashed-text}

-- ---- replacing items

-- When new items may replace old ones before these words: they are valid and well
-- followed if the old ones are, and begin with a dashed word in ordinary mode.
record FitInPlace (grammar : Grammar) (old new : List Item) (more : List Text) : Type 0 where
  lawful : AllByRecursion (IsLawfulItem grammar) old → AllByRecursion (IsLawfulItem grammar) new
  dashed : AllByRecursion (IsLawfulItem grammar) new → grammar.long_only ≡ false
      → EndsOrIsDashed (spelled_all new more)
  followed : AreWellFollowed old more → AreWellFollowed new more

-- items in front still begin with a dashed word
EndsOrIsDashed-in_place : (front old new : List Item) (more : List Text) → EndsOrIsDashed (spelled_all new more)
    → EndsOrIsDashed (spelled_all (front ++ old) more) → EndsOrIsDashed (spelled_all (front ++ new) more)
EndsOrIsDashed-in_place [] old new more dashed begins = dashed
EndsOrIsDashed-in_place (item ∷ front) old new more dashed begins = EndsOrIsDashed-spelled item _ _ begins

-- items in front are still well followed
AreWellFollowed-in_place : (grammar : Grammar) (front old new : List Item) (more : List Text)
    → AllByRecursion (IsLawfulItem grammar) front
    → (grammar.long_only ≡ false → EndsOrIsDashed (spelled_all new more))
    → (AreWellFollowed old more → AreWellFollowed new more) → AreWellFollowed (front ++ old) more
    → AreWellFollowed (front ++ new) more
AreWellFollowed-in_place grammar [] old new more lawful dashed followed before = followed before
AreWellFollowed-in_place grammar (item ∷ front) old new more lawful dashed followed before =
    let rest = AreWellFollowed-in_place grammar front old new more lawful.1 dashed followed before.1 in
    search (rules, EndsOrIsDashed-in_place, rest)

-- if new items that fit replace old ones, a reading stays a reading of the words that it
-- spells
IsReading-in_place : (grammar : Grammar) (front old new : List Item) (tail : Tail) (words : List Text)
    → FitInPlace grammar old new (tail_words tail)
    → IsReading grammar (record { items = front ++ old; tail = tail }) words
    → IsReading grammar (record { items = front ++ new; tail = tail }) (spelled_all (front ++ new) (tail_words tail))
IsReading-in_place grammar front old new tail words fit reads =
    let ahead : AllByRecursion (IsLawfulItem grammar) front =
    every_front (IsLawfulItem grammar) _ front old reads.items refl in
    let lawful : AllByRecursion (IsLawfulItem grammar) new =
    fit.lawful (every_back (IsLawfulItem grammar) _ front old reads.items refl) in
    search (
      rules,
      every_append (IsLawfulItem grammar) front new ahead lawful,
      AreWellFollowed-in_place grammar front old new (tail_words tail) ahead (fit.dashed lawful) fit.followed
          reads.followed,
    )

-- items in front preserve equal occurrences
occurrences_after-in_place : (grammar : Grammar) (front old new : List Item)
    → ((before : ℕ) → occurrences_after before grammar new ≡ occurrences_after before grammar old) → (before : ℕ)
    → occurrences_after before grammar (front ++ new) ≡ occurrences_after before grammar (front ++ old)
occurrences_after-in_place grammar [] old new same before = same before
occurrences_after-in_place grammar (item ∷ front) old new same before =
    simp (occurrences_after-in_place grammar front old new same (before + word_count (item ∷ [])))

-- the free items of two lists
pub free_items-append : (items others : List Item)
    → free_items (items ++ others) ≡ free_items items ++ free_items others
free_items-append [] others = refl
free_items-append (free word ∷ items) others = search (rules, free_items-append items others)
free_items-append (item ∷ items) others = free_items-append items others

-- new items that fit, with the same mentions and free words and like positions, read alike
ReadsAlike-in_place : (grammar : Grammar) (Alike : List ℕ → List ℕ → Type 0)
    (front old new : List Item) (tail : Tail) (words : List Text)
    → FitInPlace grammar old new (tail_words tail)
    → flat_map (mentions grammar) new ≡ flat_map (mentions grammar) old
    → Alike (Spec.positions_in grammar (record { items = front ++ old; tail = tail }))
    (Spec.positions_in grammar (record { items = front ++ new; tail = tail }))
    → free_items new ≡ free_items old
    → IsReading grammar (record { items = front ++ old; tail = tail }) words
    → Spec.ReadsAlike grammar Alike (record { items = front ++ old; tail = tail })
    (record { items = front ++ new; tail = tail })
ReadsAlike-in_place grammar Alike front old new tail words fit same alike same_free reads =
    search (
      rules,
      free_items-append front new,
      free_items-append front old,
      IsReading-in_place grammar front old new tail words fit reads,
      mentions_of-items grammar (record { items = front ++ new; tail = tail }),
      flat_map-append (mentions grammar) front new,
      flat_map-append (mentions grammar) front old,
      mentions_of-items grammar (record { items = front ++ old; tail = tail }),
    )

-- Two items with the same mentions and no free word, one of which spells one word more: each may
-- replace the other if it fits, and the longer one moves later positions up by one.
module _ (grammar : Grammar) (item longer : Item)
    (same : mentions grammar longer ≡ mentions grammar item)
    (same_free : (back : List Item) → free_items (longer ∷ back) ≡ free_items (item ∷ back))
    (one_more : word_count (longer ∷ []) ≡ word_count (item ∷ []) + 1) where
  AreOneWordApart-fit : ((back : List Item) (more : List Text)
      → FitInPlace grammar (item ∷ back) (longer ∷ back) more)
      → ((back : List Item) (more : List Text)
      → FitInPlace grammar (longer ∷ back) (item ∷ back) more)
      → Spec.AreOneWordApart grammar item longer
  AreOneWordApart-fit fit fit_shorter = record {
    to_longer = λ front back tail words reads.
        ReadsAlike-in_place grammar (Spec.AreHigherAfter (word_count front)) front (item ∷ back)
        (longer ∷ back) tail words (fit back (tail_words tail))
        (ap (λ (told : List Mention). told ++ flat_map (mentions grammar) back) same)
        (positions_in-one_higher grammar item longer back same one_more front tail)
        (same_free back) reads;
    to_shorter = λ front back tail words reads.
        ReadsAlike-in_place grammar (λ old new. Spec.AreHigherAfter (word_count front) new old) front
        (longer ∷ back) (item ∷ back) tail words (fit_shorter back (tail_words tail))
        (ap (λ (told : List Mention). told ++ flat_map (mentions grammar) back) (sym same))
        (positions_in-one_higher grammar item longer back same one_more front tail)
        (sym (same_free back)) reads;
  }

-- ---- long options

-- a valid long item fits in place of one with the same name
FitInPlace-long : (grammar : Grammar) (dashes other : Dashes) (name : Text)
    (argument new_argument : Argument) (back : List Item) (more : List Text)
    → (IsLawfulLong grammar dashes name argument → IsLawfulLong grammar other name new_argument)
    → FitInPlace grammar (long dashes name argument ∷ back)
    (long other name new_argument ∷ back) more
FitInPlace-long grammar dashes other name argument new_argument back more lawful = search rules

-- a valid long item of kind Yes stays valid with another argument that Yes may have
IsLawfulLong-yes : (grammar : Grammar) (dashes : Dashes) (name : Text)
    (argument new_argument : Argument) → grammar.kind name ≡ Some Yes → FitsLong Yes new_argument
    → IsLawfulLong grammar dashes name argument → IsLawfulLong grammar dashes name new_argument
IsLawfulLong-yes grammar dashes name argument new_argument kind fits lawful = search rules

-- a long option's argument, attached or separate
pub LongAttachedOrSeparate_lem : (grammar : Grammar) → Spec.LongAttachedOrSeparate grammar
LongAttachedOrSeparate_lem grammar = search (rules, FitInPlace-long, IsLawfulLong-yes, AreOneWordApart-fit)

-- one dash or two
pub OneDashOrTwo_lem : (grammar : Grammar) → Spec.OneDashOrTwo grammar
OneDashOrTwo_lem grammar = record {
  other_dashes = λ dashes other name argument only plain front back tail words reads.
      ReadsAlike-in_place grammar (λ old new. new ≡ old) front (long dashes name argument ∷ back)
      (long other name argument ∷ back) tail words
      (search (rules, FitInPlace-long)) refl
      (search (rules, occurrences_after-in_place))
      refl reads;
}

-- ---- short options

-- an argument doesn't change how a cluster begins after its dash
begins_with_dash-argument : (names : List ℕ) (option : ℕ) (text other : Text)
    → begins_with_dash (names ++ option ∷ text) ≡ begins_with_dash (names ++ option ∷ other)
begins_with_dash-argument [] option text other = refl
begins_with_dash-argument (name ∷ names) option text other = refl

-- a cluster that ends in an option of kind Yes fits in place of one with another argument
FitInPlace-cluster : (grammar : Grammar) (names : List ℕ) (option : ℕ)
    (argument new_argument : Argument) (back : List Item) (more : List Text)
    → grammar.kind (option ∷ []) ≡ Some Yes → FitsEnd Yes new_argument
    → FitInPlace grammar (cluster names (ends_in option argument) ∷ back)
    (cluster names (ends_in option new_argument) ∷ back) more
FitInPlace-cluster grammar names option argument new_argument back more kind fits = record {
  lawful = λ each. (search (rules, begins_with_dash-argument));
  dashed = λ each ordinary. is_dashed-text _
      (lawful_short grammar names (ends_in option new_argument) each.0).filled;
  followed = λ each. (λ bare. search rules, each.1);
}

-- kind `Yes` has an argument, attached or separate
fits_attached : (argument : Text) → argument ≢ [] → FitsEnd Yes (attached argument)
fits_attached argument filled = search rules

fits_separate : (argument : Text) → FitsEnd Yes (separate argument)
fits_separate argument = search rules

-- a short option's argument, attached or separate
pub ShortAttachedOrSeparate_lem : (grammar : Grammar) → Spec.ShortAttachedOrSeparate grammar
ShortAttachedOrSeparate_lem grammar = search (rules, AreOneWordApart-fit, FitInPlace-cluster, fits_attached, fits_separate)

-- a cluster whose rest is bare is bare
is_bare-rest : (flag : ℕ) (names : List ℕ) (end : End) → is_bare (cluster names end) ≡ true
    → is_bare (cluster (flag ∷ names) end) ≡ true
is_bare-rest flag names end bare = search rules

-- the rest of a cluster has a valid end, if it isn't empty
IsLawfulEnd-rest : (grammar : Grammar) (flag : ℕ) (names : List ℕ) (end : End) → names ++ end_text end ≢ []
    → IsLawfulEnd grammar (flag ∷ names) end → IsLawfulEnd grammar names end
IsLawfulEnd-rest grammar flag names end filled lawful = search (rules, append-nil)

-- a cluster may be split after its first flag
pub ClusterSplits_lem : (grammar : Grammar) → Spec.ClusterSplits grammar
ClusterSplits_lem grammar = record {
  after_flag = λ flag names end filled plain front back tail words reads.
      ReadsAlike-in_place grammar (λ old new. ⊤) front (cluster (flag ∷ names) end ∷ back)
      (cluster (flag ∷ []) flags ∷ cluster names end ∷ back) tail words
      (search (rules, IsLawfulEnd-rest, is_bare-rest)) refl tt refl reads;
}

-- ---- joined lines, and the trailing start

-- bare clusters stay well followed if other items follow the last item, and this isn't
-- bare
AreWellFollowed-append : (items others : List Item) (more : List Text) → Spec.is_last_bare items ≡ false
    → AreWellFollowed items [] → AreWellFollowed others more → AreWellFollowed (items ++ others) more
AreWellFollowed-append [] others more last before after = after
AreWellFollowed-append (item ∷ []) others more last before after = (λ bare. cc (last, bare), after)
AreWellFollowed-append (item ∷ next ∷ items) others more last before after =
    search (rules, EndsOrIsDashed-spelled, AreWellFollowed-append (next ∷ items) others more last before.1 after)

-- the concatenation of two readings has the content of both
HasContentOfBoth-joined : (grammar : Grammar) (first second : Reading) → first.tail ≡ no_tail
    → Spec.HasContentOfBoth grammar first second (Spec.joined_reading first second)
HasContentOfBoth-joined grammar first second ends =
    search (
      rules,
      mentions_of-items grammar (Spec.joined_reading first second),
      mentions_of-items grammar first,
      mentions_of-items grammar second,
      flat_map-append (mentions grammar) first.items second.items,
      free_items-append first.items second.items,
      append-nil (free_items first.items),
      append_assoc (free_items first.items) (free_items second.items) (tail_frees second.tail),
    )

-- a first line read to its end, and the items and the tail of a second, are read together
IsReading-joined : (grammar : Grammar) (first second : Reading) (words more : List Text)
    → IsReading grammar first words → first.tail ≡ no_tail → Spec.is_last_bare first.items ≡ false
    → IsReading grammar second more → IsReading grammar (Spec.joined_reading first second) (words ++ more)
IsReading-joined grammar first second words more reads ends last after =
    search (
      rules,
      spelled_all-joined first.items second.items (tail_words second.tail),
      spelled_all-append first.items [] more,
      every_append,
      AreWellFollowed-append,
    )

-- lines compose, if a line has at most one reading
pub LinesCompose_lem : (grammar : Grammar)
    → ((reading other : Reading) (words : List Text) → IsReading grammar reading words
    → IsReading grammar other words → reading ≡ other) → Spec.LinesCompose grammar
LinesCompose_lem grammar only = record {
  of_both = λ first second words more reads ends last after.
      let both = IsReading-joined grammar first second words more reads ends last after in (
        both,
        λ whole reads_whole. subst (Spec.HasContentOfBoth grammar first second)
            (only (Spec.joined_reading first second) whole (words ++ more) both reads_whole)
            (HasContentOfBoth-joined grammar first second ends),
      );
}

-- the trailing start is after the stop
pub TrailingStartIsAfterStop_lem : (grammar : Grammar) → Spec.TrailingStartIsAfterStop grammar
TrailingStartIsAfterStop_lem grammar = grind (arith, common_steps, length-append, drop-append_seam)

-- ---- free words

-- a word may be kept or left out
kept : (word : Text) (texts words : List Text) → Spec.IsSubsequence texts words
    → Spec.IsSubsequence (word ∷ texts) (word ∷ words)
kept word texts words part = (true ∷ part.0, ap (λ (texts : List Text). word ∷ texts) part.1)

left_out : (word : Text) (texts words : List Text) → Spec.IsSubsequence texts words
    → Spec.IsSubsequence texts (word ∷ words)
left_out word texts words part = (false ∷ part.0, part.1)

-- all words may be kept
all_kept : (words : List Text) → Spec.IsSubsequence words words
all_kept [] = ([], refl)
all_kept (word ∷ words) = kept word words words (all_kept words)

-- the free words of a tail are among its words
IsSubsequence-tail : (tail : Tail) → Spec.IsSubsequence (tail_frees tail) (tail_words tail)
IsSubsequence-tail no_tail = ([], refl)
IsSubsequence-tail (stop words) = left_out _ words words (all_kept words)
IsSubsequence-tail (rest words) = all_kept words

-- words in front may be left out
IsSubsequence-after : (front texts words : List Text) → Spec.IsSubsequence texts words
    → Spec.IsSubsequence texts (front ++ words)
IsSubsequence-after [] texts words part = part
IsSubsequence-after (word ∷ front) texts words part =
    left_out word texts (front ++ words) (IsSubsequence-after front texts words part)

-- the free words of items and a tail are among their words
IsSubsequence-items : (items : List Item) (tail : Tail) → Spec.IsSubsequence
    (free_items items ++ tail_frees tail) (spelled_all items (tail_words tail))
IsSubsequence-items [] tail = IsSubsequence-tail tail
IsSubsequence-items (free word ∷ items) tail = kept word _ _ (IsSubsequence-items items tail)
IsSubsequence-items (item ∷ items) tail = IsSubsequence-after (item_words item) _ _ (IsSubsequence-items items tail)

-- free words are a subsequence of the words
pub FreeWordsAreSubsequence_lem : (grammar : Grammar) → Spec.FreeWordsAreSubsequence grammar
FreeWordsAreSubsequence_lem grammar = record {
  subsequence = λ reading words reads. subst (Spec.IsSubsequence (free_words reading)) reads.spells
      (IsSubsequence-items reading.items reading.tail);
}

-- ---- positions

-- the positions are at least this one, and never decrease
abbrev RiseFrom : ℕ → List GroupOccurrence → Type 0
RiseFrom low [] = Unit {0}
RiseFrom low (occurrence ∷ occurrences) = (low ≤ occurrence.position) × RiseFrom occurrence.position occurrences

-- the same from a lower position
RiseFrom-lower : (low high : ℕ) (occurrences : List GroupOccurrence) → low ≤ high → RiseFrom high occurrences
    → RiseFrom low occurrences
RiseFrom-lower low high [] below rise = tt
RiseFrom-lower low high (occurrence ∷ occurrences) below rise = (omega (arith, rise.0), rise.1)

-- each is at least the one before it
RiseFrom-adjacent : (low : ℕ) (occurrences : List GroupOccurrence) → RiseFrom low occurrences
    → AllAdjacentBelow (λ one next. one.position ≤ next.position) occurrences (length occurrences)
RiseFrom-adjacent low [] rise k default within = absurd (omega arith)
RiseFrom-adjacent low (occurrence ∷ []) rise k default within = absurd (omega arith)
RiseFrom-adjacent low (occurrence ∷ next ∷ occurrences) rise zero default within = rise.1.0
RiseFrom-adjacent low (occurrence ∷ next ∷ occurrences) rise (suc k) default within =
    search (rules, RiseFrom-adjacent occurrence.position (next ∷ occurrences) rise.1 k default (omega arith))

-- the positions of a group's occurrences never decrease
abbrev NeverDecrease : List GroupOccurrence → Type 0
NeverDecrease occurrences = IsNonDecreasingBy (λ occurrence. occurrence.position) occurrences

-- the occurrences of an item rise from its position, if the later ones do
RiseFrom-item : (place position : ℕ) (told : List Mention) (later : List Occurrence)
    → RiseFrom position (occurrences_mentioning place later)
    → RiseFrom position (occurrences_mentioning place (map (at_position position) told ++ later))
RiseFrom-item place position [] later rise = rise
RiseFrom-item place position (first ∷ told) later rise =
    search (rules, cases_Bool, RiseFrom-item place position told later rise)

-- the occurrences of items rise from the first position
RiseFrom-items : (grammar : Grammar) (place before : ℕ) (items : List Item)
    → RiseFrom before (occurrences_mentioning place (occurrences_after before grammar items))
RiseFrom-items grammar place before [] = tt
RiseFrom-items grammar place before (item ∷ items) =
    search (
      rules,
      RiseFrom-item,
      RiseFrom-lower,
      RiseFrom-items grammar place (before + word_count (item ∷ [])) items,
    )

-- the positions of each group's occurrences never decrease
NeverDecrease-reading : (grammar : Grammar) (reading : Reading) (place : ℕ)
    → NeverDecrease (occurrences_mentioning place (occurrences_of grammar reading))
NeverDecrease-reading grammar reading place =
    IsNonDecreasingBy-from_all_adjacent (λ (occurrence : GroupOccurrence). occurrence.position) _
    (RiseFrom-adjacent 0 _ (RiseFrom-items grammar place 0 reading.items))

-- the positions of groups in a reading's matches are in order
pub HavePositionsInOrder-matched : (grammar : Grammar) (reading : Reading) (place : ℕ) (signatures : List Signature)
    → Spec.HavePositionsInOrder (matched place signatures (occurrences_of grammar reading))
HavePositionsInOrder-matched grammar reading place signatures =
    search (rules, AllByRecursion-matched, NeverDecrease-reading)
