-- The laws of the canonical line.
use Rattle.std.proofs.Common.{◌≡◌, ◌<◌, ◌≢◌, ◌↔◌, ℕ, suc, ◌+◌, ◌==◌, Bool, true, false, rules, not, List, [], ◌∷◌}
use Rattle.std.proofs.Common.{◌++◌, drop, length, map, Option, Some, None, refl, sym, ap, ◌∙◌, inl, inr, arith}
use Rattle.std.proofs.Common.{append-nil}
use Rattle.std.proofs.lemmas.Bool.{cases_Bool, and_parts, not-true, not-false, or_cases, or_left, or_right, true≢false}
use Rattle.std.proofs.lemmas.List.{append_cancel_right, length-map}
use Rattle.std.proofs.lemmas.Option.{none-some, option_and_then_some, slice_get-get_or, slice_get-map}
use Rattle.std.proofs.lemmas.Option.{slice_get_within}
use Rattle.std.proofs.lemmas.Simd.{map-map}
use Rattle.std.proofs.lemmas.Grind.{common_steps}
use Rattle.std.specs.Prelude.{if◌then◌else◌}
use Rattle.std.specs.List.{AllByRecursion, Contains, filter, flat_map, list_all}
use Rattle.std.specs.Option.{unwrap_or}
use Rattle.getopts.specs.Names.{Text, IsLawfullyNamed, resolution}
use Rattle.getopts.specs.Options.{Signature, Group, Declared, AreLawfullyNamed, names_of, Grammar, kind_of, grammar_of}
use Rattle.getopts.specs.Reading.{holds_equals, stop_word, Argument, flags, ends_in, value_of, FitsKind, Item, free}
use Rattle.getopts.specs.Reading.{long, cluster, FitsLong, FitsEnd, IsFlag, IsLawfulItem, Reading, IsReading, Mention}
use Rattle.getopts.specs.Reading.{mention_of, mentions, Occurrence, occurrences_of, free_items}
use Rattle.getopts.specs.Parse.{kind_at, IsAcceptedWith}
use Rattle.getopts.specs.Step.{cut_at_equals}
use Rattle.getopts.specs.ReadingLaws.{mentions_of}
use Rattle.getopts.specs.Matches.{occurrences_mentioning, matched, KeepsCounts}
use Rattle.getopts.specs.Canon.{Content, content_of, main_at, IsPlain, IsSound, canonical_word, canonical_line}
use Rattle.getopts.specs.Canon.{attached_value, canonical_item, canonical_reading, with_setting, Says, ReadsBack}
use Rattle.getopts.specs.Canon.{HasCanonicalLine, HasNoItem, HasUnwritable}
use Rattle.getopts.specs.Theorem.{OneLineOneContent}
use Rattle.getopts.specs.declared.kinds.HasArg.{HasArg}
use Rattle.getopts.specs.declared.kinds.ParsingStyle.{ParsingStyle}
use Rattle.getopts.specs.Accessors.{each_value}
use Rattle.std.proofs.Permutation.{every_append}
use Rattle.getopts.proofs.Lists.{AllByRecursion-follows, AllByRecursion-map, filter-map}
use Rattle.getopts.proofs.table.Names.{main_at-Some, resolution-main_name, resolution-nil, resolution_within}
use Rattle.getopts.proofs.Reading.Positions.{mentions_of-items}
use Rattle.getopts.proofs.Reading.Reader.{HasTextNames}
use Rattle.getopts.proofs.Reading.Readings.{only_reading, reading_after_item}
use Rattle.getopts.proofs.Reading.Texts.{begins_with_dash-append, cut_at_equals-append}

-- ---- the content of a reading

-- the main name of the group at this place contains no `=`
abbrev HasPlainMain : List Group → ℕ → Type 0
HasPlainMain groups place = holds_equals (main_at groups place) ≡ false

-- the main name of the group at this place resolves to that group
abbrev pub MainResolves : List Group → ℕ → Type 0
MainResolves groups place = resolution (names_of groups) (main_at groups place) ≡ Some place

-- the main name of the group that a name resolves to, resolves to that group
pub MainResolves-resolution : (groups : List Group) (name : Text) (place : ℕ)
    → resolution (names_of groups) name ≡ Some place → MainResolves groups place
MainResolves-resolution groups name place resolves =
    let within = resolution_within (names_of groups) name place resolves in
    let there = slice_get-get_or (names_of groups) place
    (record { short = []; long = [] }) within in
    rw (main_at-Some groups place _ there)
    (resolution-main_name (names_of groups) name place _ resolves there)

-- the main name of such a group isn't empty
main_at-filled : (groups : List Group) (place : ℕ) → AreLawfullyNamed groups
    → MainResolves groups place → main_at groups place ≢ []
main_at-filled groups place lawful own empty =
    let no_name = resolution-nil (names_of groups)
    (AllByRecursion-map IsLawfullyNamed (λ group. group.signature.names) groups lawful) in
    none-some place (sym no_name ∙ (rw empty at own))

-- a mentioned group is there, and its kind may have the value
abbrev pub FitsGroup : List Group → Mention → Type 0
FitsGroup groups m = (kind : HasArg) × (kind_at groups m.place ≡ Some kind) × FitsKind kind m.value

-- such a group is there
pub FitsGroup-within : (groups : List Group) (m : Mention) → FitsGroup groups m → m.place < length groups
FitsGroup-within groups m fits = search (rules, slice_get-map, slice_get_within, length-map)

-- fitting content: each mentioned group is there, and its kind may have the value
abbrev pub IsFitting : List Group → Content → Type 0
IsFitting groups content = AllByRecursion (FitsGroup groups) content.mentions

-- a mention as a valid item may have it
pub record IsGood (groups : List Group) (m : Mention) : Type 0 where
  own : MainResolves groups m.place
  pub fits : FitsGroup groups m

-- the mention of a name that resolves to a group of this kind
pub IsGood-mention : (options : Declared) (name : Text) (kind : HasArg) (value : Option Text)
    → kind_of options.groups name ≡ Some kind → FitsKind kind value
    → IsGood options.groups (mention_of (grammar_of options) name value)
IsGood-mention options name kind value signature fits =
    option_and_then_some _ (resolution (names_of options.groups) name) kind signature by_place where
      by_place : (place : ℕ) → resolution (names_of options.groups) name ≡ Some place
          → kind_at options.groups place ≡ Some kind
          → IsGood options.groups (mention_of (grammar_of options) name value)
      by_place place resolves there =
          let same : unwrap_or (resolution (names_of options.groups) name) 0 ≡ place =
          ap (λ o. unwrap_or o 0) resolves in
          rw same (search (rules, MainResolves-resolution))

-- a valid argument gives a value that the kind may have
pub FitsKind-long : (kind : HasArg) (argument : Argument) → FitsLong kind argument → FitsKind kind (value_of argument)
FitsKind-long kind argument fits = search rules

FitsKind-end : (kind : HasArg) (argument : Argument) → FitsEnd kind argument → FitsKind kind (value_of argument)
FitsKind-end kind argument fits = search rules

-- the mentions of flags, of a valid item and of valid items
pub IsGood-flags : (options : Declared) (names : List ℕ) → AllByRecursion (IsFlag (grammar_of options)) names
    → AllByRecursion (IsGood options.groups) (map (λ name. mention_of (grammar_of options) (name ∷ []) None) names)
IsGood-flags options names each = search (rules, AllByRecursion-map, AllByRecursion-follows, IsGood-mention)

IsGood-item : (options : Declared) (item : Item) → IsLawfulItem (grammar_of options) item
    → AllByRecursion (IsGood options.groups) (mentions (grammar_of options) item)
IsGood-item options (free word) lawful = tt
IsGood-item options (long dashes name argument) lawful = search (rules, IsGood-mention, FitsKind-long)
IsGood-item options (cluster names flags) lawful = search (rules, every_append, IsGood-flags)
IsGood-item options (cluster names (ends_in option argument)) lawful =
    search (rules, every_append, IsGood-flags, IsGood-mention, FitsKind-end)

pub IsGood-items : (options : Declared) (items : List Item) → AllByRecursion (IsLawfulItem (grammar_of options)) items
    → AllByRecursion (IsGood options.groups) (flat_map (mentions (grammar_of options)) items)
IsGood-items options [] lawful = tt
IsGood-items options (item ∷ items) lawful =
    search (rules, every_append, IsGood-item, IsGood-items options items lawful.1)

pub IsGood-reading : (options : Declared) (reading : Reading)
    → AllByRecursion (IsLawfulItem (grammar_of options)) reading.items
    → AllByRecursion (IsGood options.groups) (mentions_of (grammar_of options) reading)
IsGood-reading options reading lawful = search (rules, mentions_of-items, IsGood-items)

-- the content of any reading is fitting
pub IsFitting-reading : (options : Declared) (reading : Reading) (words : List Text)
    → IsReading (grammar_of options) reading words → IsFitting options.groups (content_of options reading)
IsFitting-reading options reading words reads = search (rules, AllByRecursion-follows, IsGood-reading)

-- ---- the canonical reading

value_of-attached_value : (value : Option Text) → value_of (attached_value value) ≡ value
value_of-attached_value value = search rules

-- canonical items mention what they were written for
mentions-canonical_all : (options : Declared) (ms : List Mention) → AllByRecursion (IsGood options.groups) ms
    → flat_map (mentions (grammar_of options)) (map (canonical_item options.groups) ms) ≡ ms
mentions-canonical_all options [] good = refl
mentions-canonical_all options (m ∷ ms) good =
    rw (good.0.own, value_of-attached_value m.value, mentions-canonical_all options ms good.1) refl

-- no canonical item is free
free_items-canonical : (groups : List Group) (ms : List Mention) → free_items (map (canonical_item groups) ms) ≡ []
free_items-canonical groups [] = refl
free_items-canonical groups (m ∷ ms) = free_items-canonical groups ms

-- the canonical reading reads the canonical line
IsReading-canonical : (options : Declared) (ms : List Mention) (frees : List Text)
    → AllByRecursion (IsGood options.groups) ms
    → AllByRecursion (λ m. HasPlainMain options.groups m.place) ms
    → IsReading (grammar_of options)
    (canonical_reading options.groups (record { mentions = ms; free = frees }))
    (canonical_line options.groups (record { mentions = ms; free = frees }))
IsReading-canonical options [] frees good plain = record { spells = refl; items = tt; tail = tt; followed = tt }
IsReading-canonical options (m ∷ ms) frees good plain =
    search (rules, reading_after_item, IsReading-canonical options ms frees good.1 plain.1)

-- and has the content
content_of-canonical : (options : Declared) (content : Content)
    → AllByRecursion (IsGood options.groups) content.mentions
    → content_of options (canonical_reading options.groups content) ≡ content
content_of-canonical options content good = simp (mentions_of-items, mentions-canonical_all, free_items-canonical)

-- ---- counts

-- the values of a group's occurrences, from the mentions
abbrev pub values_at : ℕ → List Mention → List (Option Text)
values_at place ms = map (λ (m : Mention). m.value) (filter (λ (m : Mention). m.place == place) ms)

pub values-occurrences_mentioning : (place : ℕ) (os : List Occurrence)
    → each_value (occurrences_mentioning place os) ≡ values_at place (map (λ (o : Occurrence). o.mention) os)
values-occurrences_mentioning place os = simp (map-map, filter-map)

-- a group has as many occurrences as mentions
length-occurrences_mentioning : (place : ℕ) (os : List Occurrence)
    → length (occurrences_mentioning place os) ≡ length (values_at place (map (λ (o : Occurrence). o.mention) os))
length-occurrences_mentioning place os = search (rules, length-map, values-occurrences_mentioning)

-- the counts depend on the number of occurrences for each place
KeepsCounts-numbers : (signatures : List Signature) (place : ℕ) (old new : List Occurrence)
    → ((k : ℕ) → length (occurrences_mentioning k old) ≡ length (occurrences_mentioning k new))
    → KeepsCounts (matched place signatures old) → KeepsCounts (matched place signatures new)
KeepsCounts-numbers [] place old new same keeps = tt
KeepsCounts-numbers (signature ∷ signatures) place old new same keeps =
    search (rules, KeepsCounts-numbers signatures (place + 1) old new same keeps.1)

-- readings with equal mentions keep the counts alike
pub KeepsCounts-mentions : (signatures : List Signature) (grammar other_grammar : Grammar)
    (reading other : Reading) → mentions_of grammar reading ≡ mentions_of other_grammar other
    → KeepsCounts (matched 0 signatures (occurrences_of grammar reading))
    → KeepsCounts (matched 0 signatures (occurrences_of other_grammar other))
KeepsCounts-mentions signatures grammar other_grammar reading other same keeps =
    search (rules, KeepsCounts-numbers, length-occurrences_mentioning)

-- words that are accepted with a content, in some style and mode, have this content
pub Says-accepted : (options : Declared) (style : ParsingStyle) (long_only : Bool)
    (words : List Text) (content : Content)
    → IsAcceptedWith (with_setting options style long_only) words content
    → Says options words content
Says-accepted options style long_only words content accepted = record {
  style = style;
  long_only = long_only;
  reading = accepted.reading;
  reads = record { reads = (accepted.only accepted.reading).1 refl; keeps = accepted.counts };
  content_is = accepted.content_is;
}

-- ---- the canonical line is read

-- the content of a line is sound
pub IsSound-says : (options : Declared) (words : List Text) (content : Content)
    → Says options words content → IsSound options.groups content
IsSound-says options words content says =
    rw says.content_is (AllByRecursion-follows (IsGood options.groups)
    (λ m. MainResolves options.groups m.place) (λ m good. good.own) _
    (IsGood-reading (with_setting options says.style says.long_only) says.reading says.reads.reads.items))

-- the canonical line reads back in both styles and both modes
abbrev ReadsBackEverywhere : Declared → Content → Type 0
ReadsBackEverywhere options content = (style : ParsingStyle) (long_only : Bool)
    → ReadsBack (with_setting options style long_only) content

-- the content of a line reads back, if it is plain
ReadsBackEverywhere-says : (options : Declared) (words : List Text) (content : Content) → Says options words content
    → IsPlain options.groups content → ReadsBackEverywhere options content
ReadsBackEverywhere-says options words content says plain style long_only =
    let said = with_setting options says.style says.long_only in
    let set = with_setting options style long_only in
    let good : AllByRecursion (IsGood options.groups) content.mentions = rw says.content_is
    (IsGood-reading said says.reading says.reads.reads.items) in
    let back = content_of-canonical set content good in
    let told : mentions_of (grammar_of said) says.reading ≡ mentions_of (grammar_of set)
    (canonical_reading options.groups content) =
    ap (λ c. c.mentions) (sym says.content_is ∙ sym back) in
    search (rules, IsReading-canonical set content.mentions content.free good plain, KeepsCounts-mentions)

-- a canonical line that reads back says nothing else, since a line has one reading at most
says_nothing_else-reads_back : (options : Declared) (content : Content)
    → HasTextNames (grammar_of options) → ReadsBackEverywhere options content → (other : Content)
    → Says options (canonical_line options.groups content) other → other ≡ content
says_nothing_else-reads_back options content named back other says =
    let there = back says.style says.long_only in
    let set = with_setting options says.style says.long_only in
    let same = only_reading (grammar_of set)
    (record { empty = named.empty; ascii = named.ascii })
    (canonical_line options.groups content) says.reading _
    says.reads.reads there.reads.reads in
    says.content_is ∙ ap (content_of set) same ∙ there.same

-- ---- the line determines the content

-- `--`, or another word of two bytes
abbrev is_stop : Text → Bool
is_stop (c ∷ d ∷ []) = true
is_stop word = false

-- the content of a canonical line
abbrev content_in : List Group → List Text → Content
content_in groups [] = record { mentions = []; free = [] }
content_in groups (word ∷ words) =
    let cut = cut_at_equals (drop 2 word) in
    let place = resolution (names_of groups) cut.0 in
    let mention : Mention = record { place = unwrap_or place 0; value = cut.1 } in
    let others : Content = content_in groups words in
    if is_stop word then record { mentions = []; free = words }
    else record { mentions = mention ∷ others.mentions; free = others.free }

-- a name without `=` can end in only one place, so the line determines the content
content_in-canonical : (groups : List Group) (ms : List Mention) (frees : List Text) → AreLawfullyNamed groups
    → AllByRecursion (λ m. MainResolves groups m.place) ms → AllByRecursion (λ m. HasPlainMain groups m.place) ms
    → content_in groups (map (canonical_word groups) ms ++ stop_word ∷ frees) ≡ record { mentions = ms; free = frees }
content_in-canonical groups [] frees lawful own plain = refl
content_in-canonical groups (m ∷ ms) frees lawful own plain =
    search (rules, main_at-filled, cut_at_equals-append, content_in-canonical groups ms frees lawful own.1 plain.1)

-- `content_in` gives each content back from its canonical line.
-- sound and plain contents have equal canonical lines exactly if they are equal
pub canonical_line-same : (groups : List Group) (content other : Content) → AreLawfullyNamed groups
    → IsSound groups content → IsPlain groups content → IsSound groups other → IsPlain groups other
    → (canonical_line groups content ≡ canonical_line groups other) ↔ (content ≡ other)
canonical_line-same groups content other lawful sound plain sound_other plain_other =
    search (
      rules,
      content_in-canonical groups content.mentions content.free lawful sound plain,
      content_in-canonical groups other.mentions other.free lawful sound_other plain_other,
    )

-- the laws of the canonical line of a line's plain content
pub HasCanonicalLine-says : (options : Declared) (words : List Text) (content : Content)
    → AreLawfullyNamed options.groups → HasTextNames (grammar_of options) → Says options words content
    → IsPlain options.groups content → HasCanonicalLine options content
HasCanonicalLine-says options words content lawful named says plain =
    let sound = IsSound-says options words content says in
    let back = ReadsBackEverywhere-says options words content says plain in
    let nothing_else = says_nothing_else-reads_back options content named back in
    record {
      sound = sound;
      reads_back = back;
      says_nothing_else = nothing_else;
      again = λ other is. ap (canonical_line options.groups) (nothing_else other is);
      only = λ other sound_other plain_other.
          canonical_line-same options.groups other content lawful sound_other plain_other sound
          plain;
    }

-- two canonical lines are equal exactly if they have the same content
pub OneLineOneContent-lawful : (options : Declared) → AreLawfullyNamed options.groups → OneLineOneContent options
OneLineOneContent-lawful options lawful words others content other
    says plain says_other plain_other = search (rules, canonical_line-same, IsSound-says)

-- ---- contents that can't be written

-- if the main name contains `=`, no valid item with this one mention spells the canonical word
pub HasNoItem-equals : (options : Declared) (m : Mention)
    → holds_equals (main_at options.groups m.place) ≡ true → HasNoItem options m
HasNoItem-equals options m holds style long_only item lawful just same =
    grind (
      arith,
      common_steps,
      true≢false,
      begins_with_dash-append,
      append_cancel_right,
      append-nil,
      or_cases,
      or_left,
      or_right,
    )

-- if not all pass a test, one fails it
not_all : {X : Type 0} (p : X → Bool) (xs : List X) → list_all p xs ≡ false → (x : X) × Contains xs x × (p x ≡ false)
not_all p [] fails = absurd (true≢false fails)
not_all p (x ∷ xs) fails = elim (cases_Bool (p x)) [
  | inl passes ↦
      let failing = not_all p xs (rw passes at fails) in
      (failing.0, (suc failing.1.0, omega (arith, failing.1.1), failing.1.2), failing.2)
  | inr here ↦ (x, (0, omega arith, refl), here)
]

-- whether no mentioned group has a main name that contains `=`
abbrev pub is_plain : List Group → List Mention → Bool
is_plain groups mentions = list_all (λ m. not (holds_equals (main_at groups m.place))) mentions

-- if none has, they are plain
pub is_plain-true : (groups : List Group) (mentions : List Mention)
    → is_plain groups mentions ≡ true → AllByRecursion (λ m. HasPlainMain groups m.place) mentions
is_plain-true groups [] plain = tt
is_plain-true groups (m ∷ ms) plain =
    let parts = and_parts (not (holds_equals (main_at groups m.place)))
    (is_plain groups ms) plain in
    (not-true (holds_equals (main_at groups m.place)) parts.0, is_plain-true groups ms parts.1)

pub is_plain-from : (groups : List Group) (mentions : List Mention)
    → AllByRecursion (λ m. HasPlainMain groups m.place) mentions → is_plain groups mentions ≡ true
is_plain-from groups [] plain = refl
is_plain-from groups (m ∷ ms) plain = rw (plain.0) (is_plain-from groups ms plain.1)

-- a content that isn't plain has a mention that can't be written
pub HasUnwritable-content : (options : Declared) (content : Content)
    → is_plain options.groups content.mentions ≡ false → HasUnwritable options content
HasUnwritable-content options content some =
    let failing = not_all (λ m. not (holds_equals (main_at options.groups m.place))) _ some in
    search (rules, HasNoItem-equals, not-false)
