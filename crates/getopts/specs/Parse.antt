-- The results of the calls that read a command line, as relations. They state what the library
-- promises; `Results` defines the same results as functions. If options may be declared and words
-- are UTF-8, exactly one of these is true: the words are accepted, break a count, or have no
-- reading.
use Rattle.std.specs.Prelude.{◌≡◌, ◌⊎◌, List, Option, MatchOption, Result, MatchResult, ⊤}
use Rattle.std.specs.Prelude.{Some, None, Ok, Err, ◌<◌, ℕ, [], ◌∷◌, ◌++◌, drop, length, map, IfSome}
use Rattle.std.specs.Prelude.{IsSome, slice_get}
use Rattle.std.specs.List.{AllByRecursion}
use Rattle.std.specs.Option.{option_map}
use Rattle.getopts.specs.Only.{IsTheOnly}
use Rattle.getopts.specs.Names.{Text}
use Rattle.getopts.specs.Options.{Declared, grammar_of, Declares, Group, signatures_of}
use Rattle.getopts.specs.Options.{kind_of, occur_of}
use Rattle.getopts.specs.Fail.{Fault, IsOutOfMemoryOr}
use Rattle.getopts.specs.Reading.{Reading, IsReading, IsScanFault, Given, order_of_reading}
use Rattle.getopts.specs.Reading.{options_in, frees_in, FitsKind, stop_word, option}
use Rattle.getopts.specs.Reading.{free_word}
use Rattle.getopts.specs.ReadingLaws.{HavePositionsInOrder, HavePositionsBelow}
use Rattle.getopts.specs.Matches.{Matched, matches_of, KeepsCounts, IsCountFault, MatchedGroup}
use Rattle.getopts.specs.Accessors.{IsDefined, occurrences_of_name, first_value}
use Rattle.getopts.specs.Canon.{Content, IsPlain, IsSound, canonical_line, HasCanonicalLine}
use Rattle.getopts.specs.Canon.{HasUnwritable, IsCountKeeping, content_of}
use Rattle.getopts.specs.Results.{parse_ignoring_counts_result, parse_result, reading_or_error}
use Rattle.getopts.specs.Results.{accepted_reading, canonical_result, parse_in_order_result}
use Rattle.getopts.specs.declared.fail.Fail.{Fail}
use Rattle.getopts.specs.declared.kinds.HasArg.{HasArg}
use Rattle.getopts.specs.declared.kinds.HasArg.TheVariants.{Yes}
use Rattle.getopts.specs.declared.kinds.Occur.TheVariants.{Req}
use Rattle.getopts.specs.declared.kinds.ParsingStyle.TheVariants.{StopAtFirstFree}

-- ---- accepted and rejected words

-- This is a reading of the words by these options.
abbrev pub Reads : Declared → List Text → Reading → Type 0
Reads options words reading = IsReading (grammar_of options) reading words

-- The words have exactly one reading, and these are its matches.
pub record HasReading (options : Declared) (words : List Text) (matches : Matched) : Type 0 where
  pub reading : Reading
  pub only : IsTheOnly (Reads options words) reading
  pub matches_are : matches ≡ matches_of options reading

-- The words are accepted with these matches.
pub record IsAccepted (options : Declared) (words : List Text) (matches : Matched) : Type 0 where
  pub read : HasReading options words matches
  pub counts : KeepsCounts matches.groups

-- The words have exactly one reading, which breaks the counts with this error.
pub record BreaksCounts (options : Declared) (words : List Text) (fault : Fault) : Type 0 where
  pub matches : Matched
  pub read : HasReading options words matches
  pub breaks : IsCountFault matches.groups fault

-- The words have no reading, and this is their only scan error.
pub record HasNoReading (options : Declared) (words : List Text) (fault : Fault) : Type 0 where
  pub only : IsTheOnly (IsScanFault (grammar_of options) words) fault
  pub no_reading : (reading : Reading) → ¬ (Reads options words reading)

-- The words are rejected with this error.
abbrev pub IsRefused : Declared → List Text → Fault → Type 0
IsRefused options words fault = HasNoReading options words fault ⊎ BreaksCounts options words fault

-- ---- contents, canonical lines and orders

-- The words are accepted with this content.
pub record IsAcceptedWith (options : Declared) (words : List Text) (content : Content)
    : Type 0 where
  pub reading : Reading
  pub only : IsTheOnly (Reads options words) reading
  pub counts : KeepsCounts (matches_of options reading).groups
  pub content_is : content ≡ content_of options reading

-- The words are accepted with a plain content, and this is its canonical line.
pub record IsWritten (options : Declared) (words line : List Text) : Type 0 where
  pub content : Content
  pub accepted : IsAcceptedWith options words content
  pub plain : IsPlain options.groups content
  pub line_is : line ≡ canonical_line options.groups content

-- The words are accepted with a content that isn't plain, so they have no canonical line.
pub record IsUnwritable (options : Declared) (words : List Text) : Type 0 where
  pub content : Content
  pub accepted : IsAcceptedWith options words content
  pub sound : IsSound options.groups content
  pub not_plain : ¬ (IsPlain options.groups content)
  pub unwritable : HasUnwritable options content

-- Each line that `canonical` returns obeys the laws of its content's canonical line.
abbrev pub KeepsLineLaws : Declared → Type 0
KeepsLineLaws options = (words line : List Text) → (written : IsWritten options words line)
    → HasCanonicalLine options written.content

-- The words are accepted, and this is the order of their reading.
pub record IsOrder (options : Declared) (words : List Text) (order : List Given) : Type 0 where
  pub content : Content
  pub accepted : IsAcceptedWith options words content
  pub order_is : order ≡ order_of_reading (grammar_of options) accepted.reading
  pub options_are : options_in order ≡ content.mentions
  pub frees_are : frees_in order ≡ content.free

-- ---- the result of each call
-- Any call may also return out of memory (see `ReturnsResult`).

-- This is the reading of the words, or why there is none.
abbrev pub IsReadingOf : Declared → List Text → Result Reading Fault → Type 0
IsReadingOf options words result =
    MatchResult result (Reads options words) (HasNoReading options words)

-- This is the reading of the words that keeps the counts, or their first error.
abbrev pub IsLineOf : Declared → List Text → Result Reading Fault → Type 0
IsLineOf options words result =
    MatchResult result (λ reading. IsCountKeeping options reading words) (IsRefused options words)

-- This is the result of `parse`.
abbrev pub IsParseResult : Declared → List Text → Result Matched Fault → Type 0
IsParseResult options words result =
    MatchResult result (IsAccepted options words) (IsRefused options words)

-- This is the result of `parse_ignoring_counts`.
abbrev pub IsReadResult : Declared → List Text → Result Matched Fault → Type 0
IsReadResult options words result =
    MatchResult result (HasReading options words) (HasNoReading options words)

-- This is the result of `canonical`.
abbrev pub IsCanonicalResult : Declared → List Text → Result (Option (List Text)) Fault → Type 0
IsCanonicalResult options words result =
    MatchResult result
    (λ written. MatchOption written (IsUnwritable options words) (IsWritten options words))
    (IsRefused options words)

-- This is the result of `parse_in_order`.
abbrev pub IsOrderResult : Declared → List Text → Result (List Given) Fault → Type 0
IsOrderResult options words result =
    MatchResult result (IsOrder options words) (IsRefused options words)

-- Each function computes the only result that its relation allows.
pub record HasResults (options : Declared) (words : List Text) : Type 0 where
  pub reading : IsTheOnly (IsReadingOf options words) (reading_or_error options words)
  pub line : IsTheOnly (IsLineOf options words) (accepted_reading options words)
  pub parse : IsTheOnly (IsParseResult options words) (parse_result options words)
  pub read : IsTheOnly (IsReadResult options words) (parse_ignoring_counts_result options words)
  pub canonical : IsTheOnly (IsCanonicalResult options words) (canonical_result options words)
  pub order : IsTheOnly (IsOrderResult options words) (parse_in_order_result options words)

-- The call returns out of memory or, with its value converted, a result with the property `Is`.
abbrev pub ReturnsConverted : {A X : Type 0} → (A → X) → Result A Fail → (Result X Fault → Type 0)
    → Type 0
ReturnsConverted convert result Is =
    MatchResult result (λ value. Is (Ok (convert value))) (λ fail. IsOutOfMemoryOr fail (λ fault. Is (Err fault)))

-- The call returns out of memory, or this result.
abbrev pub ReturnsResult : {X : Type 0} → Result X Fail → Result X Fault → Type 0
ReturnsResult returned result = ReturnsConverted (λ value. value) returned (λ it. result ≡ it)

-- ---- what accepted words and their matches obey

-- The groups in the matches have the names and kinds of the options' groups, in the same order.
abbrev pub AreGroupsOf : Declared → List MatchedGroup → Type 0
AreGroupsOf options groups = map (λ group. group.signature) groups ≡ signatures_of options.groups

-- The occurrences of each group have values that fit its kind.
abbrev pub HaveValuesByKind : List MatchedGroup → Type 0
HaveValuesByKind groups =
    AllByRecursion (λ group. AllByRecursion (λ occurrence. FitsKind group.signature.kind occurrence.value)
    group.occurrences) groups

-- The groups in the matches fit the options, except that counts may be broken.
pub record FitOptions (options : Declared) (groups : List MatchedGroup) : Type 0 where
  pub same_groups : AreGroupsOf options groups
  pub positions_in_order : HavePositionsInOrder groups
  pub values_fit : HaveValuesByKind groups
  pub defined : (name : Text) → Declares options name → IsDefined groups name
  pub needed : (name : Text) → kind_of options.groups name ≡ Some Yes
      → 0 < length (occurrences_of_name groups name)
      → IsSome (first_value (occurrences_of_name groups name))

-- Accepted matches also keep the counts, so each required option was given exactly once.
pub record FitOptionsAndCounts (options : Declared) (groups : List MatchedGroup) : Type 0 where
  pub given : FitOptions options groups
  pub counts_kept : KeepsCounts groups
  pub required : (name : Text) → occur_of options.groups name ≡ Some Req
      → length (occurrences_of_name groups name) ≡ 1

abbrev pub kind_at : List Group → ℕ → Option HasArg
kind_at groups place = option_map (λ (group : Group). group.signature.kind) (slice_get groups place)

-- The option is declared, and its value fits its kind. A free word is always allowed.
abbrev pub IsDeclared : List Group → Given → Type 0
IsDeclared groups (option place value) =
    (place < length groups) × IfSome (kind_at groups place) (λ kind. FitsKind kind value)
IsDeclared groups (free_word word) = ⊤

-- The words end in the free words. The words before these give the same options by themselves.
pub record EndsInFreeWords (options : Declared) (words : List Text) (matches : Matched)
    : Type 0 where
  pub before : List Text
  pub words_are : words ≡ before ++ matches.free
  pub alone : parse_result options before
      ≡ Ok (record matches { free = []; trailing_start = None })

-- Under `StopAtFirstFree`, options precede the free words, which are the last words of the line.
abbrev pub HaveLastWordsFree : Declared → List Text → Matched → Type 0
HaveLastWordsFree options words matches =
    options.style ≡ StopAtFirstFree → EndsInFreeWords options words matches

-- The words end in `--` and the free words from the trailing start on.
pub record EndsInTrailing (words : List Text) (matches : Matched) (start : ℕ) : Type 0 where
  pub below : start < length matches.free
  pub before : List Text
  pub words_are : words ≡ before ++ stop_word ∷ drop start matches.free

-- The options accept the words with these matches.
pub record Accepts (options : Declared) (words : List Text) (matches : Matched) : Type 0 where
  pub accepted : IsAccepted options words matches
  pub positions_below : HavePositionsBelow (length words) matches.groups
  pub free_last : HaveLastWordsFree options words matches
  pub trailing : IfSome matches.trailing_start (EndsInTrailing words matches)
