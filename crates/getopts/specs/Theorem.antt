-- The main theorem: the result of `parse` for any words, and when two canonical lines are equal.
use Rattle.std.specs.Prelude.{◌≡◌, ◌↔◌, ◌⊎◌, Bool, List}
use Rattle.getopts.specs.Accessors.{occurrences_of_name, each_value}
use Rattle.getopts.specs.Only.{AtMostOne}
use Rattle.getopts.specs.Names.{Text, AreTexts}
use Rattle.getopts.specs.Options.{Declared, grammar_of}
use Rattle.getopts.specs.Fail.{Fault}
use Rattle.getopts.specs.Reading.{Reading, IsScanFault}
use Rattle.getopts.specs.Matches.{Matched, matches_of, IsCountFault}
use Rattle.getopts.specs.Parse.{Reads, HasReading, IsAccepted, IsRefused, IsWritten, HasResults}
use Rattle.getopts.specs.Canon.{Content, content_of, IsPlain, canonical_line, IsCountKeeping, Says}
use Rattle.getopts.specs.Canon.{with_setting}
use Rattle.getopts.specs.declared.kinds.ParsingStyle.{ParsingStyle}

-- Any words have at most one reading.
abbrev pub OneReading : Declared → Type 0
OneReading options = (words : List Text) → AtMostOne (Reads options words)

-- Words are accepted if and only if a reading keeps the counts; the matches are what it gives.
abbrev pub AcceptedExactlyWhen : Declared → Type 0
AcceptedExactlyWhen options = (words : List Text) (matches : Matched)
    → IsAccepted options words matches
    ↔ ((reading : Reading) × IsCountKeeping options reading words
    × (matches ≡ matches_of options reading))

-- Words are rejected, by a scan error or a count error, if and only if no reading keeps the counts.
abbrev pub RefusedExactlyWhen : Declared → Type 0
RefusedExactlyWhen options = (words : List Text) (fault : Fault)
    → IsRefused options words fault
    ↔ (((reading : Reading) → ¬ (IsCountKeeping options reading words))
    × (IsScanFault (grammar_of options) words fault
    ⊎ ((reading : Reading) × Reads options words reading
    × IsCountFault (matches_of options reading).groups fault)))

-- Any UTF-8 words have exactly one result of each call.
abbrev pub HaveResults : Declared → Type 0
HaveResults options = (words : List Text) → AreTexts words → HasResults options words

-- Two matches have the same values and free words; positions and the trailing start may differ.
pub record HaveSameValues (matches other : Matched) : Type 0 where
  pub values : (name : Text)
      → each_value (occurrences_of_name other.groups name)
      ≡ each_value (occurrences_of_name matches.groups name)
  pub free : other.free ≡ matches.free

-- Words with the content of accepted words are accepted, with the same values and free words.
abbrev pub OneContentHoldsSame : Declared → Type 0
OneContentHoldsSame options = (words others : List Text) (reading other : Reading)
    (matches : Matched)
    → IsAccepted options words matches
    → Reads options words reading → Reads options others other
    → content_of options other ≡ content_of options reading
    → IsAccepted options others (matches_of options other)
    × HaveSameValues matches (matches_of options other)

-- The line is accepted, with the values and free words of these matches.
pub record ReadAgain (options : Declared) (line : List Text) (matches : Matched) : Type 0 where
  pub again : Matched
  pub accepted : IsAccepted options line again
  pub same : HaveSameValues matches again

-- In any style and mode, a canonical line gives the values and free words of the original words.
abbrev pub LinesReadAgain : Declared → Type 0
LinesReadAgain options = (words line : List Text) (matches : Matched) → IsWritten options words line
    → HasReading options words matches → (style : ParsingStyle) (long_only : Bool)
    → ReadAgain (with_setting options style long_only) line matches

-- Plain contents, in any style and mode, are equal if and only if their canonical lines are.
abbrev pub OneLineOneContent : Declared → Type 0
OneLineOneContent options = (words others : List Text) (content other : Content)
    → Says options words content → IsPlain options.groups content
    → Says options others other → IsPlain options.groups other
    → (canonical_line options.groups content ≡ canonical_line options.groups other)
    ↔ (content ≡ other)
