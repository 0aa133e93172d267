-- What is in the matches of a reading, and whether counts are kept.
use Rattle.std.specs.Prelude.{◌≡◌, ◌==◌, if◌then◌else◌, ℕ, ◌+◌, Bool, true, nat_lt, List, [], ◌∷◌}
use Rattle.std.specs.Prelude.{◌++◌, length, map, Option}
use Rattle.std.specs.List.{AllByRecursion, filter}
use Rattle.getopts.specs.Names.{Text, main_name}
use Rattle.getopts.specs.Options.{Signature, Declared, signatures_of, grammar_of}
use Rattle.getopts.specs.Fail.{Fault, option_missing, option_duplicated}
use Rattle.getopts.specs.Reading.{Reading, Occurrence, occurrences_of, free_words, trailing_start}
use Rattle.getopts.specs.declared.kinds.Occur.{Occur}
use Rattle.getopts.specs.declared.kinds.Occur.TheVariants.{Req, Optional, Multi}

-- an occurrence of a known option
pub record GroupOccurrence : Type 0 where
  pub position : ℕ
  pub value : Option Text

-- a group in matches, with its occurrences in command-line order
pub record MatchedGroup : Type 0 where
  pub signature : Signature
  pub occurrences : List GroupOccurrence

-- matches; `trailing_start` is where the words after a stop begin among the free words
pub record Matched : Type 0 where
  pub groups : List MatchedGroup
  pub free : List Text
  pub trailing_start : Option ℕ

abbrev pub without_group : Occurrence → GroupOccurrence
without_group occurrence =
    record { position = occurrence.position; value = occurrence.mention.value }

abbrev pub occurrences_mentioning : ℕ → List Occurrence → List GroupOccurrence
occurrences_mentioning place occurrences =
    map without_group (filter (λ o. o.mention.place == place) occurrences)

-- each group with its occurrences; the first group has this place
abbrev pub matched : ℕ → List Signature → List Occurrence → List MatchedGroup
matched place [] occurrences = []
matched place (signature ∷ signatures) occurrences =
    record { signature = signature; occurrences = occurrences_mentioning place occurrences }
    ∷ matched (place + 1) signatures occurrences

abbrev pub matches_of : Declared → Reading → Matched
matches_of options reading = record {
  groups = matched 0 (signatures_of options.groups) (occurrences_of (grammar_of options) reading);
  free = free_words reading;
  trailing_start = trailing_start reading;
}

abbrev pub fits_count : Occur → ℕ → Bool
fits_count Req count = count == 1
fits_count Optional count = nat_lt count 2
fits_count Multi count = true

-- The group occurs as often as it may.
abbrev pub KeepsCount : MatchedGroup → Type 0
KeepsCount group = fits_count group.signature.occur (length group.occurrences) ≡ true

-- Each group occurs as often as it may.
abbrev pub KeepsCounts : List MatchedGroup → Type 0
KeepsCounts groups = AllByRecursion KeepsCount groups

-- the error of a group with this main name and a wrong number of occurrences
abbrev pub count_fault : Text → ℕ → Fault
count_fault main count = if count == 0 then option_missing main else option_duplicated main

-- This is the count error of the groups. It reports the first group that breaks its count.
pub record IsCountFault (groups : List MatchedGroup) (fault : Fault) : Type 0 where
  pub before : List MatchedGroup
  pub group : MatchedGroup
  pub after : List MatchedGroup
  pub groups_are : groups ≡ before ++ group ∷ after
  pub kept : KeepsCounts before
  pub broken : ¬ (KeepsCount group)
  pub fault_is : fault ≡ count_fault (main_name group.signature.names) (length group.occurrences)
