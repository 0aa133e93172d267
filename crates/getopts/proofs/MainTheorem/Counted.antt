-- The result of words whose matches, with counts ignored, are known, and the result of checking
-- counts.
use Rattle.std.proofs.Common.{◌≡◌, List, Option, Some, None, Result, Ok, Err, refl, rules}
use Rattle.getopts.specs.Names.{Text}
use Rattle.getopts.specs.Options.{Declared}
use Rattle.getopts.specs.Fail.{Fault}
use Rattle.getopts.specs.Reading.{Reading}
use Rattle.getopts.specs.Matches.{Matched, MatchedGroup, KeepsCounts, IsCountFault, matches_of}
use Rattle.getopts.specs.Results as Spec
use Rattle.getopts.proofs.counts.FirstFault.{first_count_fault-is}

-- a value made of a reading has the same error as the reading
made_of-unless : {X : Type 0} (make : Reading → X) (reading : Reading) (fault : Option Fault)
    → Spec.made_of make (Spec.unless_fault reading fault) ≡ Spec.unless_fault (make reading) fault
made_of-unless make reading fault = search rules

module _ (options : Declared) where
  counted : (matches : Matched) (result : Result Reading Fault)
      → Spec.made_of (matches_of options) result ≡ Ok matches
      → Spec.made_of (matches_of options) (Spec.with_counts_kept options result) ≡ Spec.counted_result matches
  unfolding Spec.counted_result
  counted matches result is = search (rules, made_of-unless)

  -- if words can be read, their result is that of checking the counts
  pub parse_result-counted : (words : List Text) (matches : Matched)
      → Spec.parse_ignoring_counts_result options words ≡ Ok matches
      → Spec.parse_result options words ≡ Spec.counted_result matches
  unfolding Spec.reading_or_error Spec.accepted_reading
  parse_result-counted words matches is = counted matches _ is

  -- and otherwise the scan error is
  pub parse_result-unread : (words : List Text) (fault : Fault)
      → Spec.parse_ignoring_counts_result options words ≡ Err fault → Spec.parse_result options words ≡ Err fault
  unfolding Spec.reading_or_error Spec.accepted_reading
  parse_result-unread words fault is = search rules

-- matches without a count error are the result of checking the counts
pub counted_result-kept : (matches : Matched) → Spec.first_count_fault matches.groups ≡ None
    → Spec.counted_result matches ≡ Ok matches
unfolding Spec.counted_result
counted_result-kept matches kept = rw kept refl

-- and otherwise their count error is
pub counted_result-broken : (matches : Matched) (fault : Fault) → Spec.first_count_fault matches.groups ≡ Some fault
    → Spec.counted_result matches ≡ Err fault
unfolding Spec.counted_result
counted_result-broken matches fault broken = rw broken refl

-- groups without a count error keep their counts
pub KeepsCounts-kept : (groups : List MatchedGroup) → Spec.first_count_fault groups ≡ None → KeepsCounts groups
KeepsCounts-kept groups kept = rw kept at (first_count_fault-is groups)

-- and the computed error is theirs
pub IsCountFault-broken : (groups : List MatchedGroup) (fault : Fault) → Spec.first_count_fault groups ≡ Some fault
    → IsCountFault groups fault
IsCountFault-broken groups fault broken = rw broken at (first_count_fault-is groups)
