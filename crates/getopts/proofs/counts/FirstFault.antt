-- The error of the first group that breaks its count, computed.
use Rattle.std.proofs.Common.{◌≡◌, Bool, true, false, List, [], ◌∷◌, length, ◌++◌, Option, Some}
use Rattle.std.proofs.Common.{None, MatchOption, refl, ap, sym, ◌∙◌, rules}
use Rattle.std.specs.Prelude.{if◌then◌else◌}
use Rattle.std.proofs.lemmas.Bool.{false≢true, false_from_ne_true}
use Rattle.getopts.specs.Fail.{Fault}
use Rattle.getopts.specs.Matches.{MatchedGroup, fits_count, KeepsCount, KeepsCounts, IsCountFault}
use Rattle.getopts.specs.Results.{first_count_fault, broken_count}

-- the groups keep their counts, or this is their error
abbrev pub HaveFault : List MatchedGroup → Option Fault → Type 0
HaveFault groups fault = MatchOption fault (KeepsCounts groups) (IsCountFault groups)

-- one more group, which keeps its count
HaveFault-more : (group : MatchedGroup) (groups : List MatchedGroup) (fault : Option Fault)
    → KeepsCount group → HaveFault groups fault → HaveFault (group ∷ groups) fault
HaveFault-more group groups None kept others = (kept, others)
HaveFault-more group groups (Some fault) kept is = record {
  before = group ∷ is.before;
  group = is.group;
  after = is.after;
  groups_are = ap (λ (gs : List MatchedGroup). group ∷ gs) is.groups_are;
  kept = (kept, is.kept);
  broken = is.broken;
  fault_is = is.fault_is;
}

-- the computed error is the groups' error
pub first_count_fault-is : (groups : List MatchedGroup) → HaveFault groups (first_count_fault groups)
first_count_fault-is [] = tt
first_count_fault-is (group ∷ groups) =
    here (fits_count group.signature.occur (length group.occurrences)) refl
    (first_count_fault-is groups) where
      here : (fits : Bool) → fits_count group.signature.occur (length group.occurrences) ≡ fits
          → HaveFault groups (first_count_fault groups) → HaveFault (group ∷ groups)
          (if fits then first_count_fault groups else Some (broken_count group))
      here true fits others = HaveFault-more group groups (first_count_fault groups) fits others
      here false breaks others = record {
        before = [];
        group = group;
        after = groups;
        groups_are = refl;
        kept = tt;
        broken = λ kept. false≢true (sym breaks ∙ kept);
        fault_is = refl;
      }

-- groups that keep their counts have no error
pub first_count_fault-kept : (groups : List MatchedGroup) → KeepsCounts groups → first_count_fault groups ≡ None
first_count_fault-kept [] kept = refl
first_count_fault-kept (group ∷ groups) kept = search (rules, first_count_fault-kept groups kept.1)

first_count_fault-at : (before : List MatchedGroup) (group : MatchedGroup)
    (after : List MatchedGroup) → KeepsCounts before → ¬ (KeepsCount group)
    → first_count_fault (before ++ group ∷ after) ≡ Some (broken_count group)
first_count_fault-at [] group after kept broken = cc (false_from_ne_true _ broken)
first_count_fault-at (first ∷ before) group after kept broken =
    rw kept.0 (first_count_fault-at before group after kept.1 broken)

-- a count error is the computed one
pub first_count_fault-broken : (groups : List MatchedGroup) (fault : Fault)
    → IsCountFault groups fault → first_count_fault groups ≡ Some fault
first_count_fault-broken groups fault is = search (rules, first_count_fault-at)
