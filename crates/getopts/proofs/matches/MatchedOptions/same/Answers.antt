-- Groups are equal if their names and kinds are, and the occurrences at each place.
use Rattle.std.proofs.Common.{◌≡◌, ◌∙◌, map, length, sym, rules}
use Rattle.std.proofs.lemmas.Bool.{not-true}
use Rattle.std.specs.Cmp.Lexicographic.{pointwise, pointwise_decides}
use Rattle.getopts.specs.Accessors.{occurrences_of_group}
use Rattle.getopts.specs.Matches.{MatchedGroup}
use Rattle.getopts.specs.Same.{same_signature, same_group_occurrence, same_matched_group}
use Rattle.getopts.proofs.counts.Groups.{length-matched}
use Rattle.getopts.proofs.Stored.Matches.{signatures-matched, same_occurrences_everywhere}
use Rattle.getopts.proofs.Stored.Same.{differ, same_group_occurrence-decides, same_matched_group-decides}
use Rattle.getopts.proofs.Stored.Same.{same_signature-decides}
use Rattle.getopts.proofs.matches.MatchedOptions.same.Goals as goal
use Rattle.getopts.proofs.matches.MatchedOptions.same.Goals.{After-ne}

signatures : (c : After-ne)
    → pointwise same_signature (map (λ (group : MatchedGroup). group.signature) c.args.self.now)
    (map (λ (group : MatchedGroup). group.signature) c.args.other.now)
    ≡ pointwise same_signature c.self.inside.signatures c.other.inside.signatures
signatures c = search (rules, signatures-matched)

as_many : (c : After-ne) → length c.args.self.now ≡ length c.self.inside.signatures
as_many c = search (rules, length-matched)

pub returns-then-ne : goal.returns-then-ne
returns-then-ne c = sym (differ (pointwise same_matched_group) (pointwise same_signature)
    (pointwise_decides same_matched_group-decides) (pointwise_decides same_signature-decides)
    (map (λ (group : MatchedGroup). group.signature)) c.args.self.now c.args.other.now
    (signatures (goal.at.returns-then-ne c).After-ne
    ∙ not-true _ (sym c.ne.ensures ∙ c.if-ne.true)))

pub returns-then-not-same : goal.returns-then-not-same
returns-then-not-same c =
    sym (differ (pointwise same_matched_group) (pointwise same_group_occurrence)
    (pointwise_decides same_matched_group-decides) (pointwise_decides same_group_occurrence-decides)
    (λ groups. occurrences_of_group groups c.loop-place.place) c.args.self.now c.args.other.now
    ((λ i. pointwise same_group_occurrence (sym c.occurrences_of_group.ensures i)
    (sym c.occurrences_of_group-in-loop-place.ensures i))
    ∙ sym c.same.ensures ∙ c.if-not-same.true))

pub returns : goal.returns
returns c = search (rules, same_occurrences_everywhere, signatures, as_many)
