-- One more occurrence has its position and value, if any.
use Rattle.std.proofs.Common.{arith, rules}
use Rattle.std.proofs.lemmas.Grind.{common_steps}
use Rattle.getopts.specs.Accessors.{borrowed_occurrence}
use Rattle.getopts.proofs.Stored.Occurrences.{pairs-more, value_given}
use Rattle.getopts.proofs.occurrences.Occurrences.pairs.Goals as goal

pub loop-nth-preserved : goal.loop-nth-preserved
loop-nth-preserved c =
    let more = pairs-more c.args.self.now c.loop-nth.nth
    (borrowed_occurrence (c.at-occurrence.result.position, c.at-occurrence.result.value)) c.at-occurrence.ensures in
    grind (arith, common_steps)

-- it fails only at a value
pub returns-in_err-from_str-clause-absent : goal.returns-in_err-from_str-clause-absent
returns-in_err-from_str-clause-absent c none = search (rules, value_given)

pub returns-in_err-push-clause-absent : goal.returns-in_err-push-clause-absent
returns-in_err-push-clause-absent c none = search (rules, value_given)
