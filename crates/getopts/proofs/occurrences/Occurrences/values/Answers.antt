-- One more occurrence has its value, if any.
use Rattle.std.proofs.Common.{arith, rules}
use Rattle.std.proofs.lemmas.Grind.{common_steps}
use Rattle.getopts.specs.Accessors.{borrowed_occurrence}
use Rattle.getopts.proofs.Stored.Occurrences.{values-more, value_given}
use Rattle.getopts.proofs.occurrences.Occurrences.values.Goals as goal

pub loop-nth-preserved : goal.loop-nth-preserved
loop-nth-preserved c =
    let more = values-more c.args.self.now c.loop-nth.nth
    (borrowed_occurrence (c.at.result.position, c.at.result.value)) c.at.ensures in
    grind (arith, common_steps)

-- it fails only at a value
pub returns-in_err-from_str-clause-absent : goal.returns-in_err-from_str-clause-absent
returns-in_err-from_str-clause-absent c none = search (rules, value_given)

pub returns-in_err-push-clause-absent : goal.returns-in_err-push-clause-absent
returns-in_err-push-clause-absent c none = search (rules, value_given)
