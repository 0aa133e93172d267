-- One more occurrence has its position.
use Rattle.std.proofs.Common.{arith}
use Rattle.std.proofs.lemmas.Grind.{common_steps}
use Rattle.getopts.specs.Accessors.{borrowed_occurrence}
use Rattle.getopts.proofs.Lists.{map-take_more}
use Rattle.getopts.proofs.occurrences.Occurrences.positions.Goals as goal

pub loop-nth-preserved : goal.loop-nth-preserved
loop-nth-preserved c =
    let more = map-take_more (λ occurrence. occurrence.position) c.args.self.now c.loop-nth.nth
    (borrowed_occurrence (c.at.result.position, c.at.result.value)) c.at.ensures in
    grind (arith, common_steps)
