-- Two added texts are at the end.
use Rattle.std.proofs.Common.{arith}
use Rattle.std.proofs.lemmas.Grind.{common_steps}
use Rattle.getopts.proofs.Stored.Texts.{two-added}
use Rattle.getopts.proofs.adjacent.push_pair.Goals as goal

pub returns-clause-two : goal.returns-clause-two
returns-clause-two c =
    rw (c.push_reserved-end.ensures.bytes, c.push_reserved-middle.ensures.bytes)
    (two-added _ c.args.first.now c.args.second.now c.utf8.first
    c.utf8.second _ (grind (arith, common_steps)) (grind (arith, common_steps)) (grind (arith, common_steps)))
