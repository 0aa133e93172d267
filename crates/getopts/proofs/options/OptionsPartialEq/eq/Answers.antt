-- The code compares groups, style and mode. Together this compares the options: it decides
-- whether they are equal.
use Rattle.std.proofs.Common.{arith, rules}
use Rattle.std.proofs.lemmas.Grind.{common_steps}
use Rattle.std.proofs.lemmas.Bool.Decides.{Decides-at}
use Rattle.getopts.proofs.Stored.Same.{same_options-decides}
use Rattle.getopts.proofs.options.OptionsPartialEq.eq.Goals as goal

pub returns-then-eq-2-clause-result : goal.returns-then-eq-2-clause-result
returns-then-eq-2-clause-result c = grind (arith, common_steps)

pub returns-else-eq-2-clause-result : goal.returns-else-eq-2-clause-result
returns-else-eq-2-clause-result c = grind (arith, common_steps)

pub returns-then-eq-2-clause-same : goal.returns-then-eq-2-clause-same
returns-then-eq-2-clause-same c = search (rules, returns-then-eq-2-clause-result, same_options-decides)

pub returns-else-eq-2-clause-same : goal.returns-else-eq-2-clause-same
returns-else-eq-2-clause-same c =
    Decides-at _ _ (returns-else-eq-2-clause-result c)
    (same_options-decides c.args.self.now c.args.other.now)
