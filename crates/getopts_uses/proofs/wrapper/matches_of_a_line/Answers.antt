-- The checker computes all three facts.
use Rattle.std.proofs.Common.{refl}
use Rattle.getopts.proofs.OnLiterals.{getopts_on_literals}
use Rattle.getopts_uses.proofs.wrapper.matches_of_a_line.Goals as goal

pub returns : goal.returns
unfolding getopts_on_literals
returns c = (_, refl, refl, refl)
