-- The checker computes both.
use Rattle.std.proofs.Common.{refl}
use Rattle.getopts.proofs.OnLiterals.{getopts_on_literals}
use Rattle.getopts_greet.proofs.greeting.lines_written_out.Goals as goal

pub returns : goal.returns
unfolding getopts_on_literals
returns c = record { greeting = (_, refl, refl, refl); help = refl }
