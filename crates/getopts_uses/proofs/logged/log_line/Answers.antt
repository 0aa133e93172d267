-- No main name contains `=`, so there is a canonical line.
use Rattle.std.proofs.Common.{refl}
use Rattle.getopts.proofs.MainTheorem.Callers.{always_some}
use Rattle.getopts_uses.specs.Logged.{build_options}
use Rattle.getopts_uses.proofs.logged.log_line.Goals as goal

pub unwrap-requires : goal.unwrap-requires
unwrap-requires g c = always_some c.in_ok-line.line _ build_options _ c.in_ok-options.ensures refl
    c.in_ok-line.ensures.unwritable
