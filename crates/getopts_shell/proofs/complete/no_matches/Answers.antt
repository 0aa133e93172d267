use Rattle.std.proofs.Common.{refl}
use Rattle.getopts_shell.proofs.Help.{fault_told_of}
use Rattle.getopts_shell.proofs.complete.no_matches.Goals as goal

pub returns-in_default : goal.returns-in_default
returns-in_default c =
    let told = fault_told_of c.args.fail.now c.in_default.not-OutOfMemory in (refl, told.0, told.1)
