use Rattle.std.proofs.Common.{◌≡◌, take}
use Rattle.getopts.specs.Usage.{any_short}
use Rattle.getopts.proofs.options.Options.layout.Given as goal

abbrev pub invariant-loop-place : goal.invariant-loop-place
invariant-loop-place l = l.any_short ≡ any_short (take l.place l.groups)
