use Rattle.std.proofs.Common.{◌≡◌, drop, map}
use Rattle.getopts.specs.Prelude.{borrowed_given}
use Rattle.getopts_uses.specs.Loudness.{after}
use Rattle.getopts_uses.specs.declared.loudness.Loudness.TheVariants.{Normal}
use Rattle.getopts_uses.proofs.loudness.last_of.Given as goal

-- the result after the remaining options is the result after all of them
abbrev pub invariant-loop-given : goal.invariant-loop-given
invariant-loop-given l =
    after l.loudness (map borrowed_given (drop l.given-index l.order))
    ≡ after Normal (map borrowed_given l.order)
