use Rattle.std.proofs.Common.{List, [], ◌++◌, drop, Ok, Err, Global}
use Rattle.std.specs.Prelude.{String}
use Rattle.getopts.specs.Names.{texts}
use Rattle.getopts_uses.specs.Cut.{AreRangesOrError}
use Rattle.getopts_uses.specs.declared.cut.Range.{Range}
use Rattle.getopts_uses.specs.declared.cut.Refusal.TheVariants.{Part}
use Rattle.getopts_uses.proofs.cut.ranges_in.Given as goal

-- The ranges so far, with the ranges of the remaining texts or their error, are those of all texts.
abbrev pub invariant-loop-part : goal.invariant-loop-part
invariant-loop-part l =
    ((more : List Range) → AreRangesOrError (texts (drop l.part-index l.parts)) (Ok more)
    → AreRangesOrError (texts l.parts) (Ok (l.ranges.items ++ more)))
    × (AreRangesOrError (texts (drop l.part-index l.parts)) (Ok []) → AreRangesOrError (texts l.parts) (Ok l.ranges.items))
    × ((part : String Global) → AreRangesOrError (texts (drop l.part-index l.parts)) (Err (Part part))
    → AreRangesOrError (texts l.parts) (Err (Part part)))
