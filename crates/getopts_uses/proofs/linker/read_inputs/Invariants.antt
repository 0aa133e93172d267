use Rattle.std.proofs.Common.{◌≡◌, ◌++◌, drop, map}
use Rattle.getopts.specs.Prelude.{borrowed_given}
use Rattle.getopts_uses.specs.Linker.{input_view, inputs_in}
use Rattle.getopts_uses.proofs.linker.read_inputs.Given as goal

-- with those of the remaining options and free words, the inputs are those of all
abbrev pub invariant-loop-given : goal.invariant-loop-given
invariant-loop-given g l =
    map input_view l.inputs.items ++ inputs_in (map borrowed_given (drop l.given-index l.given-items))
    ≡ inputs_in (map borrowed_given l.given-items)
