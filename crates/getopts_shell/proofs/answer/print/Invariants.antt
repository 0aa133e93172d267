use Rattle.std.proofs.Common.{◌≡◌, ℕ, List, ◌++◌}
use Rattle.std.specs.Io.KnownBytes.{Appends}
use Rattle.getopts_shell.proofs.answer.print.Given as goal

-- what is no longer in the rest was written
abbrev pub invariant-loop : goal.invariant-loop
invariant-loop g l = (done : List ℕ) × (l.fn.bytes ≡ done ++ l.rest)
    × Appends (g.W.Write.contents l.fn.out) (g.W.Write.contents l.out) done
