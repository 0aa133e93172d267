use Rattle.std.specs.Prelude.{⊤}
use Rattle.getopts.specs.Prelude.{left_in, size_of}
use Rattle.getopts_bench.proofs.iterations.taken_in_a_loop.Given as goal

abbrev pub invariant-loop-reader : goal.invariant-loop-reader
invariant-loop-reader g l = ⊤

-- each call leaves less
abbrev pub decreases-loop-reader : goal.decreases-loop-reader
decreases-loop-reader g l = size_of (left_in g.S.AsStr.text l.unread)
