-- No main name so far contains `=`.
use Rattle.std.proofs.Common.{◌≡◌, ◌<◌, ℕ, false}
use Rattle.getopts.specs.Canon.{main_at}
use Rattle.getopts.specs.Reading.{holds_equals}
use Rattle.getopts.proofs.canon.declare_equals.Given as goal

abbrev pub invariant-loop-place : goal.invariant-loop-place
invariant-loop-place l = (k : ℕ) → k < l.place → holds_equals (main_at l.groups k) ≡ false
