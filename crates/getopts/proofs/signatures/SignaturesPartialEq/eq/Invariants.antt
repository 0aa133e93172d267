-- Both have the same length, and the elements so far are equal.
use Rattle.std.proofs.Common.{◌≡◌, true, length, take}
use Rattle.std.specs.Cmp.Lexicographic.{pointwise}
use Rattle.getopts.specs.Same.{same_signature}
use Rattle.getopts.proofs.signatures.SignaturesPartialEq.eq.Given as goal

abbrev pub invariant-loop-place : goal.invariant-loop-place
invariant-loop-place l = record {
  as_many : length l.self ≡ length l.other;
  same : pointwise same_signature (take l.place l.self) (take l.place l.other) ≡ true;
}
