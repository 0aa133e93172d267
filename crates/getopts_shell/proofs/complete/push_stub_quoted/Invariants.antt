use Rattle.std.proofs.Common.{[], ◌∷◌, ◌++◌, map, string_bytes}
use Rattle.std.specs.List.{flat_map}
use Rattle.getopts.proofs.Joined.{JoinedSoFar}
use Rattle.getopts_shell.specs.Quote.{quoted_byte}
use Rattle.getopts_shell.proofs.complete.push_stub_quoted.Given as goal

-- the parts of the word so far were appended, after a quote
abbrev pub invariant-loop-part : goal.invariant-loop-part
invariant-loop-part l = JoinedSoFar (39 ∷ 92 ∷ 92 ∷ 39 ∷ [])
    (map (flat_map quoted_byte) (map (λ part. part.now) l.yielded)) l.begun
    (string_bytes l.fn.text ++ 39 ∷ []) (string_bytes l.text)
