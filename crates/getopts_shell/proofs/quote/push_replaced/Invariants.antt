use Rattle.std.proofs.Common.{map, string_bytes}
use Rattle.getopts.proofs.Joined.{JoinedSoFar}
use Rattle.getopts_shell.proofs.quote.push_replaced.Given as goal

-- the parts of the word so far were appended
abbrev pub invariant-loop-part : goal.invariant-loop-part
invariant-loop-part l =
    JoinedSoFar l.other (map (λ part. part.now) l.yielded) l.begun (string_bytes l.initial.text)
    (string_bytes l.text)
