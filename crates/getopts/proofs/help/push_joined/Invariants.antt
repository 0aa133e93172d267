-- The texts so far were appended.
use Rattle.std.proofs.Common.{map, string_bytes, take}
use Rattle.getopts.proofs.Joined.{JoinedSoFar}
use Rattle.getopts.proofs.help.push_joined.Given as goal

abbrev pub invariant-loop-part : goal.invariant-loop-part
invariant-loop-part l =
    JoinedSoFar l.separator (map string_bytes (take l.part-index l.texts)) l.begun
    (string_bytes l.initial.text) (string_bytes l.text)
