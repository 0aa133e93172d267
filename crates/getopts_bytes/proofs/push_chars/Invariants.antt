-- The bytes for the characters so far were appended.
use Rattle.std.proofs.Common.{◌≡◌, ◌++◌}
use Rattle.std.specs.List.{flat_map}
use Rattle.getopts_bytes.specs.Marks.{written}
use Rattle.getopts_bytes.proofs.push_chars.Given as goal

abbrev pub invariant-loop-char : goal.invariant-loop-char
invariant-loop-char l = l.bytes.items ≡ l.initial.bytes.items ++ flat_map written l.yielded
