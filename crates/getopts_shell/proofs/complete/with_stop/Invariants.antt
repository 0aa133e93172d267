use Rattle.std.proofs.Common.{◌≡◌, map, take}
use Rattle.std.specs.String.{string_bytes}
use Rattle.getopts.specs.Names.{texts}
use Rattle.getopts_shell.proofs.complete.with_stop.Given as goal

-- the texts are those of the words so far
abbrev pub invariant-loop-word : goal.invariant-loop-word
invariant-loop-word l = texts l.words.items ≡ map string_bytes (take l.word-index l.before)
