-- Copies of the words so far were added.
use Rattle.std.proofs.Common.{◌≡◌, ◌++◌, map, take}
use Rattle.std.specs.String.{string_bytes}
use Rattle.getopts.proofs.scan.push_copies.Given as goal

abbrev pub invariant-loop-word : goal.invariant-loop-word
invariant-loop-word g l =
    map string_bytes l.copies.items ≡ map string_bytes l.fn.copies.items
    ++ map g.S.AsStr.text (take l.word-index l.words)
