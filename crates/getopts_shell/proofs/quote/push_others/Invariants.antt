use Rattle.std.proofs.Common.{◌≡◌, ◌++◌, map, string_bytes, take}
use Rattle.std.specs.List.{flat_map}
use Rattle.getopts_shell.specs.Quote.{spaced}
use Rattle.getopts_shell.proofs.quote.push_others.Given as goal

-- the words so far were appended
abbrev pub invariant-loop-word : goal.invariant-loop-word
invariant-loop-word l = string_bytes l.text
    ≡ string_bytes l.initial.text ++ flat_map spaced (map string_bytes (take l.word-index l.words))
