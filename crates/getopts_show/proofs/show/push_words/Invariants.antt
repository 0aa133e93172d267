use Rattle.std.proofs.Common.{◌≡◌, ◌++◌, map, take}
use Rattle.std.specs.List.{flat_map}
use Rattle.std.specs.String.{string_bytes}
use Rattle.getopts_show.specs.Program.{word_line}
use Rattle.getopts_show.proofs.show.push_words.Given as goal

-- the lines of the words so far were added
abbrev pub invariant-loop-word : goal.invariant-loop-word
invariant-loop-word l = string_bytes l.text
    ≡ string_bytes l.initial.text ++ flat_map (word_line l.label) (map string_bytes (take l.word-index l.words))
