-- What was appended and the text of the remaining bytes are the text of the word.
use Rattle.std.proofs.Common.{◌≡◌, ◌≤◌, ◌-◌, ◌++◌, length, drop, string_bytes}
use Rattle.getopts_bytes.specs.Marks.{text_of}
use Rattle.getopts_bytes.proofs.push_marked.Given as goal

abbrev pub invariant-loop-at : goal.invariant-loop-at
invariant-loop-at l = (l.at ≤ length l.word)
    × (string_bytes l.text ++ text_of (drop l.at l.word) ≡ string_bytes l.initial.text ++ text_of l.word)

abbrev pub decreases-loop-at : goal.decreases-loop-at
decreases-loop-at l = length l.word - l.at
