use Rattle.std.proofs.Common.{◌≡◌, take}
use Rattle.std.specs.String.{string_bytes}
use Rattle.getopts_shell.specs.Completion.{options_lines}
use Rattle.getopts_shell.specs.Stored.{entries_of}
use Rattle.getopts_shell.proofs.complete.options_lines.Given as goal

-- the text is what the rows so far offer
abbrev pub invariant-loop-row : goal.invariant-loop-row
invariant-loop-row l =
    string_bytes l.text
    ≡ options_lines l.matches.groups l.long_only l.word (entries_of (take l.row-index l.rows))
