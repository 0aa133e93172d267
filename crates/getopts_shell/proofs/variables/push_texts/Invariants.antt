use Rattle.std.proofs.Common.{◌≡◌, ◌++◌, string_bytes, take}
use Rattle.getopts.specs.Names.{AreTexts}
use Rattle.getopts_shell.specs.Quote.{quoted_words}
use Rattle.getopts_shell.specs.Variables.{occurrences_stored, texts_given}
use Rattle.getopts_shell.proofs.variables.push_texts.Given as goal

-- the values so far were appended
abbrev pub invariant-loop-nth : goal.invariant-loop-nth
invariant-loop-nth l =
    (string_bytes l.text
    ≡ string_bytes l.initial.text ++ quoted_words (take l.nth (texts_given (occurrences_stored l.given))))
    × AreTexts (take l.nth (texts_given (occurrences_stored l.given)))
