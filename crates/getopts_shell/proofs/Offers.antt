-- What is offered at the last word.
use Rattle.std.proofs.Common.{◌≡◌, ◌<◌, ◌-◌, ℕ, List, map, get_or, length, string_bytes, take, Global, String, rules}
use Rattle.std.proofs.lemmas.List.{get_or-map, length-map, take-map}
use Rattle.getopts.specs.Names.{Text}
use Rattle.getopts.specs.Options.{Declared}
use Rattle.getopts_shell.specs.Completion.{offer}
use Rattle.getopts_shell.specs.Program.{last_word}
use Rattle.getopts_shell.specs.Table.{Entry}
use Rattle.getopts_shell.proofs.Assignments.{last_text}

-- what is offered at the last word
pub at_last : (options : Declared) (entries : List Entry) (words before : List (String Global))
    (word other : String Global) → (last : ℕ) (at : Text) (text : Text) → 0 < length words
    → last ≡ length words - 1 → before ≡ take last words → word ≡ get_or words last other
    → at ≡ string_bytes word → text ≡ offer options entries (map string_bytes before) at
    → text ≡ offer options entries (take (length (map string_bytes words) - 1)
    (map string_bytes words)) (last_word (map string_bytes words))
at_last options entries words before word other last at text some last_is before_is word_is at_is
    is = search (rules, length-map, take-map, get_or-map, last_text)
