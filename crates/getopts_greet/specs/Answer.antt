-- What the greeter prints, and its exit status.
use Rattle.std.specs.Prelude.{◌≡◌, ℕ, List, ◌++◌, codes, Option, Result, Ok, Err, unwrap_or}
use Rattle.std.specs.List.{repeat}
use Rattle.std.specs.Io.KnownBytes.{Appends}
use Rattle.std.specs.String.{string_bytes}
use Rattle.getopts.specs.Prelude.{Text, fail_text}
use Rattle.getopts_greet.specs.Greeting.{IsAskedOrError, asked_result, greeter_help, greeter_version}
use Rattle.getopts_greet.specs.declared.greeting.Greeting.{Greeting}
use Rattle.getopts_greet.specs.declared.greeting.Refusal.{Refusal}
use Rattle.getopts_greet.specs.declared.greeting.Refusal.TheVariants.{Line, Number, OutOfMemory}
use Rattle.getopts_greet.specs.declared.greeting.Request.{Request}
use Rattle.getopts_greet.specs.declared.greeting.Request.TheVariants.{Help, Parsed, Version}

-- the greeting, repeated as often as requested, or once
abbrev pub greeting_text : Greeting → Text
greeting_text greeting = repeat (unwrap_or greeting.times 1)
    (codes "hello " ++ (string_bytes greeting.name ++ codes "\n"))

-- what is printed if the words are accepted
abbrev pub asked_text : Request Greeting → Text
asked_text Help = greeter_help
asked_text Version = greeter_version
asked_text (Parsed greeting) = greeting_text greeting

-- This is the text and the status for what a command line asks for, or for why it asks for nothing.
abbrev pub IsAnswerOf : Result (Request Greeting) Refusal → Text → ℕ → Type 0
IsAnswerOf (Ok asked) text status = (text ≡ asked_text asked) × (status ≡ 0)
IsAnswerOf (Err OutOfMemory) text status = ⊥
IsAnswerOf (Err (Line fail)) text status =
    (text ≡ codes "getopts_greet: " ++ (fail_text fail ++ codes "\n")) × (status ≡ 2)
IsAnswerOf (Err (Number error)) text status =
    (text ≡ codes "getopts_greet: --times takes a number up to 4294967295\n") × (status ≡ 2)

-- This is the text and the status for these words.
abbrev pub IsAnswerTo : List Text → Text → ℕ → Type 0
IsAnswerTo words text status = (asked : Result (Request Greeting) Refusal)
    × IsAskedOrError (asked_result words) asked × IsAnswerOf asked text status

-- The writer has received the text for these words, which have this status.
abbrev pub Shows : Option (List ℕ) → Option (List ℕ) → List Text → ℕ → Type 0
Shows old new words status = (text : Text) × IsAnswerTo words text status × Appends old new text
