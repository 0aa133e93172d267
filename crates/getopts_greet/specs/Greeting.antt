-- The greeter's options, and what a command line asks for.
use Rattle.std.specs.Prelude.{◌≡◌, ⊤, if◌then◌else◌, ℕ, List, [], ◌∷◌, ◌++◌, codes}
use Rattle.std.specs.Prelude.{Some, Result, Ok, Err}
use Rattle.std.specs.Option.{option_map}
use Rattle.std.specs.Result.{result_map_both}
use Rattle.std.specs.Str.Parse.{ParsesUnsigned}
use Rattle.std.specs.String.{string_bytes}
use Rattle.std.specs.declared.num.ParseIntError.{ParseIntError}
use Rattle.getopts.specs.Prelude.{Declared, Fault, IsParsedAs, Matched, Text, fault_of, first_value}
use Rattle.getopts.specs.Prelude.{is_present, occurrences_of_name, optflag, options_of, optopt}
use Rattle.getopts.specs.Prelude.{parse_ignoring_counts_result, parse_result, reqopt}
use Rattle.getopts.specs.declared.fail.Fail.{Fail}
use Rattle.getopts.specs.declared.fail.Fail.TheVariants as fail
use Rattle.getopts_greet.specs.declared.greeting.Greeting.{Greeting}
use Rattle.getopts_greet.specs.declared.greeting.Refusal.{Refusal}
use Rattle.getopts_greet.specs.declared.greeting.Refusal.TheVariants.{Line, Number, OutOfMemory}
use Rattle.getopts_greet.specs.declared.greeting.Request.{Request}
use Rattle.getopts_greet.specs.declared.greeting.Request.TheVariants.{Help, Parsed, Version}

-- the greeter's options
abbrev pub greeter_options : Declared
greeter_options = options_of (
    reqopt (codes "n") (codes "name") (codes "greet NAME") (codes "NAME")
    ∷ optopt (codes "t") (codes "times") (codes "greet NUMBER times") (codes "NUMBER")
    ∷ optflag (codes "h") (codes "help") (codes "print this help")
    ∷ optflag (codes "V") (codes "version") (codes "print the version")
    ∷ [])

-- the greeter's help, written out
abbrev pub greeter_help : Text
greeter_help =
    codes "Usage: getopts_greet [options]\n\nOptions:\n"
    ++ (codes "    -n, --name NAME     greet NAME\n"
    ++ (codes "    -t, --times NUMBER  greet NUMBER times\n"
    ++ (codes "    -h, --help          print this help\n"
    ++ codes "    -V, --version       print the version\n")))

-- the greeter's version
abbrev pub greeter_version : Text
greeter_version = codes "getopts_greet 1.0\n"

-- the greeter's error for a `Fail`; out of memory isn't an error of the command line
abbrev pub refusal_of : Fail → Refusal
refusal_of fail.OutOfMemory = OutOfMemory
refusal_of fail = Line fail

-- The matches give this name, and this number or none.
pub record IsGreetingOf (matches : Matched) (greeting : Greeting) : Type 0 where
  pub name : first_value
      (occurrences_of_name matches.groups (codes "name")) ≡ Some (string_bytes greeting.name)
  pub times : IsParsedAs {E = ParseIntError} (ParsesUnsigned 32 10)
      (first_value (occurrences_of_name matches.groups (codes "times"))) (Ok greeting.times)

-- This is the greeting that matches ask for, or why there is none: a number that can't be read.
abbrev pub IsGreetingOrError : Matched → Result Greeting Refusal → Type 0
IsGreetingOrError matches (Err OutOfMemory) = ⊤
IsGreetingOrError matches (Err (Number error)) = IsParsedAs {T = ℕ} (ParsesUnsigned 32 10)
    (first_value (occurrences_of_name matches.groups (codes "times"))) (Err error)
IsGreetingOrError matches (Err (Line fail)) = ⊥
IsGreetingOrError matches (Ok greeting) = IsGreetingOf matches greeting

-- what a command line asks for, by its matches with counts ignored and by its result
abbrev pub asked_of : Result Matched Fault → Result Matched Fault → Result (Request Matched) Fault
asked_of (Err fault) line = Err fault
asked_of (Ok read) line = if is_present read.groups (codes "help") then Ok Help
    else (if is_present read.groups (codes "version") then Ok Version
    else result_map_both Parsed (λ fault. fault) line)

-- what these words ask for, or their error
abbrev pub asked_result : List Text → Result (Request Matched) Fault
asked_result words = asked_of (parse_ignoring_counts_result greeter_options words)
    (parse_result greeter_options words)

-- This is what a command line asks for, or why it asks for nothing.
abbrev pub IsAskedOrError : Result (Request Matched) Fault → Result (Request Greeting) Refusal
    → Type 0
IsAskedOrError asked (Err OutOfMemory) = ⊤
IsAskedOrError asked (Err (Line fail)) = option_map Err (fault_of fail) ≡ Some asked
IsAskedOrError (Ok Help) (Ok Help) = ⊤
IsAskedOrError (Ok Version) (Ok Version) = ⊤
IsAskedOrError (Ok (Parsed matches)) (Ok (Parsed greeting)) = IsGreetingOf matches greeting
IsAskedOrError (Ok (Parsed matches)) (Err (Number error)) =
    IsGreetingOrError matches (Err (Number error))
IsAskedOrError asked result = ⊥
