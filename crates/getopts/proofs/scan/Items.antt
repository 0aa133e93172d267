-- The option that begins with a word in long form, by its name, its kind and its argument.
use Rattle.std.proofs.Common.{◌≡◌, ◌+◌, ℕ, false, List, ◌++◌, Option, None, Some, Err, rules}
use Rattle.getopts.specs.Names.{Text}
use Rattle.getopts.specs.Options.{Grammar}
use Rattle.getopts.specs.Reading.{Dashes, holds_equals}
use Rattle.getopts.specs.Fail.{Fault, unrecognized_option}
use Rattle.getopts.specs.Step.{with_equals, faults, chosen_long, long_name_step, long_step, Chooses, TakesOne}
use Rattle.getopts.specs.declared.kinds.HasArg.{HasArg}
use Rattle.getopts.proofs.Reading.Steps.{long_step_cut}

-- A text in long form, by its name and its attached argument.
module _ (grammar : Grammar) (dashes : Dashes) (text name : Text) (argument : Option Text)
    (after : List Text) (text_is : text ≡ name ++ with_equals argument)
    (cut_once : holds_equals name ≡ false) where
  -- its result, by its kind
  long_step-long_name : (kind : Option HasArg) → grammar.kind name ≡ kind
      → long_step grammar dashes text after ≡ long_name_step kind dashes name argument after
  long_step-long_name kind kind_is = search (rules, long_step_cut)

  -- its error, if the name doesn't resolve
  pub long_step-unknown : grammar.kind name ≡ None → long_step grammar dashes text after ≡ faults (unrecognized_option name)
  long_step-unknown unknown = search (rules, long_step-long_name None unknown)

  -- its error, if no argument can be chosen
  pub long_step-fault : (kind : HasArg) (fault : Fault) → grammar.kind name ≡ Some kind
      → chosen_long kind name argument after ≡ Err fault → long_step grammar dashes text after ≡ faults fault
  long_step-fault kind fault kind_is told = search (rules, long_step-long_name (Some kind) kind_is)

  -- its option
  pub TakesOne-long : (kind : HasArg) (place : ℕ) (value : Option Text) (left : List Text)
      → grammar.kind name ≡ Some kind → grammar.place name ≡ Some place
      → Chooses (chosen_long kind name argument after) after value left
      → TakesOne grammar (long_step grammar dashes text after) after place value left
  TakesOne-long kind place value left kind_is place_is chooses =
      search (rules, long_step-long_name (Some kind) kind_is)
