-- The errors that a command line may have, and their printed texts.
use Rattle.std.specs.Prelude.{ℕ, Option, Some, None, ◌++◌, codes, IfSome}
use Rattle.std.specs.Option.{option_map_or}
use Rattle.std.specs.String.{string_bytes}
use Rattle.getopts.specs.Names.{Text}
use Rattle.getopts.specs.declared.fail.Fail.{Fail}
use Rattle.getopts.specs.declared.fail.Fail.TheVariants as fail

-- an error in a command line, with the name that it reports
pub data Fault : Type 0 where
  argument_missing : Text → Fault
  unrecognized_option : Text → Fault
  option_missing : Text → Fault
  option_duplicated : Text → Fault
  unexpected_argument : Text → Fault

abbrev pub fault_index : Fault → ℕ
fault_index (argument_missing name) = 1
fault_index (unrecognized_option name) = 2
fault_index (option_missing name) = 3
fault_index (option_duplicated name) = 4
fault_index (unexpected_argument name) = 5

abbrev pub fault_name : Fault → Text
fault_name (argument_missing name) = name
fault_name (unrecognized_option name) = name
fault_name (option_missing name) = name
fault_name (option_duplicated name) = name
fault_name (unexpected_argument name) = name

abbrev pub fault_of : Fail → Option Fault
fault_of (fail.ArgumentMissing name) = Some (argument_missing (string_bytes name))
fault_of (fail.UnrecognizedOption name) = Some (unrecognized_option (string_bytes name))
fault_of (fail.OptionMissing name) = Some (option_missing (string_bytes name))
fault_of (fail.OptionDuplicated name) = Some (option_duplicated (string_bytes name))
fault_of (fail.UnexpectedArgument name) = Some (unexpected_argument (string_bytes name))
fault_of fail.OutOfMemory = None

abbrev pub fault_text : Fault → Text
fault_text (argument_missing name) = codes "Argument to option '" ++ (name ++ codes "' missing")
fault_text (unrecognized_option name) = codes "Unrecognized option: '" ++ (name ++ codes "'")
fault_text (option_missing name) = codes "Required option '" ++ (name ++ codes "' missing")
fault_text (option_duplicated name) = codes "Option '" ++ (name ++ codes "' given more than once")
fault_text (unexpected_argument name) =
    codes "Option '" ++ (name ++ codes "' does not take an argument")

abbrev pub fail_text : Fail → Text
fail_text fail = option_map_or fault_text (fault_of fail) (codes "Out of memory")

-- The `Fail` is out of memory, or reports an error with this property.
abbrev pub IsOutOfMemoryOr : Fail → (Fault → Type 0) → Type 0
IsOutOfMemoryOr fail P = IfSome (fault_of fail) P
