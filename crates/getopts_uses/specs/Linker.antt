-- A linker's command line: its options, and its files and libraries in order.
use Rattle.std.specs.Prelude.{◌≡◌, if◌then◌else◌, false, List, [], ◌∷◌, codes, map}
use Rattle.std.specs.Prelude.{Option, Some, None, Result, Ok, Err, unwrap_or}
use Rattle.std.specs.List.{filter_map}
use Rattle.std.specs.String.{string_bytes}
use Rattle.std.specs.declared.alloc.Global.{Global}
use Rattle.std.specs.declared.vec.Vec.{Vec}
use Rattle.getopts.specs.Prelude.{Declared, Fault, IsOutOfMemoryOr, Text, group_of}
use Rattle.getopts.specs.Prelude.{Given, is_named, option, free_word}
use Rattle.getopts.specs.declared.fail.Fail.{Fail}
use Rattle.getopts.specs.declared.kinds.HasArg.TheVariants.{Yes}
use Rattle.getopts.specs.declared.kinds.Occur.TheVariants.{Optional, Multi}
use Rattle.getopts.specs.declared.kinds.ParsingStyle.TheVariants.{FloatingFrees}
use Rattle.getopts_uses.specs.declared.linker.Input as Linked
use Rattle.getopts_uses.specs.declared.linker.Input.TheVariants as linked

-- libraries, folders to search for them, and the output
abbrev pub linker_options : Declared
linker_options = record {
  groups =
      group_of (codes "l") (codes "library") (codes "link with NAME") (codes "NAME") Yes Multi
      ∷ group_of (codes "L") (codes "library-path") (codes "search DIR for libraries") (codes "DIR") Yes Multi
      ∷ group_of (codes "o") (codes "output") (codes "write the output to FILE") (codes "FILE") Yes Optional
      ∷ [];
  style = FloatingFrees;
  long_only = false;
}

-- what is linked: a file, or a library by its name
pub data Input : Type 0 where
  file : Text → Input
  library : Text → Input

-- a file or library, as it is stored
abbrev pub input_view : Linked.Input → Input
input_view (linked.File name) = file (string_bytes name)
input_view (linked.Library name) = library (string_bytes name)

-- what is linked for an option or a free word, if anything
abbrev pub input_of : Given → Option Input
input_of (free_word word) = Some (file word)
input_of (option place value) = if is_named linker_options place (codes "library")
    then Some (library (unwrap_or value [])) else None

-- the files and libraries in this order
abbrev pub inputs_in : List Given → List Input
inputs_in order = filter_map input_of order

-- These are the files and libraries of a command line, in order, or its error.
abbrev pub IsInputsOrError : Result (List Given) Fault → Result (Vec Linked.Input Global) Fail → Type 0
IsInputsOrError line (Err fail) = IsOutOfMemoryOr fail (λ fault. line ≡ Err fault)
IsInputsOrError (Ok order) (Ok inputs) = map input_view inputs.items ≡ inputs_in order
IsInputsOrError (Err fault) (Ok inputs) = ⊥
