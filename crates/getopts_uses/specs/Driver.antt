-- A compiler driver with twenty options: the options, and the job that a command line describes.
use Rattle.std.specs.Prelude.{◌≡◌, ◌==◌, ⊤, Bool, List, [], ◌∷◌, ◌++◌, true, false, map, codes}
use Rattle.std.specs.Prelude.{length, Result, Ok, Err}
use Rattle.std.specs.Option.{option_map}
use Rattle.std.specs.String.{string_bytes}
use Rattle.getopts.specs.Prelude.{Declared, Fault, Group, IsOutOfMemoryOr, Matched, first_value}
use Rattle.getopts.specs.Prelude.{first_value_or, group_of, is_present, occurrences_of_name}
use Rattle.getopts.specs.Prelude.{values_of}
use Rattle.getopts.specs.declared.kinds.HasArg.TheVariants.{No, Yes, Maybe}
use Rattle.getopts.specs.declared.kinds.Occur.TheVariants.{Optional, Multi}
use Rattle.getopts.specs.declared.kinds.ParsingStyle.TheVariants.{FloatingFrees}
use Rattle.getopts_uses.specs.declared.driver.Job.{Job}
use Rattle.getopts_uses.specs.declared.driver.Refusal.{Refusal}
use Rattle.getopts_uses.specs.declared.driver.Refusal.TheVariants.{Line, NoInput, OutOfMemory}
use Rattle.getopts_uses.specs.declared.driver.Search.{Search}
use Rattle.getopts_uses.specs.declared.driver.Sources.{Sources}
use Rattle.getopts_uses.specs.declared.driver.Stages.{Stages}

-- what it writes and searches
abbrev pub search_groups : List Group
search_groups =
    group_of (codes "o") (codes "output") (codes "write the output to FILE") (codes "FILE") Yes Optional
    ∷ group_of (codes "I") (codes "include") (codes "search DIR for headers") (codes "DIR") Yes Multi
    ∷ group_of (codes "L") (codes "library-path") (codes "search DIR for libraries") (codes "DIR") Yes Multi
    ∷ group_of (codes "l") (codes "library") (codes "link with NAME") (codes "NAME") Yes Multi
    ∷ group_of (codes "D") (codes "define") (codes "define a macro") (codes "NAME") Yes Multi
    ∷ group_of (codes "U") (codes "undefine") (codes "forget a macro") (codes "NAME") Yes Multi
    ∷ group_of (codes "W") (codes "warn") (codes "warn of NAME") (codes "NAME") Yes Multi
    ∷ group_of (codes "O") (codes "optimize") (codes "optimize, by LEVEL") (codes "LEVEL") Maybe Optional
    ∷ group_of (codes "g") (codes "debug") (codes "keep names for a debugger") [] No Optional
    ∷ group_of (codes "c") (codes "compile") (codes "compile, and don't link") [] No Optional
    ∷ []

-- how far it goes, and what it prints
abbrev pub stages_groups : List Group
stages_groups =
    group_of (codes "S") (codes "assemble") (codes "stop before the assembler") [] No Optional
    ∷ group_of (codes "E") (codes "preprocess") (codes "stop after the preprocessor") [] No Optional
    ∷ group_of (codes "v") (codes "verbose") (codes "say what is run") [] No Multi
    ∷ group_of (codes "w") (codes "no-warnings") (codes "warn of nothing") [] No Optional
    ∷ group_of (codes "x") (codes "language") (codes "take the inputs for LANGUAGE") (codes "LANGUAGE") Yes Optional
    ∷ group_of [] (codes "std") (codes "the standard") (codes "NAME") Yes Optional
    ∷ group_of [] (codes "target") (codes "compile for TRIPLE") (codes "TRIPLE") Yes Optional
    ∷ group_of [] (codes "sysroot") (codes "look below DIR") (codes "DIR") Yes Optional
    ∷ group_of [] (codes "static") (codes "link no shared library") [] No Optional
    ∷ group_of [] (codes "shared") (codes "make a shared library") [] No Optional
    ∷ []

-- the driver's options
abbrev pub driver_options : Declared
driver_options = record {
  groups = search_groups ++ stages_groups;
  style = FloatingFrees;
  long_only = true;
}

-- What is written, searched and linked is exactly what the matches say.
pub record IsSearchOf (matches : Matched) (it : Search) : Type 0 where
  pub output : option_map string_bytes it.output
      ≡ first_value (occurrences_of_name matches.groups (codes "output"))
  pub folders : map string_bytes it.folders.items
      ≡ values_of (occurrences_of_name matches.groups (codes "include"))
  pub library_folders : map string_bytes it.library_folders.items
      ≡ values_of (occurrences_of_name matches.groups (codes "library-path"))
  pub libraries : map string_bytes it.libraries.items
      ≡ values_of (occurrences_of_name matches.groups (codes "library"))
  pub debug : it.debug ≡ is_present matches.groups (codes "debug")
  pub compile : it.compile ≡ is_present matches.groups (codes "compile")

-- How the inputs are read is exactly what the matches say.
pub record AreSourcesOf (matches : Matched) (it : Sources) : Type 0 where
  pub macros : map string_bytes it.macros.items
      ≡ values_of (occurrences_of_name matches.groups (codes "define"))
  pub forgotten : map string_bytes it.forgotten.items
      ≡ values_of (occurrences_of_name matches.groups (codes "undefine"))
  pub warnings : map string_bytes it.warnings.items
      ≡ values_of (occurrences_of_name matches.groups (codes "warn"))
  pub level : option_map string_bytes it.level
      ≡ first_value_or (occurrences_of_name matches.groups (codes "optimize")) (codes "1")

-- How far the driver goes, and what it prints, is exactly what the matches say.
pub record AreStagesOf (matches : Matched) (it : Stages) : Type 0 where
  pub assemble : it.assemble ≡ is_present matches.groups (codes "assemble")
  pub preprocess : it.preprocess ≡ is_present matches.groups (codes "preprocess")
  pub verbose : it.verbose ≡ length (occurrences_of_name matches.groups (codes "verbose"))
  pub no_warnings : it.no_warnings ≡ is_present matches.groups (codes "no-warnings")
  pub language : option_map string_bytes it.language
      ≡ first_value (occurrences_of_name matches.groups (codes "language"))
  pub standard : option_map string_bytes it.standard
      ≡ first_value (occurrences_of_name matches.groups (codes "std"))
  pub target : option_map string_bytes it.target
      ≡ first_value (occurrences_of_name matches.groups (codes "target"))
  pub root : option_map string_bytes it.root
      ≡ first_value (occurrences_of_name matches.groups (codes "sysroot"))
  pub fixed : it.fixed ≡ is_present matches.groups (codes "static")
  pub shared : it.shared ≡ is_present matches.groups (codes "shared")

-- The job is exactly what the matches say.
pub record IsJobOf (matches : Matched) (job : Job) : Type 0 where
  pub search : IsSearchOf matches job.search
  pub sources : AreSourcesOf matches job.sources
  pub stages : AreStagesOf matches job.stages
  pub inputs : map string_bytes job.inputs.items ≡ matches.free

-- whether matches name no input
abbrev pub names_none : Matched → Bool
names_none matches = length matches.free == 0

-- This is the job for a command line's result, or why there is none.
abbrev pub IsJobOrError : Result Matched Fault → Result Job Refusal → Type 0
IsJobOrError line (Err OutOfMemory) = ⊤
IsJobOrError line (Err (Line fail)) = IsOutOfMemoryOr fail (λ fault. line ≡ Err fault)
IsJobOrError (Ok matches) (Err NoInput) = names_none matches ≡ true
IsJobOrError (Ok matches) (Ok job) = (names_none matches ≡ false) × IsJobOf matches job
IsJobOrError line result = ⊥
