-- A build tool: its options, and what a command line tells it, however it was typed.
use Rattle.std.specs.Prelude.{ℕ, Bool, List, [], ◌∷◌, false, map, length, codes, Option, Result}
use Rattle.std.specs.Option.{option_map}
use Rattle.std.specs.Result.{result_map_both}
use Rattle.std.specs.String.{string_bytes}
use Rattle.getopts.specs.Prelude.{Declared, Fault, Matched, Text, first_value, group_of}
use Rattle.getopts.specs.Prelude.{occurrences_of_name}
use Rattle.getopts.specs.Prelude.{is_present, parse_result, values_of}
use Rattle.getopts.specs.declared.kinds.HasArg.TheVariants.{No, Yes}
use Rattle.getopts.specs.declared.kinds.Occur.TheVariants.{Optional, Multi}
use Rattle.getopts.specs.declared.kinds.ParsingStyle.TheVariants.{FloatingFrees}
use Rattle.getopts_uses.specs.declared.logged.Build.{Build}

-- the tool's options
abbrev pub build_options : Declared
build_options = record {
  groups =
      group_of (codes "j") (codes "jobs") (codes "run NUMBER jobs at once") (codes "NUMBER") Yes Optional
      ∷ group_of (codes "k") (codes "keep-going") (codes "go on after an error") [] No Optional
      ∷ group_of (codes "v") (codes "verbose") (codes "say what is run") [] No Multi
      ∷ group_of (codes "D") (codes "set") (codes "set a variable") (codes "NAME=VALUE") Yes Multi
      ∷ [];
  style = FloatingFrees;
  long_only = false;
}

-- everything that the tool takes from a command line
pub record Said : Type 0 where
  pub jobs : Option Text
  pub keep_going : Bool
  pub verbose : ℕ
  pub sets : List Text
  pub targets : List Text

-- what matches say
abbrev pub said_by : Matched → Said
said_by matches = record {
  jobs = first_value (occurrences_of_name matches.groups (codes "jobs"));
  keep_going = is_present matches.groups (codes "keep-going");
  verbose = length (occurrences_of_name matches.groups (codes "verbose"));
  sets = values_of (occurrences_of_name matches.groups (codes "set"));
  targets = matches.free;
}

-- what the tool got from a command line
abbrev pub said_of : Build → Said
said_of build = record {
  jobs = option_map string_bytes build.jobs;
  keep_going = build.keep_going;
  verbose = build.verbose;
  sets = map string_bytes build.sets.items;
  targets = map string_bytes build.targets.items;
}

-- what words say, or their error
abbrev pub said_result : List Text → Result Said Fault
said_result words = result_map_both said_by (λ fault. fault) (parse_result build_options words)
