-- A program that runs another: its options, and what a command line asks for.
use Rattle.std.specs.Prelude.{◌++◌, if◌then◌else◌, List, [], ◌∷◌, Bool, false, true, codes, map}
use Rattle.std.specs.Prelude.{Option, None, Result, Ok, Err, is_some, unwrap_or}
use Rattle.std.specs.Option.{option_copied}
use Rattle.getopts.specs.Prelude.{Declared, Fault, Text, free_word, option_duplicated}
use Rattle.getopts.specs.Prelude.{is_named, optflagmulti, option, options_of, optmulti, optopt}
use Rattle.getopts.specs.Prelude.{Trace, fails, gives, no_more, trace, whole}
use Rattle.getopts.specs.declared.kinds.ParsingStyle.TheVariants.{StopAtFirstFree}
use Rattle.getopts_uses.specs.declared.launcher.Launch as Stored
use Rattle.getopts_uses.specs.declared.request.Request.{Request}
use Rattle.getopts_uses.specs.declared.request.Request.TheVariants.{Help, Parsed}

-- variables to remove, whether to begin without any, a folder, and help; options precede the command
abbrev pub launch_options : Declared
launch_options = record (options_of (
    optmulti (codes "u") (codes "unset") (codes "remove NAME from the variables") (codes "NAME")
    ∷ optflagmulti (codes "i") (codes "ignore") (codes "begin without variables")
    ∷ optopt (codes "C") (codes "chdir") (codes "begin in DIR") (codes "DIR")
    ∷ optflagmulti [] (codes "help") (codes "print this help")
    ∷ [])) { style = StopAtFirstFree }

-- what to run, and how
pub record Launch : Type 0 where
  pub unset : List Text
  pub ignore : Bool
  pub folder : Option Text
  pub command : List Text

-- what a command line asks for
pub data Asked : Type 0 where
  help : Asked
  run : Launch → Asked

-- what is asked for, as it is stored
abbrev pub launch_view : {S : Type 0} → (S → Text) → Stored.Launch S → Launch
launch_view text launch = record {
  unset = map (λ name. name.now) launch.unset.items;
  ignore = launch.ignore;
  folder = option_copied launch.folder;
  command = map text launch.command.now;
}

abbrev pub asked_view : {S : Type 0} → (S → Text) → Request (Stored.Launch S) → Asked
asked_view text Help = help
asked_view text (Parsed launch) = run (launch_view text launch)

-- what is asked for after this: each option adds to it, and the next free word begins the command
abbrev pub asked_after : Launch → Trace → Result Asked Fault
asked_after launch no_more = Ok (run launch)
asked_after launch (fails fault) = Err fault
asked_after launch (gives (option place value) left more) =
    if is_named launch_options place (codes "unset")
    then asked_after (record launch { unset = launch.unset ++ unwrap_or value [] ∷ [] }) more
    else (if is_named launch_options place (codes "ignore")
    then asked_after (record launch { ignore = true }) more
    else (if is_named launch_options place (codes "chdir")
    then (if is_some launch.folder then Err (option_duplicated (codes "chdir"))
    else asked_after (record launch { folder = value }) more)
    else Ok help))
asked_after launch (gives (free_word word) left more) =
    Ok (run (record launch { command = word ∷ left.words }))

-- what a command line asks for, or its error
abbrev pub asked_by : List Text → Result Asked Fault
asked_by line = asked_after (record { unset = []; ignore = false; folder = None; command = [] })
    (trace launch_options (whole line))
