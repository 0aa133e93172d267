use Rattle.std.proofs.Common.{◌≡◌, take}
use Rattle.std.specs.List.{flat_map}
use Rattle.std.specs.String.{string_bytes}
use Rattle.getopts.specs.Names.{texts}
use Rattle.getopts_show.specs.Program.{named_lines}
use Rattle.getopts_show.proofs.show.options_text.Given as goal

-- the lines of the options so far were added
abbrev pub invariant-loop-name : goal.invariant-loop-name
invariant-loop-name l =
    string_bytes l.text ≡ flat_map (named_lines l.matches.groups) (texts (take l.name-index l.names))
