-- What was read so far, and then what is left, ask for what the command line asks for.
use Rattle.std.proofs.Common.{◌≡◌, map}
use Rattle.getopts.specs.Prelude.{left_in, size_of, trace}
use Rattle.getopts_uses.specs.Launcher.{asked_after, asked_by, launch_options, launch_view}
use Rattle.getopts_uses.proofs.launcher.read_launch.Given as goal

abbrev pub invariant-words : goal.invariant-words
invariant-words g l = asked_by (map g.S.AsStr.text l.fn.words)
    ≡ asked_after (launch_view g.S.AsStr.text l.launch) (trace launch_options (left_in g.S.AsStr.text l.unread))

abbrev pub decreases-words : goal.decreases-words
decreases-words g l = size_of (left_in g.S.AsStr.text l.unread)
