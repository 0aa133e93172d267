-- What is stored, and then what is left, ask for what the command line asks for.
use Rattle.std.proofs.Common.{◌≡◌, [], map}
use Rattle.getopts.specs.Prelude.{left_in, size_of, trace}
use Rattle.getopts_uses.specs.Seq.{asked_after, asked_by, asked_view, seq_options, unless_number}
use Rattle.getopts_uses.proofs.seq.read_seq.Given as goal

abbrev pub invariant-loop-alloc : goal.invariant-loop-alloc
invariant-loop-alloc g l = asked_by (map g.S.AsStr.text l.words)
    ≡ unless_number (asked_view g.S.AsStr.text l.seq) (left_in g.S.AsStr.text l.unread)
    (asked_after (asked_view g.S.AsStr.text l.seq) (trace seq_options (left_in g.S.AsStr.text l.unread)))

abbrev pub decreases-loop-alloc : goal.decreases-loop-alloc
decreases-loop-alloc g l = size_of (left_in g.S.AsStr.text l.unread)
