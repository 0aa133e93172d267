-- The entries so far, and then the files of what is left, are the files of the command line.
use Rattle.std.proofs.Common.{◌≡◌, map}
use Rattle.std.specs.Option.{option_copied}
use Rattle.getopts.specs.Prelude.{left_in, size_of, trace}
use Rattle.getopts_uses.specs.Archive.{archive_options, entries_from, entries_of, entry_view}
use Rattle.getopts_uses.proofs.archive.read_entries.Given as goal

abbrev pub invariant-loop-entries : goal.invariant-loop-entries
invariant-loop-entries g l = entries_of (map g.S.AsStr.text l.words)
    ≡ entries_from (option_copied l.folder) (map entry_view l.entries.items)
    (trace archive_options (left_in g.S.AsStr.text l.unread))

abbrev pub decreases-loop-entries : goal.decreases-loop-entries
decreases-loop-entries g l = size_of (left_in g.S.AsStr.text l.unread)
