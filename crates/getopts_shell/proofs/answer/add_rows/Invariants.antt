use Rattle.std.proofs.Common.{◌≡◌, ◌++◌, take}
use Rattle.getopts_shell.specs.Stored.{entries_of}
use Rattle.getopts_shell.specs.Table.{groups_as}
use Rattle.getopts_shell.proofs.answer.add_rows.Given as goal

-- the options of the rows so far were added
abbrev pub invariant-loop-row : goal.invariant-loop-row
invariant-loop-row l = l.options
    ≡ record l.initial.options {
      groups = l.initial.options.groups ++ groups_as l.shown
          (entries_of (take l.row-index l.rows));
    }
