use Rattle.std.proofs.Common.{true, false, map, sym, ◌∙◌}
use Rattle.std.specs.Str.{bytes_eq}
use Rattle.getopts.specs.Names.{main_name}
use Rattle.getopts_shell.specs.Stored.{entry_of_row}
use Rattle.getopts_shell.specs.Table.{Entry}
use Rattle.getopts_shell.specs.Variables.{variable_byte}
use Rattle.getopts_shell.proofs.First.{found_from}
use Rattle.getopts_shell.proofs.variables.row_with_variable.Goals as goal

pub loop-at-preserved : goal.loop-at-preserved
loop-at-preserved c =
    c.loop-at.invariant
    ∙ found_from entry_of_row (λ (entry : Entry).
    bytes_eq (map variable_byte (main_name entry.names)) (map variable_byte c.args.name.now))
    c.args.rows.now c.loop-at.at c.index-rows-at.result _ false c.loop-at-test.true
    c.index-rows-at.is
    (rw c.main_name.ensures at (sym c.same_variable.ensures ∙ c.if-same_variable.false))

pub returns-then-same_variable : goal.returns-then-same_variable
returns-then-same_variable c =
    sym (c.loop-at.invariant
    ∙ found_from entry_of_row (λ (entry : Entry).
    bytes_eq (map variable_byte (main_name entry.names)) (map variable_byte c.args.name.now))
    c.args.rows.now c.loop-at.at c.index-rows-at.result _ true c.loop-at-test.true
    c.index-rows-at.is
    (rw c.main_name.ensures at (sym c.same_variable.ensures ∙ c.if-same_variable.true)))
