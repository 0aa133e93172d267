use Rattle.std.proofs.Common.{true, false, sym, ◌∙◌}
use Rattle.getopts_shell.specs.Program.{is_alone}
use Rattle.getopts_shell.specs.Stored.{entry_of_row}
use Rattle.getopts_shell.proofs.First.{found_from}
use Rattle.getopts_shell.proofs.given.first_alone.Goals as goal

pub loop-at-preserved : goal.loop-at-preserved
loop-at-preserved c =
    c.loop-at.invariant
    ∙ found_from entry_of_row (is_alone c.args.matches.now) c.args.rows.now c.loop-at.at
    c.index-rows-at.result _ false
    c.loop-at-test.true
    c.index-rows-at.is (sym c.is_alone.ensures ∙ c.if-is_alone.false)

pub returns-then-is_alone : goal.returns-then-is_alone
returns-then-is_alone c =
    sym (c.loop-at.invariant
    ∙ found_from entry_of_row (is_alone c.args.matches.now) c.args.rows.now c.loop-at.at
    c.index-rows-at.result _ true
    c.loop-at-test.true
    c.index-rows-at.is (sym c.is_alone.ensures ∙ c.if-is_alone.true))
