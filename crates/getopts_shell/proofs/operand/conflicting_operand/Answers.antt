use Rattle.std.proofs.Common.{true, false, ap, refl, sym, ◌∙◌}
use Rattle.std.specs.Prelude.{not}
use Rattle.getopts_shell.specs.Stored.{operand_of}
use Rattle.getopts_shell.specs.Table.{comes_before}
use Rattle.getopts_shell.proofs.First.{found_from}
use Rattle.getopts_shell.proofs.Operands.{no_operand}
use Rattle.getopts_shell.proofs.operand.conflicting_operand.Goals as goal

pub loop-at-preserved : goal.loop-at-preserved
loop-at-preserved c =
    c.loop-at.invariant
    ∙ found_from operand_of (λ other. not (comes_before (operand_of c.args.operand) other))
    c.args.before.now c.loop-at.at _ no_operand false c.loop-at-test.true refl
    (ap not (sym c.comes_before.ensures ∙ c.if-not-comes_before.false))

pub returns-then-not-comes_before : goal.returns-then-not-comes_before
returns-then-not-comes_before c =
    sym (c.loop-at.invariant
    ∙ found_from operand_of (λ other. not (comes_before (operand_of c.args.operand) other))
    c.args.before.now c.loop-at.at _ no_operand true c.loop-at-test.true refl
    (ap not (sym c.comes_before.ensures ∙ c.if-not-comes_before.true)))
