use Rattle.std.proofs.Common.{◌++◌, ap, arith, string_bytes, ◌∙◌, codes, get_or, rules}
use Rattle.std.proofs.lemmas.Bool.Decides.{nat_tests}
use Rattle.std.proofs.lemmas.List.{take_all}
use Rattle.getopts_shell.proofs.Operands.{items_of, items_push, no_operand}
use Rattle.getopts_shell.proofs.operand.push_operands.Goals as goal

pub loop-operand-preserved : goal.loop-operand-preserved
loop-operand-preserved c = (
  grind (arith, nat_tests),
  c.in_ok-push_str.ensures.bytes
      ∙ ap (λ text. text ++ (get_or c.args.operands.now c.loop-operand.operand-index
      no_operand).item.now) c.in_ok-push_parting.ensures
      ∙ items_push c.args.begun c.loop-operand.parted c.args.operands.now
      c.loop-operand.operand-index no_operand (string_bytes c.args.text.now)
      (string_bytes c.loop-operand.text) c.loop-operand-test.true c.loop-operand.invariant.0
      c.loop-operand.invariant.1,
)

pub returns : goal.returns
returns c = search (rules, string_bytes, codes, items_of, take_all)
