use Rattle.std.proofs.Common.{◌≡◌, ◌<◌, [], true, false, ap, arith, get_or, length, map}
use Rattle.std.proofs.Common.{string_bytes, sym, ◌∙◌, Some}
use Rattle.std.proofs.lemmas.Bool.Decides.{nat_tests}
use Rattle.std.proofs.lemmas.List.{get_or-map, length-map}
use Rattle.getopts_shell.specs.Program.{unexpected}
use Rattle.getopts_shell.proofs.Operands.{fault_from, fault_of_some, fault_past}
use Rattle.getopts_shell.proofs.operand.free_error.Goals as goal

pub returns-then-may_repeat : goal.returns-then-may_repeat
returns-then-may_repeat c =
    let operands = c.args.operands.now in
    let free = map string_bytes c.args.free.now in
    sym (fault_of_some operands free (omega (arith, c.loop-at-test.true))
    ∙ c.loop-at.invariant.1
    ∙ fault_from operands free c.loop-at.at _ true c.loop-at-test.true
    (omega (arith, c.if-at-free.false, length-map c.args.free.now string_bytes))
    (sym c.may_repeat.ensures ∙ c.if-may_repeat.true))

pub loop-at-preserved : goal.loop-at-preserved
loop-at-preserved c =
    let operands = c.args.operands.now in
    let free = map string_bytes c.args.free.now in (
      omega (arith, c.if-at-free.false),
      c.loop-at.invariant.1
          ∙ fault_from operands free c.loop-at.at _ false c.loop-at-test.true
          (omega (arith, c.if-at-free.false, length-map c.args.free.now string_bytes))
          (sym c.may_repeat.ensures ∙ c.if-may_repeat.false),
    )

pub returns-then-free-count : goal.returns-then-free-count
returns-then-free-count c =
    let operands = c.args.operands.now in
    let free = map string_bytes c.args.free.now in
    let at_is : c.loop-at.at ≡ length operands =
    omega (arith, c.loop-at-test.false, c.loop-at.auto.at-end) in
    let more : c.loop-at.at < length free =
    omega (arith, at_is, c.if-free-count.true, length-map c.args.free.now string_bytes) in
    let word = c.index-free-count.result in
    let word_is : get_or free c.loop-at.at [] ≡ c.as_str.result.now =
    ap (λ n. get_or free n []) at_is
    ∙ get_or-map string_bytes c.args.free.now (length operands) word [] c.if-free-count.true
    ∙ ap string_bytes (sym c.index-free-count.is) ∙ sym c.as_str.ensures.value in
    sym (fault_of_some operands free
    (grind (arith, nat_tests, c.is_empty.ensures, c.if-is_empty.false))
    ∙ c.loop-at.invariant.1
    ∙ fault_past operands free c.loop-at.at c.loop-at-test.false more
    ∙ ap (λ word. Some (unexpected word)) word_is)
