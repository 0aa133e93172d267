use Rattle.std.proofs.Common.{◌≡◌, None, Some, ap, sym, ◌∙◌, rules}
use Rattle.std.specs.Prelude.{IfSome}
use Rattle.std.proofs.lemmas.Result.{IfErr-weaker}
use Rattle.getopts_shell.specs.Stored.{entry_of_row, operands_of}
use Rattle.getopts_shell.specs.Table.{conflicting_operand, late, operand_at, trimmed, twice}
use Rattle.getopts_shell.proofs.Fronts.{on_ok}
use Rattle.getopts_shell.proofs.Lines.{declares_entry, declares_operand, faulty_line, no_operand_at, ok_of_both}
use Rattle.getopts_shell.proofs.Lines.{tells_weaker}
use Rattle.getopts_shell.proofs.table.push_line.Goals as goal

pub returns-then-is_operand-clause-fault : goal.returns-then-is_operand-clause-fault
returns-then-is_operand-clause-fault c =
    let is = declares_operand c.args.line.now c.trimmed-line.result.now
    c.trimmed-item.result.now c.cut_at_gap.result.1.now c.trimmed-description.result.now
    c.trimmed-line.ensures (sym c.declares_nothing.ensures ∙ c.if-declares_nothing.false)
    (c.trimmed-item.ensures ∙ ap trimmed c.cut_at_gap.ensures.before) c.cut_at_gap.ensures.after
    c.trimmed-description.ensures (sym c.is_operand.ensures ∙ c.if-is_operand.true) in
    IfErr-weaker c.push_operand.result _ _
    (λ error tells. tells_weaker error _ _ tells (λ fault of. rw of.1 (late _ of.0 is.1 of.2)))
    c.push_operand.ensures.fault

pub returns-in-Some-clause-declared : goal.returns-in-Some-clause-declared
returns-in-Some-clause-declared c =
    let declares = declares_entry c.args.number c.args.line.now c.trimmed-line.result.now
    c.trimmed-item.result.now c.cut_at_gap.result.1.now c.trimmed-description.result.now
    (entry_of_row c.in-Some.row) c.in-Some.ensures.place.0 c.trimmed-line.ensures
    (sym c.declares_nothing.ensures ∙ c.if-declares_nothing.false)
    (c.trimmed-item.ensures ∙ ap trimmed c.cut_at_gap.ensures.before)
    (sym c.is_operand.ensures ∙ c.if-is_operand.false) c.cut_at_gap.ensures.after
    c.trimmed-description.ensures c.in-Some.ensures.place.1 c.in-Some.ensures.option in
    ok_of_both c.push_row.result c.push_row.ensures.added c.push_row.ensures.once
    (λ added once. (Some (entry_of_row c.in-Some.row), declares, added, once))

pub returns-in-Some-clause-in_order : goal.returns-in-Some-clause-in_order
returns-in-Some-clause-in_order c =
    let none = no_operand_at c.args.line.now c.trimmed-line.result.now
    c.trimmed-item.result.now c.trimmed-line.ensures
    (sym c.declares_nothing.ensures ∙ c.if-declares_nothing.false)
    (c.trimmed-item.ensures ∙ ap trimmed c.cut_at_gap.ensures.before)
    (sym c.is_operand.ensures ∙ c.if-is_operand.false) in
    on_ok c.push_row.result (IfSome (operand_at c.args.line.now)
    (λ operand. conflicting_operand (operands_of c.args.table.now.operands.items) operand ≡ None))
    (rw none tt)

pub returns-in-Some-clause-fault : goal.returns-in-Some-clause-fault
returns-in-Some-clause-fault c =
    let declares = declares_entry c.args.number c.args.line.now c.trimmed-line.result.now
    c.trimmed-item.result.now c.cut_at_gap.result.1.now c.trimmed-description.result.now
    (entry_of_row c.in-Some.row) c.in-Some.ensures.place.0 c.trimmed-line.ensures
    (sym c.declares_nothing.ensures ∙ c.if-declares_nothing.false)
    (c.trimmed-item.ensures ∙ ap trimmed c.cut_at_gap.ensures.before)
    (sym c.is_operand.ensures ∙ c.if-is_operand.false) c.cut_at_gap.ensures.after
    c.trimmed-description.ensures c.in-Some.ensures.place.1 c.in-Some.ensures.option in
    IfErr-weaker c.push_row.result _ _
    (λ error tells. tells_weaker error _ _ tells (λ fault of.
    rw (of.1, c.in-Some.ensures.place.0) (twice (entry_of_row c.in-Some.row) of.0 declares of.2)))
    c.push_row.ensures.fault

pub returns-in-None-clause-fault : goal.returns-in-None-clause-fault
returns-in-None-clause-fault c = search (rules, faulty_line)
