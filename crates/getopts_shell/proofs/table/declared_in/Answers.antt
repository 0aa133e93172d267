use Rattle.std.proofs.Common.{[], ◌∷◌, map, lit<, ap, ◌∙◌}
use Rattle.std.specs.Str.Iter.{split_text, split_has_more, split_pattern}
use Rattle.std.proofs.lemmas.Iterator.Consumers.{YieldsList-end, YieldsList-turn, YieldsList-so_far}
use Rattle.std.proofs.lemmas.Iterator.Splits.{YieldsList-from_str_split}
use Rattle.std.proofs.lemmas.List.{map-append, length-map}
use Rattle.std.proofs.lemmas.Result.{err_from_is_err_and}
use Rattle.getopts_shell.proofs.Lines.{next_line, next_operands, no_lines, table_fault}
use Rattle.getopts_shell.proofs.Lines.{tells_weaker}
use Rattle.getopts_shell.specs.Stored.{operands_of}
use Rattle.getopts_shell.proofs.table.declared_in.Goals as goal

pub loop-line-init : goal.loop-line-init
loop-line-init c =
    (rw c.new.ensures.items no_lines, ap operands_of c.new-2.ensures.items)

pub loop-line-preserved : goal.loop-line-preserved
loop-line-preserved c =
    let lines = map (λ line. line.now) c.loop-line.yielded in
    let pushed = c.in_ok-push_line.ensures.declared in
    rw (map-append (λ line. line.now) c.loop-line.yielded (c.in-Some.line ∷ [])) (
      next_line lines c.in-Some.line.now c.loop-line.number _ _ _ _ pushed.0
          c.loop-line.invariant.0 c.saturating_add-number.ensures pushed.1 pushed.2 pushed.3
          c.loop-line.invariant.1 c.in_ok-push_line.ensures.in_order,
      next_operands lines c.in-Some.line.now _ _ c.in_ok-push_line.ensures.operands
          c.loop-line.invariant.1,
    )

pub returns-in_err-push_line : goal.returns-in_err-push_line
returns-in_err-push_line c =
    let start = c.into_iter-line-iterator.ensures.into_iter_gives in
    let split = c.split-line-items.ensures in
    let all = YieldsList-from_str_split 10 c.args.text.now (lit< tt)
    (ap split_text start ∙ split.text)
    (ap split_has_more start ∙ split.has_more) (ap split_pattern start ∙ split.pattern) in
    let so_far = YieldsList-so_far all c.loop-line.yielded _ c.loop-line.yielded_by in
    let turn = YieldsList-turn all c.loop-line.yielded _ c.loop-line.yielded_by _ _ c.in-Some.line
    c.in-Some.is
    c.next.ensures.steps in
    let count = length-map c.loop-line.yielded (λ line. line.now) in
    let error = err_from_is_err_and c.from_residual.result c.from_residual.ensures.1 in
    rw (error.1, error.2) (tells_weaker c.in_err-push_line.field-0.0 _ _
    c.in_err-push_line.ensures.fault
    (λ fault is. table_fault c.args.text.now (map (λ line. line.now) c.loop-line.yielded)
    c.in-Some.line.now
    c.loop-line.number _ _ _ fault (rw count so_far) (rw count turn.0) (rw count turn.1)
    c.loop-line.invariant.0
    c.saturating_add-number.ensures c.loop-line.invariant.1 is))

pub returns : goal.returns
returns c =
    let start = c.into_iter-line-iterator.ensures.into_iter_gives in
    let split = c.split-line-items.ensures in
    let all = YieldsList-from_str_split 10 c.args.text.now (lit< tt)
    (ap split_text start ∙ split.text)
    (ap split_has_more start ∙ split.has_more) (ap split_pattern start ∙ split.pattern) in
    let each = YieldsList-end all c.loop-line.yielded _ c.loop-line.yielded_by _ _ c.in-None.is
    c.next.ensures.steps in
    (rw each.0 at c.loop-line.invariant.0.declared, rw each.0 at c.loop-line.invariant.1)
