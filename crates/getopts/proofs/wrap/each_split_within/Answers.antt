-- The rows are those of all lines.
use Rattle.std.proofs.Common.{◌≡◌, [], ◌∷◌, map, string_bytes, lit<, ap, ◌∙◌, subst, sym, rules}
use Rattle.std.specs.Str.Iter.{split_text, split_has_more, split_pattern}
use Rattle.std.proofs.lemmas.Iterator.Consumers.{YieldsList-end, YieldsList-turn}
use Rattle.std.proofs.lemmas.Iterator.Splits.{YieldsList-from_str_split}
use Rattle.std.proofs.lemmas.List.{map-append}
use Rattle.getopts.specs.Only.{IsTheOnly}
use Rattle.getopts.specs.Wrap.{IsDescriptionRows}
use Rattle.getopts.specs.UsageResults.{rows_of, description_rows}
use Rattle.getopts.proofs.wrap.Lines.{rows_of-none, rows_of-push, description_rows-only, rows_fewest}
use Rattle.getopts.proofs.wrap.each_split_within.Goals as goal

-- one more line, with its rows
pub loop-line-preserved : goal.loop-line-preserved
loop-line-preserved c =
    rw (map-append (λ line. line.now) c.loop-line.yielded (c.in-Some.line ∷ []))
    (rows_of-push c.args.lim (map (λ line. line.now) c.loop-line.yielded) c.in-Some.line.now _ _
    c.loop-line.invariant c.in_ok-push_line.ensures.rows)

-- it fails only if a line has words
pub returns-in_err-push_line-clause-absent : goal.returns-in_err-push_line-clause-absent
returns-in_err-push_line-clause-absent c none =
    let start = c.into_iter-line-iterator.ensures.into_iter_gives in
    let split = c.split-line-items.ensures in
    let all = YieldsList-from_str_split 10 c.args.desc.now (lit< tt) (ap split_text start
    ∙ split.text)
    (ap split_has_more start ∙ split.has_more) (ap split_pattern start ∙ split.pattern) in
    let turn = YieldsList-turn all c.loop-line.yielded _ c.loop-line.yielded_by _ _ c.in-Some.line
    c.in-Some.is c.next.ensures.steps in
    cc (c.in_err-push_line.ensures.absent (rows_of-none c.args.lim _ _ _ turn.0 turn.1 none))

-- the lines from `split` are all the lines
computed : (c : goal.In-None) → map string_bytes c.loop-line.rows.items ≡ description_rows c.args.lim c.args.desc.now
computed c =
    let start = c.into_iter-line-iterator.ensures.into_iter_gives in
    let split = c.split-line-items.ensures in
    let all = YieldsList-from_str_split 10 c.args.desc.now (lit< tt) (ap split_text start
    ∙ split.text)
    (ap split_has_more start ∙ split.has_more) (ap split_pattern start ∙ split.pattern) in
    let each = YieldsList-end all c.loop-line.yielded _ c.loop-line.yielded_by _ _ c.in-None.is
    c.next.ensures.steps in
    c.loop-line.invariant ∙ ap (rows_of c.args.lim) each.0

pub returns-clause-result : goal.returns-clause-result
returns-clause-result c = computed c

pub returns-clause-rows : goal.returns-clause-rows
returns-clause-rows c = subst (IsTheOnly (IsDescriptionRows c.args.lim c.args.desc.now))
    (sym (computed c)) (description_rows-only c.args.lim c.args.desc.now)

pub returns-clause-fewest : goal.returns-clause-fewest
returns-clause-fewest c = search (rules, rows_fewest, returns-clause-rows)
