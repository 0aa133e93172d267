use Rattle.std.proofs.Common.{map, ap, ◌∙◌}
use Rattle.std.specs.Str.Iter.{split_text, split_has_more, split_pattern}
use Rattle.std.proofs.lemmas.Iterator.Consumers.{YieldsList-end}
use Rattle.std.proofs.lemmas.Iterator.Splits.{YieldsList-from_str_split}
use Rattle.getopts_shell.proofs.Parts.{all_replaced}
use Rattle.getopts_shell.proofs.quote.push_replaced.Goals as goal

-- the parts that `split` gave are all the parts
pub returns : goal.returns
returns c =
    let start = c.into_iter-part-iterator.ensures.into_iter_gives in
    let split = c.split-part-items.ensures in
    let all =
    YieldsList-from_str_split c.args.character c.args.word.now c.requires
    (ap split_text start ∙ split.text)
    (ap split_has_more start ∙ split.has_more) (ap split_pattern start ∙ split.pattern) in
    let each =
    YieldsList-end all c.loop-part.yielded _ c.loop-part.yielded_by _ _ c.in-None.is
    c.next.ensures.steps in
    all_replaced c.args.character c.args.other.now c.args.word.now
    (map (λ part. part.now) c.loop-part.yielded) _ _ _
    c.loop-part.invariant each.0
