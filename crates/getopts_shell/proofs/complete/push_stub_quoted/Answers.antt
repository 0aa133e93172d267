use Rattle.std.proofs.Common.{◌≡◌, [], ◌∷◌, ◌++◌, map, string_bytes, ◌∙◌, ap, arith, lit<}
use Rattle.std.proofs.lemmas.Grind.{common_steps}
use Rattle.std.specs.Str.Iter.{split_text, split_has_more, split_pattern}
use Rattle.std.proofs.lemmas.Iterator.Consumers.{YieldsList-end}
use Rattle.std.proofs.lemmas.Iterator.Splits.{YieldsList-from_str_split}
use Rattle.getopts_shell.specs.Completion.{stub_quoted}
use Rattle.getopts_shell.proofs.Parts.{all_stub_quoted}
use Rattle.getopts_shell.proofs.complete.push_stub_quoted.Goals as goal

-- the parts that `split` gave are all the parts
pub returns : goal.returns
returns c =
    let start = c.into_iter-part-iterator.ensures.into_iter_gives in
    let split = c.split-part-items.ensures in
    let all = YieldsList-from_str_split 92 c.args.word.now (lit< tt)
    (ap split_text start ∙ split.text) (ap split_has_more start ∙ split.has_more)
    (ap split_pattern start ∙ split.pattern) in
    let each = YieldsList-end all c.loop-part.yielded _ c.loop-part.yielded_by _ _ c.in-None.is
    c.next.ensures.steps in
    let whole : string_bytes c.loop-part.text ++ 39 ∷ []
    ≡ string_bytes c.args.text.now ++ stub_quoted c.args.word.now =
    all_stub_quoted c.args.word.now (map (λ part. part.now) c.loop-part.yielded) _ _ _
    c.loop-part.invariant each.0 in
    grind (arith, common_steps)
