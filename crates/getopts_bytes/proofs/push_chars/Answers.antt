use Rattle.std.proofs.Common.{List, ℕ, ◌++◌, flat_map, sym, ap, ◌∙◌, map-id}
use Rattle.std.proofs.lemmas.Iterator.{YieldsList-from_chars}
use Rattle.std.proofs.lemmas.Iterator.Consumers.{YieldsList-end}
use Rattle.getopts_bytes.specs.Marks.{written}
use Rattle.getopts_bytes.proofs.push_chars.Goals as goal

pub returns : goal.returns
returns c =
    let end = YieldsList-end (YieldsList-from_chars c.args.text.now c.utf8.text cc) c.loop-char.yielded _ c.loop-char.yielded_by
    _ _ c.in-None.is c.next.ensures.steps in
    c.loop-char.invariant
    ∙ ap (λ (l : List ℕ). c.args.bytes.now.items ++ flat_map written l) (sym (map-id c.loop-char.yielded) ∙ end.0)
