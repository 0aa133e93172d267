-- After the last word the iteration is complete.
use Rattle.std.proofs.Common.{◌∙◌, sym, subst}
use Rattle.std.proofs.iter.SoFar.{exit_by}
use Rattle.getopts.proofs.parse.words_from.Goals as goal

pub returns : goal.returns
returns g c =
    let run = exit_by g.I.Iterator.next_gives
    (c.loop-word.yielded, c.loop-word.yielded_by) c.next.new.self
    (subst (λ o. g.I.Iterator.next_gives c.loop-word.word-iterator o c.next.new.self) c.in-None.is
    c.next.ensures.steps) in (
      run.0,
      run.1 ∙ c.into_iter-word-iterator.ensures.into_iter_gives,
      run.2,
      c.loop-word.invariant
          ∙ sym run.3.0,
    )
