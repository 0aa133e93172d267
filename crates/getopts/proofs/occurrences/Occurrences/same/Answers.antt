-- Two lists of occurrences are equal if `get` returns equal values for each index.
use Rattle.std.proofs.Common.{sym}
use Rattle.std.proofs.lemmas.Bool.{not-true, not-false}
use Rattle.getopts.proofs.Stored.Occurrences.{occurrences-differ, occurrences-same}
use Rattle.getopts.proofs.occurrences.Occurrences.same.Goals as goal

pub returns-then-ne : goal.returns-then-ne
returns-then-ne c =
    sym (occurrences-differ c.args.self.now c.args.other.now c.loop-nth.nth c.get.result
    c.get-in-loop-nth.result
    c.get.ensures.occurrence c.get-in-loop-nth.ensures.occurrence
    (not-true _ (rw c.ne.ensures at c.if-ne.true)))

pub loop-nth-preserved : goal.loop-nth-preserved
loop-nth-preserved c = record {
  as_many = c.loop-nth.invariant.as_many;
  same = occurrences-same c.args.self.now c.args.other.now c.loop-nth.nth c.get.result
      c.get-in-loop-nth.result
      c.get.ensures.occurrence c.get-in-loop-nth.ensures.occurrence
      (not-false _ (rw c.ne.ensures at c.if-ne.false))
      c.loop-nth.invariant.same;
}
