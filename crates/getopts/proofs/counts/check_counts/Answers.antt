-- Each group in order keeps its count, or is the first to break it.
use Rattle.std.proofs.Common.{rules}
use Rattle.getopts.specs.Stored.Index.{count_in, indices_in}
use Rattle.getopts.proofs.counts.Groups.{first_wrong-kept, first_wrong-broken}
use Rattle.getopts.proofs.counts.check_counts.Goals as goal

pub loop-place-preserved : goal.loop-place-preserved
loop-place-preserved c = search (rules, first_wrong-kept)

pub returns-then-not-fits_count-clause-err : goal.returns-then-not-fits_count-clause-err
returns-then-not-fits_count-clause-err c = first_wrong-broken c.args.signatures.now c.loop-place.place _
    (count_in (indices_in c.args.index.now)) _ c.record.ensures.kinds c.count-count.ensures c.loop-place.invariant _ _
    (search rules) c.main.ensures c.count_fault.ensures
