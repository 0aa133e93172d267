-- Each group in order keeps its count, or is the first to break it.
use Rattle.std.proofs.Common.{map, rules}
use Rattle.std.proofs.lemmas.List.{get_or_read_under, with_items_is}
use Rattle.getopts.specs.Accessors.{borrowed_given}
use Rattle.getopts.specs.Stored.Index.{count_given}
use Rattle.getopts.proofs.counts.Groups.{first_wrong-kept, first_wrong-broken}
use Rattle.getopts.proofs.counts.check_counts_in_order.Goals as goal

pub loop-place-preserved : goal.loop-place-preserved
loop-place-preserved c = search (rules, first_wrong-kept, with_items_is, get_or_read_under)

pub returns-then-not-fits_count-clause-err : goal.returns-then-not-fits_count-clause-err
returns-then-not-fits_count-clause-err c = first_wrong-broken c.args.signatures.now c.loop-place.place _
    (count_given (map borrowed_given c.args.order.now)) _ c.record.ensures.kinds
    (search (rules, with_items_is, get_or_read_under)) c.loop-place.invariant _ _
    (search rules) c.main.ensures c.count_fault.ensures
