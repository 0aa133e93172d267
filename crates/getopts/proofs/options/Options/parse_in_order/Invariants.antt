-- What was read so far, and then what is left gives, is what the line gives.
use Rattle.std.proofs.Common.{◌≡◌, map}
use Rattle.getopts.specs.Accessors.{borrowed_given}
use Rattle.getopts.specs.Reader.{left_in, size_of, trace}
use Rattle.getopts.specs.Results.{order_or_error}
use Rattle.getopts.proofs.Traces.{order_from}
use Rattle.getopts.proofs.options.Options.parse_in_order.Given as goal

abbrev pub invariant-items : goal.invariant-items
invariant-items g l = order_or_error l.self (map g.S.AsStr.text l.words)
    ≡ order_from (map borrowed_given l.order.items) (trace l.self (left_in g.S.AsStr.text l.unread))

abbrev pub decreases-items : goal.decreases-items
decreases-items g l = size_of (left_in g.S.AsStr.text l.unread)
