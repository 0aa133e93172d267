-- The rows are those of the lines so far.
use Rattle.std.proofs.Common.{◌≡◌, map, string_bytes}
use Rattle.getopts.specs.UsageResults.{rows_of}
use Rattle.getopts.proofs.wrap.each_split_within.Given as goal

abbrev pub invariant-loop-line : goal.invariant-loop-line
invariant-loop-line l =
    map string_bytes l.rows.items ≡ rows_of l.lim (map (λ line. line.now) l.yielded)
