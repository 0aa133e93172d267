-- The rows are those of the groups so far.
use Rattle.std.proofs.Common.{◌≡◌, map, string_bytes, take}
use Rattle.getopts.specs.Usage.{any_short}
use Rattle.getopts.specs.UsageResults.{usage_row_in}
use Rattle.getopts.proofs.options.Options.usage_rows_in.Given as goal

abbrev pub invariant-loop-place : goal.invariant-loop-place
invariant-loop-place l = map string_bytes l.rows.items
    ≡ map (usage_row_in l.columns l.self.long_only (any_short l.self.groups))
    (take l.place l.self.groups)
