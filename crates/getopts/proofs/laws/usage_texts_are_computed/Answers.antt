use Rattle.getopts.proofs.usage.Rows.{usage_in_computed, usage_rows_in_computed}
use Rattle.getopts.proofs.wrap.Lines.{description_rows-only, rows_fewest}
use Rattle.getopts.proofs.laws.usage_texts_are_computed.Goals as goal
use Rattle.std.proofs.Common.{rules}

pub returns : goal.returns
returns c = search (rules, usage_in_computed, usage_rows_in_computed, description_rows-only, rows_fewest)
