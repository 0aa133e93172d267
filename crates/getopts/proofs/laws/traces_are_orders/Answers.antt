-- The order of a line's trace, and of its words before an error.
use Rattle.getopts.proofs.Traces.{before_error-whole, order-whole}
use Rattle.getopts.proofs.table.Names.{has_text_names}
use Rattle.getopts.proofs.laws.traces_are_orders.Goals as goal

pub returns : goal.returns
returns c = record {
  order = λ options line declared. order-whole options (has_text_names _ declared) line;
  before_error = λ options line fault declared. before_error-whole options (has_text_names _ declared) line fault;
}
