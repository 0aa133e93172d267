-- Words determine their reading, counts and errors.
use Rattle.getopts.proofs.canon.OneResult.{only_parse_result, only_canonical_result}
use Rattle.getopts.proofs.laws.equal_input_equal_results.Goals as goal

pub returns-clause-parse : goal.returns-clause-parse
returns-clause-parse c options words = only_parse_result options words

pub returns-clause-canonical : goal.returns-clause-canonical
returns-clause-canonical c options words = only_canonical_result options words
