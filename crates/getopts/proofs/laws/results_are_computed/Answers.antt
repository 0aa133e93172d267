use Rattle.getopts.proofs.MainTheorem.Results.{HasResults-declared}
use Rattle.getopts.proofs.laws.results_are_computed.Goals as goal

pub returns : goal.returns
returns c = record {
  results = λ options words declared texts. HasResults-declared options declared words texts;
}
