use Rattle.getopts_bytes.proofs.Cuts.{ascii_stays, cut_alike}
use Rattle.getopts_bytes.proofs.words_are_cut_as_texts.Goals as goal

pub returns-clause-ascii : goal.returns-clause-ascii
returns-clause-ascii c = ascii_stays

pub returns-clause-cut : goal.returns-clause-cut
returns-clause-cut c = cut_alike
