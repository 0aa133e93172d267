-- The main theorem says that the computed result is the only one.
use Rattle.std.proofs.Common.{subst}
use Rattle.getopts.specs.Theorem.{HaveResults}
use Rattle.getopts_show.proofs.show.have_one_result.Goals as goal

pub returns : goal.returns
returns c =
    let results = subst HaveResults c.requires c.one_reading_one_canonical_line.ensures.results in
    (results _ c.words_are_texts.ensures.texts).line
