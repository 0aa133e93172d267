use Rattle.getopts.specs.Accessors.{IsDefined}
use Rattle.getopts_show.proofs.ShowLemmas.{text_at}
use Rattle.getopts_show.proofs.show.options_text.Goals as goal

pub push_option-requires : goal.push_option-requires
push_option-requires c =
    text_at (IsDefined c.args.matches.now.groups) c.args.names.now c.requires c.loop-name.name-index _
    c.loop-name-test.true
