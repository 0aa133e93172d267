use Rattle.std.proofs.Common.{◌∙◌, sym}
use Rattle.std.proofs.lemmas.Result.{IfOk-weaker}
use Rattle.getopts_show.proofs.ShowLemmas.{text_of_reading}
use Rattle.getopts_show.proofs.show.accepted_text.Goals as goal

pub returns-then-opt_present : goal.returns-then-opt_present
returns-then-opt_present c =
    IfOk-weaker c.help_text.result _ _
    (λ text is. text_of_reading _ _ c.requires.accepted _ _ (sym c.opt_present.ensures.present ∙ c.if-opt_present.true)
    (λ reading reads gives. is))
    c.help_text.ensures
