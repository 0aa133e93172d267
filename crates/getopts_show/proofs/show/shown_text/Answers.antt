use Rattle.std.proofs.Common.{◌++◌, ◌∙◌, ap, sym}
use Rattle.getopts.specs.Matches.{Matched}
use Rattle.getopts.specs.Canon.{content_of}
use Rattle.getopts_show.specs.Program.{content_text, matches_text, program_options}
use Rattle.getopts_show.proofs.ShowLemmas.{are_accepted, program_groups_of, text_of_reading}
use Rattle.getopts_show.proofs.show.shown_text.Goals as goal

pub matches_text-requires : goal.matches_text-requires
matches_text-requires c = program_groups_of _ _ c.requires.accepted

pub push_canonical-requires-clause-accepted : goal.push_canonical-requires-clause-accepted
push_canonical-requires-clause-accepted c = are_accepted _ _ c.requires.accepted

pub returns : goal.returns
returns c =
    text_of_reading _ _ c.requires.accepted _ _ c.requires.no_help
    (λ reading reads gives. c.in_ok-push_canonical.ensures reading reads
    ∙ ap (λ text. text ++ content_text (content_of program_options reading)) c.in_ok-text.ensures
    ∙ ap (λ (m : Matched). matches_text m ++ content_text (content_of program_options reading)) (sym gives))
