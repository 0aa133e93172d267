use Rattle.std.proofs.Common.{◌++◌, ◌∙◌, ap, map}
use Rattle.std.specs.List.{flat_map}
use Rattle.std.specs.String.{string_bytes}
use Rattle.std.specs.Prelude.{codes}
use Rattle.getopts.specs.Matches.{Matched}
use Rattle.getopts_show.specs.Program.{group_lines, word_line}
use Rattle.getopts_show.proofs.ShowLemmas.{lines_of_names}
use Rattle.getopts_show.proofs.show.matches_text.Goals as goal

pub returns : goal.returns
returns c =
    let groups = c.args.matches.now.groups in
    let options_are = c.in_ok-text.ensures ∙ lines_of_names groups c.requires in
    let free_is = ap (map string_bytes) c.deref.ensures.value
    ∙ ap (λ (matches : Matched). matches.free) c.matches.view_is in
    c.in_ok-push_words.ensures
    ∙ ap (λ lines. lines ++ flat_map (word_line (codes "free")) (map string_bytes c.deref.result.now)) options_are
    ∙ ap (λ words. flat_map group_lines groups ++ flat_map (word_line (codes "free")) words) free_is
