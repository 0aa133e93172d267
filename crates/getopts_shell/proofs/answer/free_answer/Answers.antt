use Rattle.std.proofs.Common.{◌≡◌, ◌<◌, List, [], ◌∷◌, length, map, ap, ◌∙◌, rules}
use Rattle.std.specs.Prelude.{codes}
use Rattle.std.proofs.lemmas.Result.{IfOk-weaker}
use Rattle.getopts.specs.Names.{Text}
use Rattle.getopts_shell.specs.Program.{Answer, AnswersFree, Asked, misused}
use Rattle.getopts_shell.proofs.answer.free_answer.Goals as goal

-- the answer to fewer than two words
too_few : {X : Type 0} (text : X → Text) (asked : Asked) (words : List X) (answer : Answer) → length words < 2
    → answer ≡ misused (codes "getopts_shell: NAME and TABLE are required (see --help)")
    → AnswersFree asked (map text words) answer
too_few text asked [] answer few is = is
too_few text asked (name ∷ []) answer few is = is
too_few text asked (name ∷ table ∷ words) answer few is = search rules

pub returns-in_ok-from_str-in_default : goal.returns-in_ok-from_str-in_default
returns-in_ok-from_str-in_default c =
    IfOk-weaker c.misused.result _ _
    (λ outcome is. too_few _ _ c.args.words.now _ c.in_default.len_below
    (is ∙ ap misused c.in_ok-from_str-in_default.ensures.ok))
    c.misused.ensures
