-- The checker computes the program's help, which is the text written out.
use Rattle.std.proofs.Common.{◌≡◌, ap, refl, rules, sym, ◌∙◌}
use Rattle.std.proofs.lemmas.Result.{IfOk-weaker}
use Rattle.getopts.specs.UsageResults.{usage_result}
use Rattle.getopts.proofs.OnLiterals.{usage_on_literals}
use Rattle.getopts_shell.specs.Program.{misused, own_brief, own_help, own_options}
use Rattle.getopts_shell.proofs.Chosen.{at_false, at_true}
use Rattle.getopts_shell.proofs.answer.own_answer.Goals as goal

the_help : usage_result own_options own_brief ≡ own_help
unfolding usage_on_literals
the_help = refl

pub returns-then-opt_present : goal.returns-then-opt_present
returns-then-opt_present c = search (rules, at_false, at_true, the_help)

pub returns-then-sets_nothing : goal.returns-then-sets_nothing
returns-then-sets_nothing c =
    IfOk-weaker c.misused.result _ _
    (λ outcome is. at_true _ _ (sym c.sets_nothing.ensures ∙ c.if-sets_nothing.true)
    (is ∙ ap misused c.in_ok-from_str.ensures.ok))
    c.misused.ensures
