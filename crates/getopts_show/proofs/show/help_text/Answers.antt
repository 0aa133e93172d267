-- The checker computes the usage text of the program's options.
use Rattle.std.proofs.Common.{◌≡◌, ◌∙◌, refl, Result, Ok, Err}
use Rattle.std.specs.Prelude.{IfOk}
use Rattle.std.proofs.lemmas.Result.{IfOk-weaker}
use Rattle.getopts.specs.UsageResults.{usage_result}
use Rattle.getopts.proofs.OnLiterals.{usage_on_literals}
use Rattle.getopts_show.specs.Program.{help_brief, program_help, program_options}
use Rattle.getopts_show.proofs.show.help_text.Goals as goal

computed : usage_result program_options help_brief ≡ program_help
unfolding usage_on_literals
computed = refl

both : {T E : Type 0} (returned : Result T E) (P Q : T → Type 0) → IfOk returned P → IfOk returned Q
    → IfOk returned (λ value. P value × Q value)
both (Ok value) P Q one other = (one, other)
both (Err error) P Q one other = tt

pub returns : goal.returns
returns c = both c.usage.result _ _ (rw c.requires at c.usage.ensures.text)
    (IfOk-weaker c.usage.result _ _ (λ text is. rw c.requires at is ∙ computed) c.usage.ensures.result)
