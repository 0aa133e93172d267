use Rattle.std.proofs.Common.{◌≡◌, ℕ, ◌≤◌, cond, Some, None, length, ap, ◌∙◌, rules, arith, tests}
use Rattle.std.specs.Prelude.{nat_lt}
use Rattle.std.specs.Option.{unwrap_or}
use Rattle.std.proofs.lemmas.Bool.Decides.{nat_tests}
use Rattle.std.proofs.lemmas.Iterator.{YieldsList-from_slice}
use Rattle.std.proofs.lemmas.Iterator.Search.{position_from_yields_List}
use Rattle.std.proofs.lemmas.List.Sums.{prefix_len-le-length}
use Rattle.getopts_shell.proofs.item.place_of.Goals as goal

place_or_end : (place end : ℕ) → place ≤ end → unwrap_or (cond (nat_lt place end) (Some place) None) end ≡ place
place_or_end place end within = grind (arith, nat_tests)

pub returns-clause-place : goal.returns-clause-place
returns-clause-place c =
    c.unwrap_or.ensures ∙ ap (λ place. unwrap_or place (length c.args.bytes.now))
    (position_from_yields_List _ _ _ _ c.position.ensures.ran
    (YieldsList-from_slice c.args.bytes.now cc) (λ x b q k. search (rules, tests)))
    ∙ place_or_end _ _ (prefix_len-le-length _ c.args.bytes.now)
