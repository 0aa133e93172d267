use Rattle.std.proofs.Common.{◌≢◌, ℕ, Some, None, lit<, sym, append-nil}
use Rattle.std.proofs.lemmas.List.Elements.{All-from_get_or, recursion_from_All}
use Rattle.std.proofs.lemmas.Str.Pattern.{split_parts}
use Rattle.getopts_shell.proofs.item.parts_of.Goals as goal

pub returns-in-Some : goal.returns-in-Some
returns-in-Some c =
    let parts = split_parts 32 c.args.text.now (Some (c.in-Some.names, c.in-Some.argument))
    c.in-Some.ensures.cases
    (lit< tt) in (
      recursion_from_All (λ (b : ℕ). b ≢ 32) _ (All-from_get_or (λ (b : ℕ). b ≢ 32) _ 0 parts.1),
      parts.0,
    )

pub returns-in-None : goal.returns-in-None
returns-in-None c =
    let none = split_parts 32 c.args.text.now None c.in-None.ensures.cases (lit< tt) in (
      recursion_from_All (λ (b : ℕ). b ≢ 32) _ (All-from_get_or (λ (b : ℕ). b ≢ 32) _ 0 none),
      sym (append-nil c.args.text.now),
    )
