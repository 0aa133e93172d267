-- `==` decides equality.
use Rattle.std.proofs.Common.{◌≡◌, ◌==◌, Bool, false, Option, ap, rules, arith}
use Rattle.std.specs.Bool.{Decides}
use Rattle.std.specs.Cmp.Lexicographic.{pointwise_decides, bytes_decides}
use Rattle.std.specs.Option.{option_eq}
use Rattle.std.proofs.lemmas.Bool.{false≢true, false_from_ne_true}
use Rattle.std.proofs.lemmas.Bool.Decides.{Decides-and, Decides-like, Decides-eqb, nat_tests}
use Rattle.std.proofs.lemmas.Grind.{common_steps}
use Rattle.std.specs.Cmp.{booleans_Decides}
use Rattle.getopts.specs.Matches.{GroupOccurrence, MatchedGroup, Matched}
use Rattle.getopts.specs.Same.{same_group_occurrence, same_matched_group, same_matches, style_index, same_signature}
use Rattle.getopts.specs.Same.{same_group, same_options}
use Rattle.getopts.specs.Options.{Signature, Group, Declared}
use Rattle.getopts.specs.declared.kinds.ParsingStyle.{ParsingStyle}

same_style : (a b : ParsingStyle) → style_index a ≡ style_index b → a ≡ b
same_style a b h = search rules

-- the comparison of two signatures decides equality
pub same_signature-decides : (a b : Signature) → Decides (same_signature a b) (a ≡ b)
same_signature-decides a b = search (rules, Decides-like, Decides-and, Decides-eqb, bytes_decides)

-- the comparison of two groups decides equality
pub same_group-decides : (a b : Group) → Decides (same_group a b) (a ≡ b)
same_group-decides a b =
    grind (
      arith,
      common_steps,
      nat_tests,
      same_signature-decides a.signature b.signature,
      Decides-and _ _ (bytes_decides a.hint b.hint) (bytes_decides a.description b.description),
    )

-- the comparison of two options decides equality
pub same_options-decides : (a b : Declared) → Decides (same_options a b) (a ≡ b)
same_options-decides a b = Decides-like (same_options a b)
    (λ h. λ i. record {
      groups = h.0 i;
      style = same_style a.style b.style h.1.0 i;
      long_only = h.1.1 i;
    })
    (λ e. (ap (λ o. o.groups) e, (ap (λ o. style_index o.style) e, ap (λ o. o.long_only) e)))
    (Decides-and _ _ (pointwise_decides same_group-decides a.groups b.groups)
    (Decides-and _ _ (Decides-eqb (style_index a.style) (style_index b.style))
    (booleans_Decides a.long_only b.long_only)))

-- the comparison of two `Option`s decides equality, if that of their values does
pub options_decide : {X : Type 0} (E : X → X → Bool) → ((a b : X) → Decides (E a b) (a ≡ b))
    → (o p : Option X) → Decides (option_eq E o p) (o ≡ p)
options_decide E decides o p = search (rules, false≢true)

-- the comparison of two occurrences decides equality
pub same_group_occurrence-decides : (a b : GroupOccurrence) → Decides (same_group_occurrence a b) (a ≡ b)
same_group_occurrence-decides a b = search (rules, Decides-like, Decides-and, Decides-eqb, options_decide, ◌==◌)

-- the comparison of two groups decides equality
pub same_matched_group-decides : (a b : MatchedGroup) → Decides (same_matched_group a b) (a ≡ b)
same_matched_group-decides a b = Decides-like (same_matched_group a b)
    (λ h. λ i. record { signature = h.0 i; occurrences = h.1 i })
    (λ e. (ap (λ g. g.signature) e, ap (λ g. g.occurrences) e))
    (Decides-and _ _ (same_signature-decides _ _)
    (pointwise_decides same_group_occurrence-decides a.occurrences b.occurrences))

-- the comparison of two matches decides equality
pub same_matches-decides : (a b : Matched) → Decides (same_matches a b) (a ≡ b)
same_matches-decides a b = Decides-like (same_matches a b)
    (λ h. λ i. record { groups = h.0 i; free = h.1.0 i; trailing_start = h.1.1 i })
    (λ e. (ap (λ m. m.groups) e, (ap (λ m. m.free) e, ap (λ m. m.trailing_start) e)))
    (Decides-and _ _ (pointwise_decides same_matched_group-decides a.groups b.groups)
    (Decides-and _ _ (pointwise_decides bytes_decides a.free b.free)
    (options_decide ◌==◌ Decides-eqb a.trailing_start b.trailing_start)))

-- values differ if what is made of them does
pub differ : {X Y : Type 0} (E : X → X → Bool) (F : Y → Y → Bool) → ((a b : X) → Decides (E a b) (a ≡ b))
    → ((a b : Y) → Decides (F a b) (a ≡ b)) → (make : X → Y) (a b : X) → F (make a) (make b) ≡ false → E a b ≡ false
differ E F decides made_decides make a b apart = search (rules, false_from_ne_true, false≢true)
