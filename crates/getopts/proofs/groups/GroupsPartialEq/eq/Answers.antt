-- They are equal if their lengths and the elements at each place are.
use Rattle.std.proofs.Common.{sym, ◌∙◌, rules}
use Rattle.std.proofs.lemmas.Bool.{not-true}
use Rattle.std.specs.Option.{option_eq}
use Rattle.getopts.specs.Same.{same_group}
use Rattle.getopts.proofs.Lists.{pointwise-differ, pointwise-take_more}
use Rattle.getopts.proofs.groups.GroupsPartialEq.eq.Goals as goal

pub returns-then-ne : goal.returns-then-ne
returns-then-ne c =
    sym (pointwise-differ same_group _ _ c.loop-place.place
    ((λ i. option_eq same_group (sym c.get.ensures i) (sym c.get-in-loop-place.ensures i))
    ∙ not-true _ (sym c.ne.ensures ∙ c.if-ne.true)))

pub loop-place-preserved : goal.loop-place-preserved
loop-place-preserved c = search (rules, pointwise-take_more)
