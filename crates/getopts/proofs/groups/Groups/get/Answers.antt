-- A group's ends say where its hint and description are.
use Rattle.std.proofs.Common.{◌≡◌, Some, slice_get, refl, sym, ap, ◌∙◌, arith, rules}
use Rattle.std.proofs.lemmas.Option.{slice_get-map, slice_get_read}
use Rattle.std.specs.Option.{option_map}
use Rattle.std.specs.String.{string_bytes}
use Rattle.getopts.specs.Stored.Groups.{group_with}
use Rattle.getopts.specs.Stored.Adjacent.{pair_at, AreEndsOf}
use Rattle.getopts.specs.Stored.Signatures.{signature_view}
use Rattle.getopts.proofs.Lists.{AllByRecursion-at}
use Rattle.getopts.proofs.Stored.Signatures.{signatures_stored, groups_with-at}
use Rattle.getopts.proofs.groups.Groups.get.Goals as goal
use Rattle.getopts.proofs.groups.Groups.get.Goals.{After-index-pair}

pub index-pair-requires : goal.index-pair-requires
index-pair-requires c =
    search (rules, signatures_stored c.self.inside c.args.self.now c.self.invariant c.self.view_is)

pub get-signature-requires : goal.get-signature-requires
get-signature-requires c = search (rules, signatures_stored c.self.inside c.args.self.now c.self.invariant c.self.view_is)

pair_there : (c : After-index-pair) → slice_get c.self.inside.ends.items c.args.place ≡ Some c.index-pair.result.now
pair_there c =
    let many = (signatures_stored c.self.inside c.args.self.now c.self.invariant c.self.view_is).1 in
    slice_get_read c.self.inside.ends.items _ c.args.place c.index-pair.result.now refl
    (omega (arith, many, c.requires, c.self.invariant.as_many)) c.index-pair.ensures

ends : (c : After-index-pair) → AreEndsOf (string_bytes c.self.inside.texts) c.index-pair.result.now
ends c = AllByRecursion-at _ c.self.inside.ends.items c.args.place c.index-pair.result.now
    c.self.invariant.ends (pair_there c)

pub first_at-requires : goal.first_at-requires
first_at-requires c = rw c.deref.ensures (ends (goal.at.first_at-requires c).After-index-pair)

pub second_at-requires : goal.second_at-requires
second_at-requires c = rw c.deref-2.ensures (ends (goal.at.second_at-requires c).After-index-pair)

pub returns : goal.returns
returns c =
    let at = (goal.at.returns c).After-index-pair in
    let text = string_bytes c.self.inside.texts in
    let all = c.self.inside.ends.items in
    let two = slice_get-map (pair_at text) all c.args.place
    ∙ ap (option_map (pair_at text)) (pair_there at) in
    let there = groups_with-at c.self.inside.signatures _ c.args.place
    (signature_view c.get-signature.result) (pair_at text c.index-pair.result.now) (sym c.get-signature.ensures) two in
    let hint = rw c.deref.ensures at c.first_at.ensures in
    let description = rw c.deref-2.ensures at c.second_at.ensures in
    rw (← c.self.view_is) ((λ i. Some (group_with (signature_view c.get-signature.result)
    (hint i, description i))) ∙ sym there)
