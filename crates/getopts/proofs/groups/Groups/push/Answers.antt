-- The appended group has its signature, and its texts at the end of the common text.
use Rattle.std.proofs.Common.{◌≡◌, ◌+◌, List, [], ◌∷◌, ◌++◌, map, length, ap, ◌∙◌, sym, arith, refl, length-append}
use Rattle.std.proofs.Common.{rules}
use Rattle.std.proofs.lemmas.Grind.{common_steps}
use Rattle.std.proofs.lemmas.List.{length-map}
use Rattle.std.proofs.lemmas.Str.{IsUtf8-append}
use Rattle.std.specs.List.{AllByRecursion}
use Rattle.std.specs.String.{string_bytes}
use Rattle.getopts.specs.Names.{Text}
use Rattle.getopts.specs.Options.{Signature}
use Rattle.getopts.specs.Stored.Adjacent.{pair_at, AreEndsOf}
use Rattle.getopts.specs.Stored.Signatures.{signature_with, IsLawfulSignature}
use Rattle.getopts.specs.declared.adjacent.PairEnds.{PairEnds}
use Rattle.std.proofs.Permutation.{every_append}
use Rattle.getopts.proofs.Stored.Signatures.{groups_with-push, twos-push}
use Rattle.getopts.proofs.groups.Groups.push.Goals as goal

items : (c : goal.After-push_reserved)
    → c.push_reserved.new.self.items ≡ c.self.inside.ends.items ++ c.push_pair-pair.result ∷ []
items c = search rules

-- the added signature
abbrev added : goal.After-push_reserved → Signature
added c = signature_with c.args.kinds c.args.short.now c.args.long.now

-- the signatures with the added one
signatures : (c : goal.After-push_reserved) → c.push.new.self ≡ c.self.inside.signatures ++ added c ∷ []
signatures c = c.in_ok-push.ensures.ok ∙ ap (λ (ss : List Signature). ss ++ added c ∷ [])
    (elim c.if-is_empty.branch [
      | goal.then-is_empty+in_ok-reserve+in_ok-reserve-2 w ↦ rw w.self-inside-is refl
      | goal.else-is_empty+in_ok-reserve-3+in_ok-reserve-4 w ↦ rw w.self-inside-is refl
    ])

pushed : (c : goal.After-push_reserved)
    → let text = string_bytes c.push_pair-pair.new.texts in
    let ends = c.push_reserved.new.self.items in AllByRecursion (AreEndsOf text) ends
    × (map (pair_at text) ends
    ≡ map (pair_at (string_bytes c.self.inside.texts)) c.self.inside.ends.items
    ++ (c.args.hint.now, c.args.desc.now) ∷ [])
pushed c =
    let text : string_bytes c.push_pair-pair.new.texts
    ≡ string_bytes c.self.inside.texts ++ (c.args.hint.now ++ c.args.desc.now) =
    c.push_pair-pair.ensures.bytes ∙ ap (λ (t : Text). t ++ (c.args.hint.now ++ c.args.desc.now))
    (grind (arith, common_steps)) in
    rw (items c, text) (twos-push (string_bytes c.self.inside.texts) (c.args.hint.now
    ++ c.args.desc.now) (IsUtf8-append _ _ c.utf8.hint c.utf8.desc) c.self.inside.ends.items
    c.self.invariant.ends c.push_pair-pair.result (c.args.hint.now, c.args.desc.now)
    (rw text at c.push_pair-pair.ensures.two))

pub invariant_of-self-2 : goal.invariant_of-self-2
invariant_of-self-2 c = record {
  ends = (pushed c).0;
  as_many = ap (λ (ends : List PairEnds). length ends) (items c)
      ∙ length-append c.self.inside.ends.items (c.push_pair-pair.result ∷ [])
      ∙ ap (λ n. n + 1) c.self.invariant.as_many
      ∙ sym (length-append c.self.inside.signatures (added c ∷ []))
      ∙ sym (ap (λ (ss : List Signature). length ss) (signatures c));
  lawful = rw (signatures c) (every_append IsLawfulSignature _ (added c ∷ [])
      c.self.invariant.lawful
      (record { named = c.requires; short = c.utf8.short; long = c.utf8.long }, tt));
}

pub returns-clause-ok : goal.returns-clause-ok
returns-clause-ok c = search (rules, length-map, pushed, groups_with-push)
