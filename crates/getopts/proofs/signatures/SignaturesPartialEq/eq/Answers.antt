-- They are equal if their lengths and the elements at each place are, or if their texts and records are.
use Rattle.std.proofs.Common.{sym, ◌∙◌, ◌≡◌, true, map, List, [], ◌∷◌, rules}
use Rattle.std.specs.Cmp.Lexicographic.{pointwise, pointwise_decides}
use Rattle.std.specs.Option.{option_eq}
use Rattle.std.proofs.lemmas.Bool.{not-true, and_parts}
use Rattle.std.proofs.lemmas.Slice.Eq.{bytes_eq-Decides}
use Rattle.getopts.specs.Same.{same_signature}
use Rattle.getopts.specs.Stored.Signatures.{signature_in, signature_view}
use Rattle.getopts.specs.declared.kinds.Kinds.{Kinds}
use Rattle.getopts.specs.declared.signatures.SignatureRecord.{SignatureRecord}
use Rattle.getopts.specs.declared.signatures.SignatureView.{SignatureView}
use Rattle.getopts.specs.contracts.kinds.KindsPartialEq.TheImpl as kinds_eq
use Rattle.getopts.specs.contracts.signatures.SignatureRecordPartialEq.TheImpl as record_eq
use Rattle.getopts.specs.contracts.signatures.SignatureViewPartialEq.TheImpl as view_eq
use Rattle.getopts.proofs.Lists.{pointwise-differ, pointwise-take_more}
use Rattle.getopts.proofs.Stored.Same.{same_signature-decides}
use Rattle.getopts.proofs.signatures.SignaturesPartialEq.eq.Goals as goal

-- borrowed signatures compare like the signatures
same_view : (a b : SignatureView) → view_eq.eq-value.it a b ≡ same_signature (signature_view a) (signature_view b)
same_view a b = search rules

pub returns-then-ne : goal.returns-then-ne
returns-then-ne c =
    sym (pointwise-differ same_signature _ _ c.loop-place.place
    ((λ i. option_eq same_signature (sym c.get.ensures i) (sym c.get-in-loop-place.ensures i))
    ∙ sym (same_view c.get.result c.get-in-loop-place.result) ∙ not-true _ (sym c.ne.ensures ∙ c.if-ne.true)))

pub loop-place-preserved : goal.loop-place-preserved
loop-place-preserved c = search (rules, pointwise-take_more)

-- `==` of kinds, records and lists of records is true only if they are the same
kinds : (a b : Kinds) → kinds_eq.eq-value.it a b ≡ true → a ≡ b
kinds a b same = search rules

all : (rs qs : List SignatureRecord) → pointwise record_eq.eq-value.it rs qs ≡ true → rs ≡ qs
all [] [] same = search rules
all [] (q ∷ qs) same = search rules
all (r ∷ rs) [] same = search rules
all (r ∷ rs) (q ∷ qs) same = search (rules, and_parts, all rs qs)

pub returns-then-eq-2 : goal.returns-then-eq-2
returns-then-eq-2 c =
    let records = all _ _ (sym c.eq-then-eq.ensures ∙ c.if-eq-2.true) in
    let text = (bytes_eq-Decides _ _).0 (sym c.eq.ensures ∙ c.if-eq.true) in
    sym ((pointwise_decides same_signature-decides _ _).1
    (sym c.self.view_is ∙ (λ i. map (signature_in (text i)) (records i)) ∙ c.other.view_is))
