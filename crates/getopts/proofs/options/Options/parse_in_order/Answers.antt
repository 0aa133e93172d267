-- The order is that of the line's reading, if this keeps the counts.
use Rattle.std.proofs.Common.{◌≡◌, append_assoc, Err, IfErr, List, Ok, Result, map, refl, sym, rules}
use Rattle.std.specs.List.{AllByRecursion}
use Rattle.std.proofs.lemmas.List.{map-append}
use Rattle.std.proofs.lemmas.List.Elements.{All-from_recursion}
use Rattle.getopts.specs.Accessors.{borrowed_given}
use Rattle.getopts.specs.Fail.{IsOutOfMemoryOr}
use Rattle.getopts.specs.Parse.{IsDeclared, IsRefused}
use Rattle.getopts.specs.Names.{AreTexts, Text}
use Rattle.getopts.specs.Options.{Declared, MayBeDeclared}
use Rattle.getopts.specs.Results.{accepted_reading, order_or_error, parse_result, reading_or_error}
use Rattle.getopts.specs.declared.fail.Fail.{Fail}
use Rattle.getopts.proofs.Lists.{AllByRecursion-unmap}
use Rattle.getopts.proofs.Traces.{order-whole}
use Rattle.getopts.proofs.MainTheorem.Results.{HasResults-declared, is_refused}
use Rattle.getopts.proofs.table.Names.{has_text_names}
use Rattle.getopts.proofs.parse.Holds.{IsDeclared-order}
use Rattle.getopts.proofs.parse.Made.{order-kept, order-broken}
use Rattle.getopts.proofs.options.Options.parse_in_order.Goals as goal
use Rattle.getopts.proofs.options.Options.parse_in_order.Goals.{After-check_counts_in_order}
use Rattle.getopts.proofs.options.Options.parse_in_order.Given.{Over}

-- the error of `parse` rejects the words
refused : {T : Type 0} (options : Declared) (words : List Text) (result : Result T Fail) → MayBeDeclared options.groups
    → AreTexts words
    → IfErr result (λ fail. IsOutOfMemoryOr fail (λ fault. parse_result options words ≡ Err fault))
    → IfErr result (λ fail. IsOutOfMemoryOr fail (IsRefused options words))
refused options words result declared texts told = search (rules, is_refused)

-- what was read of a whole line
whole : (g : Over) (c : After-check_counts_in_order g) → order_or_error c.args.self.now (map g.S.AsStr.text c.args.words.now)
    ≡ Ok (map borrowed_given c.items.order.items)
whole g c = search rules

pub items-init : goal.items-init
items-init g c = search (
  rules,
  sym (order-whole c.args.self.now (has_text_names _ c.signatures-signatures.ensures.declared)
      (map g.S.AsStr.text c.args.words.now)),
)

pub items-preserved : goal.items-preserved
items-preserved g c = search (rules, map-append, append_assoc)

pub returns-in_err-given-clause-same_error : goal.returns-in_err-given-clause-same_error
unfolding accepted_reading reading_or_error
returns-in_err-given-clause-same_error g c = search rules

pub returns-in_err-given-clause-result : goal.returns-in_err-given-clause-result
unfolding accepted_reading
returns-in_err-given-clause-result g c = search (rules, returns-in_err-given-clause-same_error g c)

pub returns-in_err-given-clause-refused : goal.returns-in_err-given-clause-refused
returns-in_err-given-clause-refused g c =
    refused _ _ _ c.signatures-signatures.ensures.declared c.words_are_texts.ensures.texts
    (returns-in_err-given-clause-same_error g c)

pub returns-in_err-check_counts_in_order-clause-same_error : goal.returns-in_err-check_counts_in_order-clause-same_error
unfolding accepted_reading reading_or_error
returns-in_err-check_counts_in_order-clause-same_error g c =
    let read = whole g (goal.at.returns-in_err-check_counts_in_order-clause-same_error g c).After-check_counts_in_order in
    search (rules, order-broken c.args.self.now _ _ read)

pub returns-in_err-check_counts_in_order-clause-result : goal.returns-in_err-check_counts_in_order-clause-result
unfolding accepted_reading
returns-in_err-check_counts_in_order-clause-result g c = search (rules, returns-in_err-check_counts_in_order-clause-same_error g c)

pub returns-in_err-check_counts_in_order-clause-refused : goal.returns-in_err-check_counts_in_order-clause-refused
returns-in_err-check_counts_in_order-clause-refused g c =
    refused _ _ _ c.signatures-signatures.ensures.declared c.words_are_texts.ensures.texts
    (returns-in_err-check_counts_in_order-clause-same_error g c)

pub returns-clause-result : goal.returns-clause-result
unfolding accepted_reading reading_or_error
returns-clause-result g c = search (rules, order-kept)

pub returns-clause-order : goal.returns-clause-order
returns-clause-order g c =
    ((HasResults-declared _ c.signatures-signatures.ensures.declared _ c.words_are_texts.ensures.texts).order (Ok _)).1
    (sym (returns-clause-result g c))

pub returns-clause-declared : goal.returns-clause-declared
returns-clause-declared g c =
    let order = returns-clause-order g c in
    let each : AllByRecursion (IsDeclared c.args.self.now.groups)
    (map borrowed_given c.items.order.items) =
    rw order.order_is (IsDeclared-order c.args.self.now order.accepted.reading _
    ((order.accepted.only order.accepted.reading).1 refl)) in
    All-from_recursion _ _ (AllByRecursion-unmap _ borrowed_given _ each)
