-- While options may follow, the scanner's steps are the reader's. After that, each word is free.
use Rattle.std.proofs.Common.{◌≡◌, ◌∙◌, ◌==◌, ◌&&◌, [], false, is_some, length, map, true, ap, refl, rules, sym}
use Rattle.std.proofs.lemmas.List.{nil_from_length}
use Rattle.std.proofs.lemmas.Result.{err_from_is_err_and}
use Rattle.getopts.specs.Options.{grammar_of}
use Rattle.getopts.specs.Reader.{AreLast, left_in, next_free, trace, trace_from}
use Rattle.getopts.proofs.Last.{last_after, last_all, last_trans}
use Rattle.getopts.proofs.Reading.Reader.{HasTextNames}
use Rattle.getopts.proofs.Traces.{BeginsWell, begins_well, trace-frees, trace-option}
use Rattle.getopts.proofs.Errors.{IsOutOfMemoryOr-weaker}
use Rattle.getopts.proofs.scan.One.{empty_names}
use Rattle.getopts.proofs.scan.Next.{next-tail}
use Rattle.getopts.proofs.table.Names.{has_text_names}
use Rattle.getopts.proofs.scan.Reader.next.Goals as goal
use Rattle.getopts.proofs.scan.Reader.next.Goals.{After-self, After-next, After-split_first}
use Rattle.getopts.proofs.scan.Reader.next.Given.{Over}

named : (g : Over) (c : After-self g) → HasTextNames (grammar_of c.args.self.now)
named g c = rw (← c.self.view_is) (has_text_names c.self.inside.options.now c.self.invariant.0)

-- options may follow, or names
among : (g : Over) (c : After-next g)
    → (is_some (left_in g.S.AsStr.text c.args.unread.now).free_words && (length c.args.unread.now.names.now == 0)) ≡ false
among g c = elim c.then-is_none.branch [
  | goal.then-is_none-via-then-is_none w ↦ search rules
  | goal.then-is_none-via-else-is_none+then-not-is_empty w ↦ search rules
]

pub returns-in_err-given-clause-trace : goal.returns-in_err-given-clause-trace
returns-in_err-given-clause-trace g c =
    let at_start = (goal.at.returns-in_err-given-clause-trace g c).After-self in
    let left = err_from_is_err_and c.from_residual.result c.from_residual.ensures.1 in
    rw (left.1, left.2) (IsOutOfMemoryOr-weaker c.in_err-given.field-0.0 _ _ c.in_err-given.ensures.err
    (λ fault told. trace-option c.args.self.now (named g at_start) (left_in g.S.AsStr.text c.args.unread.now)
    (among g (goal.at.returns-in_err-given-clause-trace g c).After-next) (rw c.self.view_is at told)))

pub returns-in-Some-clause-trace : goal.returns-in-Some-clause-trace
returns-in-Some-clause-trace g c =
    let next = rw c.in-Some.is at c.in_ok-given.ensures.next in
    trace-option c.args.self.now (named g (goal.at.returns-in-Some-clause-trace g c).After-self)
    (left_in g.S.AsStr.text c.args.unread.now) (among g (goal.at.returns-in-Some-clause-trace g c).After-next)
    (rw c.self.view_is at next)

-- a trace begins well
begins : (g : Over) (c : After-self g) → BeginsWell c.args.self.now (named g c) (left_in g.S.AsStr.text c.args.unread.now)
    (trace c.args.self.now (left_in g.S.AsStr.text c.args.unread.now))
begins g c = begins_well c.args.self.now (named g c) (left_in g.S.AsStr.text c.args.unread.now)

pub returns-in-Some-clause-declared : goal.returns-in-Some-clause-declared
returns-in-Some-clause-declared g c =
    (rw (returns-in-Some-clause-trace g c) at (begins g (goal.at.returns-in-Some-clause-declared g c).After-self)).0

pub returns-in-Some-clause-less : goal.returns-in-Some-clause-less
returns-in-Some-clause-less g c = (
  rw c.in-Some.is at c.in_ok-given.ensures.last,
  (rw (returns-in-Some-clause-trace g c) at (begins g (goal.at.returns-in-Some-clause-less g c).After-self)).1,
)

-- then only free words follow
only_frees : (g : Over) (c : After-split_first g) → HasTextNames (grammar_of c.args.self.now)
    → (c.if-is_none.unread.names.now ≡ []) × (trace c.args.self.now (left_in g.S.AsStr.text c.args.unread.now)
    ≡ trace_from (trace c.args.self.now) (next_free (map g.S.AsStr.text c.if-is_none.unread.words.now)))
only_frees g c are_named = elim c.if-is_none.branch [
  | goal.then-is_none+in_ok-given+in_default w ↦
      let none = rw w.in_default.is at w.in_ok-given.ensures.none in
      let tail = rw w.in_default.is at w.in_ok-given.ensures.tail in
      let left = left_in g.S.AsStr.text c.args.unread.now in
      let among : (is_some left.free_words && (length left.names == 0)) ≡ false = elim w.then-is_none.branch [
        | goal.then-is_none-via-then-is_none v ↦ search rules
        | goal.then-is_none-via-else-is_none+then-not-is_empty v ↦ search rules
      ] in
      let frees = rw none.1 at w.free_words-unread.ensures.words in (
        rw (w.unread-is, none.1) none.0,
        rw w.unread-is (trace-option c.args.self.now are_named left among (rw c.self.view_is
            at (next-tail (grammar_of c.self.inside.options.now) left none.0 tail) ∙ ap next_free (sym frees))),
      )
  | goal.else-is_none+else-not-is_empty w ↦
      let left = left_in g.S.AsStr.text c.args.unread.now in
      let only : (is_some left.free_words && (length left.names == 0)) ≡ true = search rules in
      (rw w.unread-is (empty_names _ (sym w.is_empty.ensures ∙ w.if-not-is_empty.false)), rw w.unread-is (trace-frees c.args.self.now are_named left only))
]

pub returns-in-Some-split_first-clause-trace : goal.returns-in-Some-split_first-clause-trace
returns-in-Some-split_first-clause-trace g c =
    let at = goal.at.returns-in-Some-split_first-clause-trace g c in
    let end = only_frees g at.After-split_first (named g at.After-self) in
    rw (end.1, c.in-Some-split_first.ensures.cases.0, c.as_str.ensures, end.0) refl

pub returns-in-None-clause-trace : goal.returns-in-None-clause-trace
returns-in-None-clause-trace g c =
    let at = goal.at.returns-in-None-clause-trace g c in
    let end = only_frees g at.After-split_first (named g at.After-self) in
    rw (end.1, nil_from_length _ c.in-None.ensures.cases) refl

pub returns-in-Some-split_first-clause-less : goal.returns-in-Some-split_first-clause-less
returns-in-Some-split_first-clause-less g c =
    let last : AreLast c.if-is_none.unread.words.now c.args.unread.now.words.now = search (rules, last_all) in (
      last_trans (last_after _ _) (rw c.in-Some-split_first.ensures.cases.0 at last),
      (rw (returns-in-Some-split_first-clause-trace g c)
          at (begins g (goal.at.returns-in-Some-split_first-clause-less g c).After-self)).1,
    )
