-- The next word is free, in long form or in short form, or ends the items.
use Rattle.std.proofs.Common.{◌≢◌, [], sym, ◌∙◌, rules}
use Rattle.getopts.specs.Scan.{scanner_grammar}
use Rattle.getopts.proofs.Last.{last_after, last_trans}
use Rattle.getopts.proofs.Errors.{IsOutOfMemoryOr-exit}
use Rattle.getopts.proofs.scan.One as Names
use Rattle.getopts.proofs.scan.Next.{next-error, next-free, next-long, next-long_error, next-one, next-short}
use Rattle.getopts.proofs.scan.Scanner.next.Goals as goal

pub returns-in-Free-clause-next : goal.returns-in-Free-clause-next
returns-in-Free-clause-next g c = search (rules, next-free)

pub returns-in-Long-clause-next : goal.returns-in-Long-clause-next
returns-in-Long-clause-next g c =
    let none = Names.empty_names _ (sym c.is_empty.ensures ∙ c.if-is_empty.true) in
    rw (none, c.in-Some.ensures.cases.0)
    (next-long (scanner_grammar c.args.self.now) _ _ c.in-Long.ensures.0 _ _ (rw c.as_str.ensures at c.in-Long.ensures.1)
    ∙ next-one (scanner_grammar c.args.self.now) _ _ (c.in_ok-taken-in-Long.ensures.ok c.in-Long.ensures.0))

pub returns-in_err-taken-in-Long-clause-err : goal.returns-in_err-taken-in-Long-clause-err
returns-in_err-taken-in-Long-clause-err g c =
    rw (Names.empty_names _ (sym c.is_empty.ensures ∙ c.if-is_empty.true), c.in-Some.ensures.cases.0)
    (IsOutOfMemoryOr-exit _ c.in_err-taken-in-Long.field-0.0 _ _ c.from_residual.ensures.1
    (c.in_err-taken-in-Long.ensures.err c.in-Long.ensures.0)
    (λ fault told. next-long_error (scanner_grammar c.args.self.now) _ _ c.in-Long.ensures.0 _ _
    (rw c.as_str.ensures at c.in-Long.ensures.1) told))

pub returns-in_err-taken-clause-err : goal.returns-in_err-taken-clause-err
returns-in_err-taken-clause-err g c = elim c.if-is_empty.branch [
  | goal.then-is_empty+in-Some+in-Cluster w ↦
      let form = rw w.as_str.ensures at w.in-Cluster.ensures in
      rw (Names.empty_names _ (sym c.is_empty.ensures ∙ w.if-is_empty.true), w.in-Some.ensures.cases.0)
      (IsOutOfMemoryOr-exit _ c.in_err-taken.field-0.0 _ _ c.from_residual-in_err-taken.ensures.1
      (rw (w.names-is, w.after-is) at c.in_err-taken.ensures.err) (λ fault told. next-short (scanner_grammar c.args.self.now) _ _ _ _ form
      ∙ next-error (scanner_grammar c.args.self.now) _ _ _ form.filled told))
  | goal.else-is_empty w ↦
      let filled : c.args.unread.now.names.now ≢ [] = search rules in
      IsOutOfMemoryOr-exit _ c.in_err-taken.field-0.0 _ _ c.from_residual-in_err-taken.ensures.1
      (rw (w.names-is, w.after-is) at c.in_err-taken.ensures.err)
      (λ fault told. next-error (scanner_grammar c.args.self.now) _ _ _ filled told)
]

pub returns-in-Long-clause-last : goal.returns-in-Long-clause-last
returns-in-Long-clause-last g c = search (rules, last_trans, last_after)

pub returns-clause-last : goal.returns-clause-last
returns-clause-last g c =
    search (rules, goal.then-is_empty+in-Some+in-Cluster, last_trans, last_after, goal.else-is_empty)
