-- The occurrence comes last, and its value is at the end of the common text.
use Rattle.std.specs.String.{string_bytes}
use Rattle.getopts.proofs.Stored.Occurrences.{HaveStarts-append, occurrences-push}
use Rattle.getopts.proofs.occurrences.LineOccurrences.push.Goals as goal
use Rattle.std.proofs.Common.{rules}

pub invariant_of-self-in_err-push : goal.invariant_of-self-in_err-push
invariant_of-self-in_err-push c = search (rules, HaveStarts-append)

pub invariant_of-self-2 : goal.invariant_of-self-2
invariant_of-self-2 c =
    let added = c.in_ok-value.ensures.ok in
    rw (c.in_ok-push.ensures.items, added.grown)
    (occurrences-push (string_bytes c.self.inside.values) added.more added.utf8 _ added.starts c.self.inside.records.items
    c.self.invariant).0

pub returns : goal.returns
returns c = search (rules, occurrences-push)
