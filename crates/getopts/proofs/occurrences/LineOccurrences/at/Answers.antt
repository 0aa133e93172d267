-- The record's value ends where the next one starts.
use Rattle.std.proofs.Common.{◌≡◌, ◌+◌, rules, slice_get}
use Rattle.std.specs.Option.{option_copied}
use Rattle.std.specs.String.{string_bytes}
use Rattle.getopts.specs.Stored.Occurrences.{value_in}
use Rattle.getopts.proofs.Stored.Occurrences.{record_within, occurrence-read, starts, ends}
use Rattle.getopts.proofs.occurrences.LineOccurrences.at.Goals as goal

pub index-stored-requires : goal.index-stored-requires
index-stored-requires c = search (rules, record_within)

pub overflow_add-index : goal.overflow_add-index
overflow_add-index c = search (rules, record_within)

pub value_from-requires-clause-start : goal.value_from-requires-clause-start
value_from-requires-clause-start c = search (rules, starts)

pub value_from-requires-clause-end : goal.value_from-requires-clause-end
value_from-requires-clause-end c = search (rules, ends)

pub returns : goal.returns
returns c =
    let value : option_copied c.if-stored-eq1.result
    ≡ value_in (string_bytes c.self.inside.values) c.index-stored.result.now.value
    (slice_get c.self.inside.records.items (c.args.index + 1)) =
    elim c.if-stored-eq1.branch [
      | goal.then-stored-eq1 w ↦ search rules
      | goal.else-stored-eq1 w ↦ search rules
    ] in
    rw value (occurrence-read _ c.self.inside.records.items _ c.self.view_is _ c.requires
    c.index-stored.result.now c.index-stored.ensures)
