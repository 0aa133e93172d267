-- The count is the number of stored occurrences.
use Rattle.std.proofs.Common.{arith}
use Rattle.std.specs.String.{string_bytes}
use Rattle.getopts.proofs.Stored.Occurrences.{length-occurrences}
use Rattle.getopts.proofs.occurrences.LineOccurrences.len.Goals as goal

pub returns : goal.returns
returns c =
    rw (← c.self.view_is)
    (omega (arith, length-occurrences (string_bytes c.self.inside.values) c.self.inside.records.items))
