-- The table is the table of the options' names.
use Rattle.getopts.proofs.Stored.Signatures.{names-signatures_of}
use Rattle.getopts.proofs.options.Options.reader.Goals as goal
use Rattle.std.proofs.Common.{rules}

pub invariant_of-result : goal.invariant_of-result
invariant_of-result c = search (rules, names-signatures_of)
