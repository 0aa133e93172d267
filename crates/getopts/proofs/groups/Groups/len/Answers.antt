-- There are as many ends as groups.
use Rattle.std.proofs.Common.{rules}
use Rattle.getopts.proofs.Stored.Signatures.{signatures_stored}
use Rattle.getopts.proofs.groups.Groups.len.Goals as goal

pub returns : goal.returns
returns c = search (rules, signatures_stored c.self.inside c.args.self.now c.self.invariant c.self.view_is)
