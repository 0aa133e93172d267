-- The main name comes from the signature.
use Rattle.std.proofs.Common.{rules}
use Rattle.getopts.proofs.Stored.Signatures.{signatures_stored, main_at-names}
use Rattle.getopts.proofs.groups.Groups.main.Goals as goal

pub main-requires : goal.main-requires
main-requires c = search (rules, signatures_stored c.self.inside c.args.self.now c.self.invariant c.self.view_is)

pub returns : goal.returns
returns c = search (rules, signatures_stored, main_at-names)
