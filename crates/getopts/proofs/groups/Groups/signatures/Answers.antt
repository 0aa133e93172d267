-- The stored signatures are those of the groups, and valid.
use Rattle.std.proofs.Common.{subst, rules}
use Rattle.getopts.specs.Stored.Signatures.{AreLawfulSignatures}
use Rattle.getopts.proofs.Stored.Signatures.{signatures_stored, MayBeDeclared-lawful}
use Rattle.getopts.proofs.groups.Groups.signatures.Goals as goal

pub returns-clause-signatures : goal.returns-clause-signatures
returns-clause-signatures c = search (rules, signatures_stored)

pub returns-clause-declared : goal.returns-clause-declared
returns-clause-declared c =
    MayBeDeclared-lawful c.args.self.now (subst AreLawfulSignatures
    (signatures_stored c.self.inside c.args.self.now c.self.invariant c.self.view_is).0
    c.self.invariant.lawful)
