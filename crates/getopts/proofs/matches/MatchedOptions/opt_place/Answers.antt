-- A name resolves among the groups of the matches as in the table of the stored signatures, whose
-- names are valid.
use Rattle.getopts.specs.Names.{IsLawfullyNamed}
use Rattle.getopts.specs.Options.{Signature}
use Rattle.getopts.specs.Matches.{MatchedGroup}
use Rattle.getopts.proofs.Lists.{AllByRecursion-unmap}
use Rattle.getopts.proofs.Stored.Matches.{signatures-matched, opt_place-signatures}
use Rattle.getopts.proofs.matches.MatchedOptions.opt_place.Goals as goal
use Rattle.std.proofs.Common.{rules}

pub returns-clause-place : goal.returns-clause-place
returns-clause-place c = search (rules, opt_place-signatures, signatures-matched)

pub returns-clause-lawful : goal.returns-clause-lawful
returns-clause-lawful c =
    rw (← c.self.view_is) (AllByRecursion-unmap (λ (s : Signature). IsLawfullyNamed s.names)
    (λ (group : MatchedGroup). group.signature) _
    (rw (signatures-matched 0 c.self.inside.signatures c.self.inside.found)
    (AllByRecursion-unmap IsLawfullyNamed (λ (signature : Signature). signature.names)
    c.self.inside.signatures c.self.invariant.table.valid)))
