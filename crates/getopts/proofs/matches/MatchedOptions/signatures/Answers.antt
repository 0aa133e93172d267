-- The stored signatures are those of the groups of the matches.
use Rattle.getopts.proofs.Stored.Matches.{signatures-matched}
use Rattle.getopts.proofs.matches.MatchedOptions.signatures.Goals as goal

pub returns : goal.returns
returns c =
    rw (← c.self.view_is) (signatures-matched 0 c.self.inside.signatures c.self.inside.found)
