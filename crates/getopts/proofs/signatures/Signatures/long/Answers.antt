-- The long name is the second of the two texts of the record.
use Rattle.getopts.proofs.Stored.Signatures.{stored_at, names_at-signature}
use Rattle.getopts.proofs.signatures.Signatures.long.Goals as goal

pub second_at-requires : goal.second_at-requires
second_at-requires c =
    rw (c.ends.ensures, c.deref.ensures) (stored_at _ c.self.inside.records.items _ _ c.index.result.now
    c.self.invariant c.self.view_is c.requires c.index.ensures).0.ends

pub returns : goal.returns
returns c =
    let stored = stored_at _ c.self.inside.records.items _ _ c.index.result.now
    c.self.invariant c.self.view_is c.requires c.index.ensures in
    let is = rw (c.ends.ensures, c.deref.ensures) at c.second_at.ensures in
    rw (names_at-signature _ _ _ stored.1) is
