-- A record has the keys and the kinds of its group, which is valid.
use Rattle.std.proofs.Common.{sym, ap}
use Rattle.std.specs.Option.{option_map}
use Rattle.getopts.specs.Stored.Signatures.{kinds_of}
use Rattle.getopts.proofs.Stored.Signatures.{stored_at, names_at-signature}
use Rattle.getopts.proofs.signatures.Signatures.record.Goals as goal

pub returns-clause-keys : goal.returns-clause-keys
returns-clause-keys c =
    let stored = stored_at _ c.self.inside.records.items _ _ c.index.result.now
    c.self.invariant c.self.view_is c.requires c.index.ensures in
    rw (names_at-signature _ _ _ stored.1) stored.0.keys

pub returns-clause-lawful : goal.returns-clause-lawful
returns-clause-lawful c =
    let stored = stored_at _ c.self.inside.records.items _ _ c.index.result.now
    c.self.invariant c.self.view_is c.requires c.index.ensures in
    rw (names_at-signature _ _ _ stored.1) stored.0.lawful.named

pub returns-clause-kinds : goal.returns-clause-kinds
returns-clause-kinds c =
    let stored = stored_at _ c.self.inside.records.items _ _ c.index.result.now
    c.self.invariant c.self.view_is c.requires c.index.ensures in
    sym (ap (option_map kinds_of) stored.1)
