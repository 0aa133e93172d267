-- The appended group has its names at the end of the common text.
use Rattle.std.proofs.Common.{rules, ◌≡◌, not, [], ◌∷◌, ◌++◌, map}
use Rattle.std.proofs.lemmas.Str.{IsUtf8-append}
use Rattle.std.specs.List.{AllByRecursion}
use Rattle.std.specs.String.{string_bytes}
use Rattle.getopts.specs.Names.{Text, main_name}
use Rattle.getopts.specs.Options.{Signature}
use Rattle.getopts.specs.Stored.Signatures.{signature_with, signature_in, HasKeys, IsStored, ends_of}
use Rattle.getopts.specs.declared.signatures.SignatureRecord.{SignatureRecord}
use Rattle.getopts.proofs.Stored.Signatures.{signatures-push}
use Rattle.getopts.proofs.signatures.Signatures.push.Goals as goal

-- the added record
abbrev added : goal.After-push_reserved → SignatureRecord
added c = record {
  long = c.push_pair-names.result.middle;
  end = c.push_pair-names.result.end;
  key = c.key_of.result;
  short = c.short_byte.result;
  has_long = not c.is_empty-has_long.result;
  kinds = c.args.kinds;
}

-- the added signature
abbrev signature : goal.After-push_reserved → Signature
signature c = signature_with c.args.kinds c.args.short.now c.args.long.now

items : (c : goal.After-push_reserved) → c.push_reserved.new.self.items ≡ c.self.inside.records.items ++ added c ∷ []
items c = search rules

-- the added texts
abbrev more : goal.After-push_reserved → Text
more c = c.args.short.now ++ c.args.long.now

text : (c : goal.After-push_reserved) → string_bytes c.push_pair-names.new.texts
    ≡ string_bytes c.self.inside.text ++ more c
text c = search rules

-- the names of the record are where they were put
ends_are : (c : goal.After-push_reserved) → ends_of (added c) ≡ c.push_pair-names.result
ends_are c = search rules

signature_is : (c : goal.After-push_reserved)
    → signature_in (string_bytes c.push_pair-names.new.texts) (added c) ≡ signature c
signature_is c = search rules

main_is : (c : goal.After-push_reserved) → c.if-has_long.main.now ≡ main_name (signature c).names
main_is c = search rules

has_keys : (c : goal.After-push_reserved) → HasKeys (added c) (signature c).names
has_keys c = search rules

last : (c : goal.After-push_reserved) → IsStored (string_bytes c.push_pair-names.new.texts) (added c)
last c = search (rules, ends_are, signature_is, has_keys)

pushed : (c : goal.After-push_reserved)
    → let all = string_bytes c.push_pair-names.new.texts in
    let records = c.push_reserved.new.self.items in AllByRecursion (IsStored all) records
    × (map (signature_in all) records ≡ map (signature_in (string_bytes c.self.inside.text))
    c.self.inside.records.items ++ signature c ∷ [])
pushed c =
    let both = signatures-push (string_bytes c.self.inside.text) (more c)
    (IsUtf8-append _ _ c.utf8.short c.utf8.long) c.self.inside.records.items
    c.self.invariant (added c) (rw (← text c) (last c)) in
    rw (items c, ← signature_is c) (rw (← text c) at both)

pub invariant_of-self-2 : goal.invariant_of-self-2
invariant_of-self-2 c = (pushed c).0

pub returns-clause-ok : goal.returns-clause-ok
returns-clause-ok c = rw (← c.self.view_is) (pushed c).1
