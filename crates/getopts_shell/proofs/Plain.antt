-- No name in a table contains `=`.
use Rattle.std.proofs.Common.{◌≡◌, ℕ, Bool, true, false, eqb, List, [], ◌∷◌, refl, rules}
use Rattle.std.specs.List.{AllByRecursion, list_all}
use Rattle.getopts.specs.Names.{Text, Names, main_name}
use Rattle.getopts.specs.Options.{Group}
use Rattle.getopts.specs.Reading.{holds_equals}
use Rattle.getopts_shell.specs.Stored.{groups_of}
use Rattle.getopts_shell.specs.declared.row.Row.{Row}
use Rattle.getopts_shell.specs.Table.{is_long_name, is_name}
use Rattle.std.proofs.lemmas.Bool.{and_parts}

-- nor is a byte of a text of such bytes
plain_bytes : (may_be : ℕ → Bool) → ((byte : ℕ) → may_be byte ≡ true → eqb byte 61 ≡ false)
    → (text : Text) → list_all may_be text ≡ true → holds_equals text ≡ false
plain_bytes may_be each_plain [] is = refl
plain_bytes may_be each_plain (byte ∷ text) is =
    let each = and_parts (may_be byte) (list_all may_be text) is in
    search (rules, plain_bytes may_be each_plain text each.1)

-- a main name that is allowed in a table contains no `=`
pub plain_main : (names : Names) → is_name names.short ≡ true → is_long_name names.long ≡ true
    → holds_equals (main_name names) ≡ false
plain_main names short long = search (rules, plain_bytes)

-- no main name contains `=`
abbrev pub ArePlainlyNamed : List Group → Type 0
ArePlainlyNamed groups =
    AllByRecursion (λ group. holds_equals (main_name group.signature.names) ≡ false) groups

-- no main name of a row contains `=`
pub plain_rows : (rows : List Row) → ArePlainlyNamed (groups_of rows)
plain_rows [] = tt
plain_rows (row ∷ rows) = search (rules, plain_main, plain_rows rows)
