use Rattle.std.proofs.Common.{◌≡◌, Bool, List, [], ◌∷◌, length, refl, ap, ◌∙◌}
use Rattle.std.specs.Prelude.{find, nat_lt, not}
use Rattle.std.specs.Option.{option_map_or}
use Rattle.getopts.specs.Names.{Text}
use Rattle.getopts_shell.specs.declared.item.TheConstants.{BRACKETS_AROUND_WHOLE}
use Rattle.getopts_shell.proofs.item.reason_of.Goals as goal

abbrev Reasons : Type 0
Reasons = List (Bool × Text)

-- the same condition, before the same reasons
same : (claim other : Bool) (reason : Text) (reasons others : Reasons) → claim ≡ other → reasons ≡ others
    → (claim, reason) ∷ reasons ≡ (other, reason) ∷ others
same claim other reason reasons others is rest = cc

pub returns : goal.returns
returns c =
    let value = c.as_bytes-item.ensures.value in
    let argument = rw value at c.cut_at.ensures.after in
    let names = rw value at c.names_in-names.ensures in
    let short = rw names at c.dashed.ensures.short in
    let long = rw names at c.dashed.ensures.long in
    c.first_reason.ensures
    ∙ ap (λ (reasons : Reasons). option_map_or (λ (reason : Bool × Text). reason.1)
    (find (λ (reason : Bool × Text). reason.0) reasons) BRACKETS_AROUND_WHOLE.now)
    (same _ _ _ _ _ (rw value at c.is_open.ensures)
    (same _ _ _ _ _ (rw (c.cut_at-2.ensures.after, value) at c.starts_with.ensures.value)
    (same _ _ _ _ _ (rw (c.cut_at-2.ensures.after, value) at c.ends_apart.ensures)
    (same _ _ _ _ _ (rw argument at c.stands_apart.ensures)
    (same _ _ _ _ _ (rw (c.cut_at-2.ensures.after, value) at c.contains.ensures.value)
    (same _ _ _ _ _ (rw argument at c.contains-2.ensures.value)
    (same _ _ _ _ _ (rw (names, value) at c.is_described.ensures)
    (same _ _ _ _ _ (rw names at c.begins_capital.ensures)
    (same _ _ _ _ _ (rw names at c.contains-3.ensures.value)
    (same _ _ _ _ _ (rw (c.without_first-2.ensures, c.without_first.ensures, names) at c.contains-4.ensures.value)
    (same _ _ _ _ _ (rw short at c.has_second_dashes.ensures)
    (same _ _ _ _ _ (rw short at c.ends_with.ensures.value)
    (same _ _ _ _ _ (rw names at c.contains-5.ensures.value)
    (same _ _ _ _ _ (rw (names, short) at c.lack_dash.ensures)
    (same _ _ _ _ _ (rw (names, long) at c.lack_two_dashes.ensures)
    (same _ _ _ _ _ (rw long at c.starts_with-2.ensures.value)
    (same _ _ _ _ _ (rw long at c.contains-6.ensures.value)
    (same _ _ _ _ _ (rw short at c.is_beyond_ascii.ensures)
    (same _ _ _ _ _ (ap (λ (text : Text). nat_lt 2 (length text)) short)
    (same _ _ _ _ _ (ap not (rw (c.without_first-3.ensures, short) at c.is_name.ensures))
    (same _ _ _ _ _ (rw long at c.is_too_short.ensures)
    (same _ _ _ _ _ (ap not (rw long at c.are_long_bytes.ensures))
    (same _ _ _ _ _ (ap not (rw long at c.ends_as_name.ensures))
    (same _ _ _ _ _ (rw value at c.ends_with-2.ensures.value)
    (same _ _ _ [] [] (rw value at c.ends_behind.ensures) refl)))))))))))))))))))))))))
