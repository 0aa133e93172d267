use Rattle.std.proofs.Common.{◌∙◌, ap, sym, refl}
use Rattle.std.specs.Option.{option_map}
use Rattle.getopts_shell.specs.Stored.{entry_of_row}
use Rattle.getopts_shell.proofs.Assignments.{found_variable}
use Rattle.getopts_shell.proofs.variables.row_error.Goals as goal

pub returns-then-not-makes_variable : goal.returns-then-not-makes_variable
returns-then-not-makes_variable c =
    let made = rw c.main_name-name.ensures
    at (sym c.makes_variable.ensures ∙ c.if-not-makes_variable.true) in
    rw (c.main_name-name.ensures, made) refl

pub returns-in-Some : goal.returns-in-Some
returns-in-Some c =
    let made = rw c.main_name-name.ensures
    at (sym c.makes_variable.ensures ∙ c.if-not-makes_variable.false) in
    let again = found_variable c.args.prefix.now c.args.before.now (entry_of_row c.args.row)
    ∙ rw c.main_name-name.ensures at (sym c.row_with_variable.ensures)
    ∙ ap (option_map entry_of_row) c.in-Some.is in
    let own = rw c.main_name-name.ensures
    at (sym c.is_shell_variable.ensures ∙ c.if-is_shell_variable.false) in
    rw (c.main_name-name.ensures, c.main_name.ensures, made, own, again) refl

pub returns-in-None : goal.returns-in-None
returns-in-None c =
    let made = rw c.main_name-name.ensures
    at (sym c.makes_variable.ensures ∙ c.if-not-makes_variable.false) in
    let again = found_variable c.args.prefix.now c.args.before.now (entry_of_row c.args.row)
    ∙ rw c.main_name-name.ensures at (sym c.row_with_variable.ensures)
    ∙ ap (option_map entry_of_row) c.in-None.is in
    let own = rw c.main_name-name.ensures
    at (sym c.is_shell_variable.ensures ∙ c.if-is_shell_variable.false) in
    rw (made, own, again) refl
