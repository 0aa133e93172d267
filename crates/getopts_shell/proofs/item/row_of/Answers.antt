use Rattle.std.proofs.Common.{sym, ◌∙◌}
use Rattle.getopts_shell.proofs.Items.{no_names_none, no_argument_none, no_fit_none}
use Rattle.getopts_shell.proofs.item.row_of.Goals as goal

pub returns-in_err-short-clause-option : goal.returns-in_err-short-clause-option
returns-in_err-short-clause-option c =
    rw c.from_residual-in_err-short.ensures
    (no_names_none c.args.item.now c.in_ok-inside.inside.now _ c.in_ok-inside.frequency _
    c.in_ok-inside.ensures c.parts_of.ensures c.in_err-short.ensures)

pub returns-in_err-kind-clause-option : goal.returns-in_err-kind-clause-option
returns-in_err-kind-clause-option c =
    rw c.from_residual-in_err-kind.ensures
    (no_argument_none c.args.item.now c.in_ok-inside.inside.now _ c.in_ok-inside.frequency _
    c.in_ok-inside.ensures c.parts_of.ensures c.in_err-kind.ensures)

pub returns-then-not-fits-clause-option : goal.returns-then-not-fits-clause-option
returns-then-not-fits-clause-option c =
    no_fit_none c.args.item.now c.in_ok-inside.inside.now _ c.in_ok-inside.frequency _ _ _
    c.in_ok-inside.ensures c.parts_of.ensures c.in_ok-kind.ensures
    (sym c.fits.ensures ∙ c.if-not-fits.true)
