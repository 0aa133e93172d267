use Rattle.std.proofs.Common.{ap, refl, sym, ◌∙◌}
use Rattle.getopts.specs.Names.{texts}
use Rattle.getopts_shell.proofs.AtEnd.{groups_before_option-found, groups_found}
use Rattle.getopts_shell.proofs.complete.matches_before_option.Goals as goal

pub returns-then-is_last_after_stop : goal.returns-then-is_last_after_stop
returns-then-is_last_after_stop c =
    sym (ap groups_found c.in-Some.is
    ∙ rw (← c.is_last_after_stop.ensures, c.if-is_last_after_stop.true) refl)
    ∙ groups_before_option-found c.args.options.now c.names_resolve.ensures.declared _ _
    (ap texts c.deref.ensures.value ∙ c.in_ok-words.ensures) _ c.in_ok-found.ensures

pub returns-in-Some : goal.returns-in-Some
returns-in-Some c =
    sym (ap groups_found c.in-Some.is
    ∙ rw (← c.is_last_after_stop.ensures, c.if-is_last_after_stop.false) refl)
    ∙ groups_before_option-found c.args.options.now c.names_resolve.ensures.declared _ _
    (ap texts c.deref.ensures.value ∙ c.in_ok-words.ensures) _ c.in_ok-found.ensures

pub returns : goal.returns
returns c =
    sym (ap groups_found c.in-None.is)
    ∙ groups_before_option-found c.args.options.now c.names_resolve.ensures.declared _ _
    (ap texts c.deref.ensures.value ∙ c.in_ok-words.ensures) _ c.in_ok-found.ensures
