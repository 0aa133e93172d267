use Rattle.std.proofs.Common.{ap, refl, sym, ◌∙◌}
use Rattle.std.specs.Option.{option_map}
use Rattle.getopts_shell.specs.Stored.{variable_fault_told}
use Rattle.getopts_shell.proofs.Assignments.{fault_from}
use Rattle.getopts_shell.proofs.variables.variable_error.Goals as goal

pub returns-then-not-is_prefix : goal.returns-then-not-is_prefix
returns-then-not-is_prefix c = let begins = sym c.is_prefix.ensures ∙ c.if-not-is_prefix.true in rw begins refl

pub returns-in-Some : goal.returns-in-Some
returns-in-Some c =
    let begins = sym c.is_prefix.ensures ∙ c.if-not-is_prefix.false in
    let own = sym c.row_error.ensures ∙ ap (option_map variable_fault_told) c.in-Some.is in
    rw (
      begins,
      c.loop-place.invariant,
      fault_from c.args.prefix.now c.args.rows.now
          c.loop-place.place c.index-rows-place.result c.loop-place-test.true c.index-rows-place.is,
      own,
    )
    refl

pub loop-place-preserved : goal.loop-place-preserved
loop-place-preserved c =
    let own = sym c.in_default.ensures in
    c.loop-place.invariant ∙ fault_from c.args.prefix.now c.args.rows.now
    c.loop-place.place c.index-rows-place.result c.loop-place-test.true c.index-rows-place.is
    ∙ rw own refl
