use Rattle.std.proofs.Common.{◌≡◌, get_or, arith, rules}
use Rattle.std.proofs.lemmas.Str.{IsCharBoundary-after_ascii}
use Rattle.getopts_shell.proofs.Items.{only_both, Between, between_names, written_both, by_names}
use Rattle.getopts_shell.proofs.item.names_of.Goals as goal
use Rattle.getopts_shell.proofs.item.names_of.Goals.{then-bytes-lt6-via-then-bytes-lt6}
use Rattle.getopts_shell.proofs.item.names_of.Goals.{then-bytes-lt6-via-else-bytes-lt6+then-bytes-ne124}
use Rattle.getopts_shell.proofs.item.names_of.Goals.{then-bytes-lt6-via-else-bytes-lt6+else-bytes-ne124+then-bytes-ne45-2}
use Rattle.getopts_shell.proofs.item.names_of.Goals.{then-bytes-lt6-via-else-bytes-lt6+else-bytes-ne124+else-bytes-ne45-2+then-bytes-ne45-3}
use Rattle.std.proofs.lemmas.Grind.{common_steps}

pub range_from-requires : goal.range_from-requires
range_from-requires c =
    let dash : get_or c.args.text.now 1 0 ≡ 45 =
    rw c.as_bytes-bytes.ensures.value at c.if-bytes-eq45.true in
    λ _. IsCharBoundary-after_ascii c.args.text.now 1 c.utf8.text
    (omega (arith, c.as_bytes-bytes.ensures.len))
    (omega (arith, dash))

pub range_from-requires-then-bytes-eq2 : goal.range_from-requires-then-bytes-eq2
range_from-requires-then-bytes-eq2 c =
    let dash : get_or c.args.text.now 0 0 ≡ 45 =
    rw c.as_bytes-bytes.ensures.value at c.if-bytes-ne45.false in
    λ _. IsCharBoundary-after_ascii c.args.text.now 0 c.utf8.text
    (omega (arith, c.as_bytes-bytes.ensures.len))
    (omega (arith, dash))

pub returns-then-bytes-lt6 : goal.returns-then-bytes-lt6
returns-then-bytes-lt6 c =
    search (
      rules,
      between_names,
      then-bytes-lt6-via-then-bytes-lt6,
      then-bytes-lt6-via-else-bytes-lt6+then-bytes-ne124,
      then-bytes-lt6-via-else-bytes-lt6+else-bytes-ne124+then-bytes-ne45-2,
      then-bytes-lt6-via-else-bytes-lt6+else-bytes-ne124+else-bytes-ne45-2+then-bytes-ne45-3,
    )

pub range-requires-clause-start_boundary : goal.range-requires-clause-start_boundary
range-requires-clause-start_boundary c =
    let dash : get_or c.args.text.now 0 0 ≡ 45 =
    rw c.as_bytes-bytes.ensures.value at c.if-bytes-ne45.false in
    λ _. IsCharBoundary-after_ascii c.args.text.now 0 c.utf8.text
    (omega (arith, c.as_bytes-bytes.ensures.len))
    (omega (arith, dash))

pub range_from-requires-2 : goal.range_from-requires-2
range_from-requires-2 c = grind (arith, common_steps, IsCharBoundary-after_ascii)

pub returns : goal.returns
returns c = search (rules, Between, by_names, written_both, only_both)
