use Rattle.std.proofs.Common.{append-nil, take, ◌∙◌, rules}
use Rattle.std.proofs.lemmas.List.Concat.{flat_map-append}
use Rattle.std.proofs.Permutation.{every_append}
use Rattle.getopts_shell.specs.Stored.{entries_of}
use Rattle.getopts_shell.specs.Variables.{AreTextValues, Given, given_from, holds_all}
use Rattle.getopts_shell.proofs.Assignments.{given_more}
use Rattle.getopts_shell.proofs.Written.{strings_are_texts}
use Rattle.getopts_shell.proofs.variables.variables_code.Goals as goal

pub loop-place-preserved : goal.loop-place-preserved
loop-place-preserved c =
    let rows = c.args.rows.now in
    let held = c.args.matches.now.groups in
    let place = c.loop-place.place in
    let more =
    given_more place rows held c.index-rows-place.result c.occurrences_at.result
    c.loop-place-test.true
    c.index-rows-place.is c.occurrences_at.ensures.occurrences in
    let texts = λ (option : Given). AreTextValues option.entry.kind
    (holds_all option.entry.frequency) option.occurrences in (
      c.in_ok-push_option.ensures.text
          ∙ simp (c.loop-place.invariant.0, more, flat_map-append, append-nil),
      rw more (every_append texts (given_from 0 (entries_of (take place rows)) held) _
          c.loop-place.invariant.1 (c.in_ok-push_option.ensures.values, tt)),
    )

pub returns-clause-free : goal.returns-clause-free
returns-clause-free c = search (rules, strings_are_texts)
