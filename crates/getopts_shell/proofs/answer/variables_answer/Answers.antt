use Rattle.std.proofs.Common.{ap, ◌∙◌}
use Rattle.getopts_shell.specs.Program.{done}
use Rattle.getopts_shell.specs.Stored.{asked_of, entries_of}
use Rattle.getopts_shell.proofs.Asked.{asked_sets}
use Rattle.getopts_shell.proofs.answer.variables_answer.Goals as goal

pub returns : goal.returns
returns c =
    let script = c.args.script in
    let matches = c.args.matches.now in
    record {
      sets = asked_sets (asked_of script.asked.now) c.args.prefix.now
          (entries_of script.table.now.rows.items) matches.groups matches.free c.requires script.no_fault;
      values = rw c.deref.ensures.value at c.in_ok-code.ensures.values;
      free_values = c.in_ok-code.ensures.free;
      answer_is = c.done.ensures
          ∙ ap done (rw (
            c.variables-variables.ensures.0,
            c.variables-variables.ensures.1,
            c.deref.ensures.value,
          ) at c.in_ok-code.ensures.text);
    }
