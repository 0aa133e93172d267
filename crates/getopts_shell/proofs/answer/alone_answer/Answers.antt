use Rattle.std.proofs.Common.{Some, ap, string_bytes, sym, ◌∙◌, rules}
use Rattle.std.specs.Option.{option_map}
use Rattle.getopts_shell.specs.Program.{done}
use Rattle.getopts_shell.specs.Stored.{asked_of, entries_of, entry_of_row}
use Rattle.getopts_shell.proofs.Asked.{asked_own}
use Rattle.getopts_shell.proofs.Chosen.{at_none, at_some}
use Rattle.getopts_shell.proofs.Written.{alone_holds_texts, alone_sets, sets_words}
use Rattle.getopts_shell.proofs.answer.alone_answer.Goals as goal

pub returns-in_ok-code-in-Some : goal.returns-in_ok-code-in-Some
returns-in_ok-code-in-Some c =
    let script = c.args.script in
    let asked = asked_of script.asked.now in
    let entries = entries_of script.table.now.rows.items in
    let entry = entry_of_row c.args.row in
    let prefix = ap (option_map string_bytes) c.in-Some.is ∙ ap Some (sym c.as_str.ensures.value) in
    at_some _ _ c.as_str.result.now prefix (record {
      sets = alone_sets c.as_str.result.now asked.arrays entries entry
          (asked_own asked c.as_str.result.now entries prefix script.no_fault);
      values = alone_holds_texts entries entry;
      free_values = tt;
      answer_is = c.done.ensures
          ∙ ap done (rw (
            c.variables-variables.ensures.0,
            c.variables-variables.ensures.1,
            c.deref.ensures.value,
          ) at c.in_ok-code-in-Some.ensures);
    })

pub returns-in_ok-alone_line-in-None : goal.returns-in_ok-alone_line-in-None
returns-in_ok-alone_line-in-None c = search (rules, at_none, string_bytes, sets_words)
