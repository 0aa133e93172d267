use Rattle.std.proofs.Common.{map, string_bytes, ap, subst, ◌∙◌}
use Rattle.std.proofs.lemmas.Result.{IfOk-weaker}
use Rattle.getopts_shell.specs.Program.{AnswersDeclared, declared, faulty, misused}
use Rattle.getopts_shell.specs.Stored.{answer_of, asked_of, entries_of}
use Rattle.getopts_shell.proofs.answer.table_answer.Goals as goal

pub returns-in-Ok : goal.returns-in-Ok
returns-in-Ok c =
    IfOk-weaker c.declared_answer.result _ _
    (λ outcome is. declared (entries_of c.in-Ok.declared.rows.items) c.in-Ok.ensures.0
    (subst (λ operands. AnswersDeclared (record {
      asked = asked_of c.args.asked.now;
      name = c.args.name.now;
      entries = entries_of c.in-Ok.declared.rows.items;
      operands = operands;
    }) c.args.table.now (map string_bytes c.args.words.now) (answer_of outcome))
    c.in-Ok.ensures.1 is))
    c.declared_answer.ensures

pub returns-in_ok-table_refusal-in-Err : goal.returns-in_ok-table_refusal-in-Err
returns-in_ok-table_refusal-in-Err c =
    let said = c.in_ok-table_refusal-in-Err.ensures in
    IfOk-weaker c.misused.result _ _
    (λ outcome is. faulty said.0 (rw said.1 at c.in-Err.ensures) (is ∙ ap misused said.2))
    c.misused.ensures
