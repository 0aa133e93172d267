use Rattle.std.proofs.Common.{map, string_bytes}
use Rattle.getopts_shell.proofs.Fronts.{shows_front}
use Rattle.getopts_shell.proofs.OneAnswer.{output_by}
use Rattle.getopts_shell.proofs.answer.answer.Goals as goal

pub returns-in-Ok-write_output-clause-status : goal.returns-in-Ok-write_output-clause-status
returns-in-Ok-write_output-clause-status g c =
    (output_by (map string_bytes c.args.words.now) _ _ c.in-Ok.ensures).known

pub returns-in-Ok-write_output-clause-nothing_written :
    goal.returns-in-Ok-write_output-clause-nothing_written
returns-in-Ok-write_output-clause-nothing_written g c = λ none.
    absurd ((output_by (map string_bytes c.args.words.now) _ _ c.in-Ok.ensures).memory none)

pub returns-in-Ok-write_output-clause-cut : goal.returns-in-Ok-write_output-clause-cut
returns-in-Ok-write_output-clause-cut g c = λ cut.
    absurd ((output_by (map string_bytes c.args.words.now) _ _ c.in-Ok.ensures).written cut)

pub returns-in-Ok-clause-cut : goal.returns-in-Ok-clause-cut
returns-in-Ok-clause-cut g c = λ _.
    shows_front _ _ _ _ _ (map string_bytes c.args.words.now) _ c.in-Ok.output.status c.in-Ok.ensures
    (λ is. (
      c.write_output.ensures.out_front is,
      rw (c.write_output.ensures.out_only is) at c.report_failure.ensures,
    ))
    (λ other. (c.write_output.ensures.err_front other, c.write_output.ensures.err_only other))
    c.report_failure.ensures
