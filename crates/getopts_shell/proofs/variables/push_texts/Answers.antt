use Rattle.std.proofs.Common.{arith}
use Rattle.std.proofs.lemmas.Grind.{common_steps}
use Rattle.std.proofs.lemmas.List.{take_more}
use Rattle.std.proofs.Permutation.{every_append}
use Rattle.getopts_shell.proofs.Assignments.{length_texts, quoted_words_more}
use Rattle.getopts_shell.proofs.variables.push_texts.Goals as goal

pub loop-nth-preserved : goal.loop-nth-preserved
loop-nth-preserved c = grind (arith, common_steps, length_texts, quoted_words_more, take_more, every_append)
