-- Declared options have valid names, which are texts, so the laws hold.
use Rattle.getopts.proofs.MainTheorem.SameContent.{OneContentHoldsSame_lem}
use Rattle.getopts.proofs.parse.Parsed.{keeps_laws}
use Rattle.getopts.proofs.MainTheorem.Theorem.{OneReading-options, AcceptedExactlyWhen-options}
use Rattle.getopts.proofs.MainTheorem.Theorem.{RefusedExactlyWhen-options}
use Rattle.getopts.proofs.canon.OneResult.{KeepsLineLaws-lawful}
use Rattle.getopts.proofs.canon.Lines.{OneLineOneContent-lawful}
use Rattle.getopts.proofs.laws.declared_options_keep_laws.Goals as goal

pub returns : goal.returns
returns c = record {
  reading_laws = λ options may. keeps_laws options may;
  line_laws = λ options may. KeepsLineLaws-lawful options may;
  holds_same = λ options may. OneContentHoldsSame_lem options
      (AcceptedExactlyWhen-options options may);
  one_reading = λ options may. OneReading-options options may;
  accepted = λ options may. AcceptedExactlyWhen-options options may;
  refused = λ options may. RefusedExactlyWhen-options options may;
  one_line_one_content = λ options may. OneLineOneContent-lawful options may.named;
}
