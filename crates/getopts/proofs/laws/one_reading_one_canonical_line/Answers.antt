-- The invariant of options makes their names valid, so the laws hold.
use Rattle.getopts.proofs.MainTheorem.SameContent.{OneContentHoldsSame_lem, LinesReadAgain_lem}
use Rattle.getopts.proofs.MainTheorem.Results.{HasResults-declared}
use Rattle.getopts.proofs.canon.Lines.{IsSound-says, HasCanonicalLine-says, OneLineOneContent-lawful}
use Rattle.getopts.proofs.parse.Parsed.{keeps_laws, text_names_here}
use Rattle.getopts.proofs.MainTheorem.Theorem.{OneReading-options, AcceptedExactlyWhen-options}
use Rattle.getopts.proofs.MainTheorem.Theorem.{RefusedExactlyWhen-options}
use Rattle.getopts.proofs.canon.OneResult.{KeepsLineLaws-lawful}
use Rattle.getopts.proofs.laws.one_reading_one_canonical_line.Goals as goal
use Rattle.std.proofs.Common.{rules}

pub returns : goal.returns
returns c =
    search (
      rules,
      OneContentHoldsSame_lem,
      AcceptedExactlyWhen-options,
      KeepsLineLaws-lawful,
      OneReading-options,
      RefusedExactlyWhen-options,
      HasResults-declared,
      OneLineOneContent-lawful,
      HasCanonicalLine-says,
      text_names_here,
      LinesReadAgain_lem,
      keeps_laws,
      IsSound-says,
    )
