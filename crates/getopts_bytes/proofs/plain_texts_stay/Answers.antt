use Rattle.getopts_bytes.proofs.Chars.{plain, plain_bytes}
use Rattle.getopts_bytes.proofs.Texts.{plain_stays}
use Rattle.getopts_bytes.proofs.plain_texts_stay.Goals as goal

pub returns : goal.returns
returns c = record {
  unchanged = λ text is. record {
    as_text = plain_stays text (plain text is);
    as_bytes = plain_bytes text (plain text is);
  };
}
