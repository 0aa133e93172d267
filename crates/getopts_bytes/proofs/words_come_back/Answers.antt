use Rattle.std.proofs.Common.{length, arith}
use Rattle.getopts_bytes.proofs.Texts.{comes_back}
use Rattle.getopts_bytes.proofs.words_come_back.Goals as goal

pub returns : goal.returns
returns c = record { same = λ word bytes. comes_back (length word) word (omega arith) bytes }
