use Rattle.std.proofs.Common.{◌∙◌, ap, not, sym}
use Rattle.getopts_bytes.proofs.Chars.{ascii_no_marks}
use Rattle.getopts_bytes.proofs.has_marks.Goals as goal

pub returns-else-not-is_ascii : goal.returns-else-not-is_ascii
returns-else-not-is_ascii c =
    ap not c.if-not-is_ascii.false ∙ sym (ascii_no_marks c.args.text.now c.if-not-is_ascii.ensures.cases)
