use Rattle.std.proofs.Common.{rules, ◌≡◌, sym}
use Rattle.getopts_bytes.specs.Marks.{bytes_of}
use Rattle.getopts_bytes.proofs.Chars.{plain_bytes}
use Rattle.getopts_bytes.proofs.push_bytes.Goals as goal

pub returns-else-has_marks : goal.returns-else-has_marks
returns-else-has_marks c =
    let same : bytes_of c.args.text.now ≡ c.args.text.now =
    plain_bytes c.args.text.now (record { utf8 = c.utf8.text; unmarked = sym c.if-has_marks.ensures }) in
    record { added = rw (same, ← c.as_bytes.ensures.value) (search rules) }
