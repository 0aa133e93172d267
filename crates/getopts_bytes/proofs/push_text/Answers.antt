use Rattle.std.proofs.Common.{rules, ◌≡◌, sym}
use Rattle.getopts_bytes.specs.Marks.{text_of}
use Rattle.getopts_bytes.proofs.Chars.{plain}
use Rattle.getopts_bytes.proofs.Texts.{plain_stays}
use Rattle.getopts_bytes.proofs.push_text.Goals as goal

pub returns-in-Some : goal.returns-in-Some
returns-in-Some c =
    let same : text_of c.args.word.now ≡ c.args.word.now =
    plain_stays c.args.word.now (plain c.args.word.now (sym c.in-Some.ensures.plain)) in
    record { added = rw (same, ← c.in-Some.ensures.same) (search rules) }
