-- Words are equal if their bytes are.
use Rattle.std.proofs.Common.{◌==◌}
use Rattle.std.specs.Cmp.Derive.Mapped.{pointwise-map}
use Rattle.std.specs.Cmp.Lexicographic.{pointwise}
use Rattle.std.specs.String.{string_bytes}
use Rattle.getopts.proofs.matches.same_words.Goals as goal

pub returns : goal.returns
returns c = rw (pointwise-map string_bytes (pointwise ◌==◌) c.args.words.now c.args.others.now)
    c.eq.ensures
