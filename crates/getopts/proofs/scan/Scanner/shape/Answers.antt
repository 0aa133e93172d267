-- Dashes are characters of one byte.
use Rattle.std.proofs.Common.{rules}
use Rattle.std.proofs.lemmas.Str.{IsCharBoundary-after_ascii}
use Rattle.getopts.proofs.scan.Scanner.shape.Goals as goal

pub range_from-requires : goal.range_from-requires
range_from-requires c = λ _. IsCharBoundary-after_ascii c.args.word.now 1 c.utf8.word (search rules) (search rules)

pub range_from-requires-in-45-3 : goal.range_from-requires-in-45-3
range_from-requires-in-45-3 c = λ _. IsCharBoundary-after_ascii c.args.word.now 0 c.utf8.word (search rules) (search rules)

pub range_from-requires-in-45-4 : goal.range_from-requires-in-45-4
range_from-requires-in-45-4 c = λ _. IsCharBoundary-after_ascii c.args.word.now 0 c.utf8.word (search rules) (search rules)
