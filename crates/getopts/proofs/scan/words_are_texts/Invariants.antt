-- The words so far are texts.
use Rattle.std.proofs.Common.{map, take}
use Rattle.std.specs.List.{AllByRecursion}
use Rattle.std.specs.Str.{IsUtf8}
use Rattle.getopts.proofs.scan.words_are_texts.Given as goal

abbrev pub invariant-loop-word : goal.invariant-loop-word
invariant-loop-word g l = AllByRecursion IsUtf8 (map g.S.AsStr.text (take l.word-index l.words))
