-- The words are those of the iterator so far.
use Rattle.std.proofs.Common.{◌≡◌}
use Rattle.getopts.proofs.parse.words_from.Given as goal

abbrev pub invariant-loop-word : goal.invariant-loop-word
invariant-loop-word g l = l.words.items ≡ l.yielded
