-- The options so far are counted: with the remaining options, each count is complete.
use Rattle.std.proofs.Common.{◌≡◌, ◌<◌, ◌+◌, ℕ, drop, get_or, length, map}
use Rattle.getopts.specs.Accessors.{borrowed_given}
use Rattle.getopts.specs.Stored.Index.{count_given}
use Rattle.getopts.proofs.counts.count_options.Given as goal

abbrev pub invariant-loop-given : goal.invariant-loop-given
invariant-loop-given l = (length l.counts ≡ length l.initial.counts)
    × ((place : ℕ) → place < length l.counts
    → get_or l.counts place 0 + count_given (map borrowed_given (drop l.given-index l.order)) place
    ≡ count_given (map borrowed_given l.order) place)
