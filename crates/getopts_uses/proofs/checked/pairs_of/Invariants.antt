use Rattle.std.proofs.Common.{◌≡◌, map, take, drop, Some}
use Rattle.std.specs.String.{string_bytes}
use Rattle.getopts_uses.specs.Checked.{cut, first_uncut, pair_view}
use Rattle.getopts_uses.proofs.checked.pairs_of.Given as goal

-- The pairs so far are the pairs of the texts so far, so the first text that isn't a pair is among
-- the rest.
abbrev pub invariant-loop-text : goal.invariant-loop-text
invariant-loop-text l =
    (map cut (map string_bytes (take l.text-index l.texts)) ≡ map (λ pair. Some (pair_view pair)) l.pairs.items)
    × (first_uncut (map string_bytes (drop l.text-index l.texts)) ≡ first_uncut (map string_bytes l.texts))
