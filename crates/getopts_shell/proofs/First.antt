-- The first element that passes a test.
use Rattle.std.proofs.Common.{◌≡◌, ℕ, ◌<◌, ◌+◌, Bool, cond, List, Some, map, length, drop, get_or, arith}
use Rattle.std.specs.List.{find}
use Rattle.std.proofs.lemmas.Grind.{common_steps}

-- what is found from an element on
pub found_from : {X Y : Type 0} (of : X → Y) (p : Y → Bool) (xs : List X) (at : ℕ) (x d : X) (test : Bool)
    → at < length xs → x ≡ get_or xs at d → p (of x) ≡ test
    → find p (map of (drop at xs)) ≡ cond test (Some (of x)) (find p (map of (drop (at + 1) xs)))
found_from {X} of p xs at x d test below x_is is = grind (arith, common_steps)
