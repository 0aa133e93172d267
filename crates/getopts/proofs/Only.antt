-- The only value with a property, and what is made of it.
use Rattle.std.proofs.Common.{◌≡◌, refl, sym, subst, List, [], ◌∷◌, map, rules, arith}
use Rattle.std.specs.List.{AllZip}
use Rattle.getopts.specs.Only.{IsTheOnly}
use Rattle.std.proofs.lemmas.Grind.{common_steps}
use Rattle.std.proofs.lemmas.Bool.Decides.{nat_tests}

-- a value that has a property and equals every value that has it
pub IsTheOnly-from : {X : Type 0} (Fact : X → Type 0) (value : X) → Fact value
    → ((other : X) → Fact other → other ≡ value) → IsTheOnly Fact value
IsTheOnly-from Fact value is only other = (only other, λ same. subst Fact (sym same) is)

-- the only value with a property has it
pub meets : {X : Type 0} (Fact : X → Type 0) (value : X) → IsTheOnly Fact value → Fact value
meets Fact value only = (only value).1 refl

-- a function of the only value has the only result
pub made_of_the_only : {X Y : Type 0} (P : X → Type 0) (make : X → Y) (x : X) (y : Y)
    → IsTheOnly P x → y ≡ make x → IsTheOnly (λ (other : Y). (z : X) × P z × (other ≡ make z)) y
made_of_the_only {X} P make x y only made = search rules

-- a list of unique elements is unique
pub each_is_the_only : {X Y : Type 0} (R : X → Y → Type 0) (xs : List X) (ys : List Y)
    → AllZip (λ x y. IsTheOnly (R x) y) xs ys → IsTheOnly (AllZip R xs) ys
each_is_the_only R [] [] all = grind (arith, common_steps, nat_tests)
each_is_the_only R [] (y ∷ ys) all = absurd all
each_is_the_only R (x ∷ xs) [] all = absurd all
each_is_the_only {X} {Y} R (x ∷ xs) (y ∷ ys) all =
    search (rules, each_is_the_only R xs ys all.1, each_is_the_only R xs ys all.1 ys)

-- the only results of a function, for each element
pub map_is_the_only : {X Y : Type 0} (R : X → Y → Type 0) (f : X → Y)
    → ((x : X) → IsTheOnly (R x) (f x)) → (xs : List X) → IsTheOnly (AllZip R xs) (map f xs)
map_is_the_only {X} R f only xs = each_is_the_only R xs (map f xs) (each xs) where
  each : (xs : List X) → AllZip (λ x y. IsTheOnly (R x) y) xs (map f xs)
  each [] = tt
  each (x ∷ xs) = (only x, each xs)
