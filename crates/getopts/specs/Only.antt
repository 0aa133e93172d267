-- Uniqueness of values.
use Rattle.std.specs.Prelude.{◌≡◌, ◌↔◌}

-- This value has the property, and no other value has it.
abbrev pub IsTheOnly : {X : Type 0} → (X → Type 0) → X → Type 0
IsTheOnly {X} Fact value = (other : X) → Fact other ↔ (other ≡ value)

-- At most one value has the property.
abbrev pub AtMostOne : {X : Type 0} → (X → Type 0) → Type 0
AtMostOne {X} Fact = (value other : X) → Fact value → Fact other → value ≡ other
