-- Words on lists that rules and laws are told in. Assumes nothing.
use Rattle.std.specs.Prelude.{◌≡◌, ℕ, ◌+◌, Bool, true, ◌&&◌, ◌⊎◌, List, [], ◌∷◌}

-- x is one of the list
abbrev pub In : {X : Type 0} → X → List X → Type 0
In x [] = ⊥
In x (y ∷ ys) = (x ≡ y) ⊎ In x ys

-- x stands before y in the list
abbrev pub Earlier : {X : Type 0} → X → X → List X → Type 0
Earlier x y [] = ⊥
Earlier x y (z ∷ zs) = ((x ≡ z) × In y zs) ⊎ Earlier x y zs

-- what the list adds up to
abbrev pub total : {X : Type 0} → (X → ℕ) → List X → ℕ
total f [] = 0
total f (x ∷ xs) = f x + total f xs

-- each of the list passes the test
abbrev pub each : {X : Type 0} → (X → Bool) → List X → Bool
each t [] = true
each t (x ∷ xs) = t x && each t xs
