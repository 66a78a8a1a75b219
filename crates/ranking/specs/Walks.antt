-- What a walk down a list takes. Assumes nothing.
use Rattle.std.specs.Prelude.{ℕ, ◌-◌, min, List, [], ◌∷◌}

module _ {X : Type 0} (left : X → ℕ) (lowered : X → ℕ → X) where
  -- a volume taken down the list: from each what it holds, until the volume is used
  abbrev pub walked : ℕ → List X → List X
  walked v [] = []
  walked v (x ∷ xs) = lowered x (min v (left x)) ∷ walked (v - left x) xs
