-- A volume of 0 that is taken down a list takes nothing. Assumes nothing.
use Rattle.std.proofs.Common.{◌≡◌, ℕ, ◌-◌, min, List, [], ◌∷◌, ◌++◌, take, drop, refl, ap, ◌∙◌, ap₂, arith}
use Rattle.std.proofs.lemmas.List.{take-append-drop}
use Rattle.ranking.specs.Walks.{walked}

module _ {X : Type 0} (left : X → ℕ) (lowered : X → ℕ → X) (by_nothing : (x : X) → lowered x 0 ≡ x) where
  walk_none : (v : ℕ) (xs : List X) → v ≡ 0 → walked left lowered v xs ≡ xs
  walk_none v [] e = refl
  walk_none v (x ∷ xs) e =
      let none : min v (left x) ≡ 0 = omega arith in
      ap₂ ◌∷◌ (ap (lowered x) none ∙ by_nothing x) (walk_none (v - left x) xs (omega arith))

  pub walk_used : (s : List X) (i v : ℕ) → v ≡ 0 → take i s ++ walked left lowered v (drop i s) ≡ s
  walk_used s i v e = ap (λ l. take i s ++ l) (walk_none v (drop i s) e) ∙ take-append-drop i s
