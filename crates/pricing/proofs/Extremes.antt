-- The highest and the lowest of some prices are among them. Assumes nothing.
use Rattle.std.proofs.Common.{◌≡◌, ℕ, ◌≤◌, min, max, ◌⊎◌, List, [], ◌∷◌, refl, ◌∙◌, inl, inr, ⊎_elim, arith}
use Rattle.std.proofs.lemmas.Bool.{cases_lt}
use Rattle.ranking.specs.Lists.{In}
use Rattle.pricing.specs.Price.{highest_with, lowest_with}

max_is : (p q : ℕ) → (max p q ≡ p) ⊎ (max p q ≡ q)
max_is p q = ⊎_elim (λ h. inr (omega arith)) (λ h. inl (omega arith)) (cases_lt p q)

min_is : (p q : ℕ) → (min p q ≡ p) ⊎ (min p q ≡ q)
min_is p q = ⊎_elim (λ h. inl (omega arith)) (λ h. inr (omega arith)) (cases_lt p q)

merged : (x p q r : ℕ) (qs : List ℕ) → (r ≡ p) ⊎ (r ≡ q) → In x (r ∷ qs) → In x (p ∷ q ∷ qs)
merged x p q r qs (inl e) (inl k) = inl (k ∙ e)
merged x p q r qs (inr e) (inl k) = inr (inl (k ∙ e))
merged x p q r qs e (inr m) = inr (inr m)

pub highest_in : (p : ℕ) (ps : List ℕ) → In (highest_with p ps) (p ∷ ps)
highest_in p [] = inl refl
highest_in p (q ∷ qs) = merged _ p q (max p q) qs (max_is p q) (highest_in (max p q) qs)

pub lowest_in : (p : ℕ) (ps : List ℕ) → In (lowest_with p ps) (p ∷ ps)
lowest_in p [] = inl refl
lowest_in p (q ∷ qs) = merged _ p q (min p q) qs (min_is p q) (lowest_in (min p q) qs)

pub highest_over : (p : ℕ) (ps : List ℕ) → p ≤ highest_with p ps
highest_over p [] = omega arith
highest_over p (q ∷ qs) = omega (arith, highest_over (max p q) qs)

pub lowest_under : (p : ℕ) (ps : List ℕ) → lowest_with p ps ≤ p
lowest_under p [] = omega arith
lowest_under p (q ∷ qs) = omega (arith, lowest_under (min p q) qs)
