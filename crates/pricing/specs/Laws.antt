-- The law of the auction price, in the words of the subject: it holds of every book and every reference price. Assumes nothing.
use Rattle.std.specs.Prelude.{◌≡◌, ℕ, ◌≤◌, ◌⊎◌, Some, None, Option, unsigned_abs}
use Rattle.ranking.specs.Lists.{In}
use Rattle.pricing.specs.Sides.{Sides, volume, surplus, limits}

-- a price between two limit prices of the book
pub record Between (s : Sides) (p : ℕ) : Type 0 where
  pub low : ℕ
  pub high : ℕ
  pub low_stands : In low (limits s)
  pub high_stands : In high (limits s)
  pub above : low ≤ p
  pub below : p ≤ high

-- a limit price of the book, or the reference between two such, or the reference where no limit stands
abbrev pub Placed : Sides → ℕ → ℕ → Type 0
Placed s reference p = In p (limits s) ⊎ ((Between s p × (p ≡ reference)) ⊎ (((l : ℕ) → In l (limits s) → ⊥) × (p ≡ reference)))

-- a price that was found
pub record Found (s : Sides) (reference p : ℕ) : Type 0 where
  -- executes at least as many shares as every limit price of the book, and indeed as every price
  pub executes_most : (l : ℕ) → In l (limits s) → volume s l ≤ volume s p
  pub most_of_all : (q : ℕ) → volume s q ≤ volume s p
  -- of the limit prices that execute as many, none leaves a surplus nearer 0
  pub least_surplus : (l : ℕ) → In l (limits s) → volume s l ≡ volume s p → unsigned_abs (surplus s p) ≤ unsigned_abs (surplus s l)
  -- and stands where a price may stand
  pub placed : Placed s reference p

-- where none is found, no price at all executes a share
abbrev pub LawOfPrice : Sides → ℕ → Option ℕ → Type 0
LawOfPrice s reference None = (q : ℕ) → volume s q ≡ 0
LawOfPrice s reference (Some p) = Found s reference p
