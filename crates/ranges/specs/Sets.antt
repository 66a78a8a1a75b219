-- What a range set means. Assumes nothing.
use Rattle.std.specs.Prelude.{ℕ, ◌+◌, ◌-◌, ◌≤◌, Bool, Decides}

-- a set of prices, by the test whether a price is in it
abbrev pub Prices : Type 0
Prices = ℕ → Bool

-- Four sets of prices belong to each anchor. The static range is asked for the last auction price, the dynamic range for the reference
-- price; each has an extended form, for a call that was extended.
pub record Ranges : Type 0 where
  pub static : ℕ → Prices
  pub dynamic : ℕ → Prices
  pub extended_static : ℕ → Prices
  pub extended_dynamic : ℕ → Prices

-- how far two prices are apart, whichever is higher: the other difference is 0
abbrev pub distance : ℕ → ℕ → ℕ
distance p q = (p - q) + (q - p)

-- a range that holds the prices from so far below its anchor to so far above it, and no others
abbrev pub Reaches : (ℕ → Prices) → (ℕ → ℕ) → Type 0
Reaches range reach = (anchor price : ℕ) → Decides (range anchor price) ((anchor ≤ price + reach anchor) × (price ≤ anchor + reach anchor))
