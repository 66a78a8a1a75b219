-- What is replied of an auction: the price, what it executes, and the surplus there. Assumes nothing.
use Rattle.std.specs.Prelude.{ℕ, pos, Some, None, Option}
use Rattle.pricing.specs.declared.outcomes.Outcome.{Outcome}
use Rattle.pricing.specs.Sides.{Sides, volume, surplus}
use Rattle.pricing.specs.Price.{auction_price}

-- volume and surplus are 0 where there is no price
abbrev pub outcome_at : Sides → Option ℕ → Outcome
outcome_at s None = record { price = None; volume = 0; surplus = pos 0 }
outcome_at s (Some p) = record { price = Some p; volume = volume s p; surplus = surplus s p }

abbrev pub outcome_of : Sides → ℕ → Outcome
outcome_of s reference = outcome_at s (auction_price s reference)
