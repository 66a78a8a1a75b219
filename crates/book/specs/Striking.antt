-- What the strike of a call does: the trades at its price, and the book after them. Assumes nothing.
use Rattle.std.specs.Prelude.{ℕ, List, [], length, Some, None, Option}
use Rattle.words.specs.declared.tape.Trade.{Trade}
use Rattle.pricing.specs.Sides.{Sides}
use Rattle.pricing.specs.Price.{auction_price}
use Rattle.pricing.specs.Outcomes.{outcome_of}
use Rattle.execution.specs.Execution.{executed}
use Rattle.execution.specs.Settling.{after_trades}
use Rattle.book.specs.declared.striking.Struck.{Struck}

-- the trades at a price, if there is one
abbrev pub trades_at : Sides → Option ℕ → List Trade
trades_at s None = []
trades_at s (Some p) = executed s p

-- those of the call
abbrev pub trades_of : Sides → ℕ → List Trade
trades_of s reference = trades_at s (auction_price s reference)

-- the book after it: as it was where there is no price
abbrev pub after_at : Sides → Option ℕ → Sides
after_at s None = s
after_at s (Some p) = after_trades (executed s p) s

abbrev pub after_strike : Sides → ℕ → Sides
after_strike s reference = after_at s (auction_price s reference)

-- what is replied
abbrev pub struck_of : Sides → ℕ → Struck
struck_of s reference = record { outcome = outcome_of s reference; lines = length (trades_of s reference) }
