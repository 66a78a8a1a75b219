-- The reply to the what-if question. Assumes nothing.
use Rattle.std.specs.Prelude.{ℕ}
use Rattle.words.specs.declared.orders.Order.{Order}
use Rattle.pricing.specs.Sides.{Sides}
use Rattle.pricing.specs.Outcomes.{outcome_of}
use Rattle.execution.specs.Settling.{traded}
use Rattle.book.specs.declared.asking.Answer.{Answer}
use Rattle.book.specs.Books.{joined}
use Rattle.book.specs.Striking.{trades_of}

-- of a book in which the order stands: the outcome of its call, and the shares that the order gets there
abbrev pub answer_in : Sides → Order → ℕ → Answer
answer_in s o reference = record { outcome = outcome_of s reference; shares = traded o.side o.number (trades_of s reference) }

-- of a book to which the order is added, last in time
abbrev pub answer_of : Sides → Order → ℕ → Answer
answer_of s o reference = answer_in (joined s o) o reference
