-- The orders that a study may ask about. Assumes nothing.
use Rattle.std.specs.Prelude.{◌≡◌, true, List}
use Rattle.words.specs.declared.orders.Order.{Order}
use Rattle.words.specs.declared.tape.Trade.{Trade}
use Rattle.execution.specs.Execution.{written}
use Rattle.book.specs.declared.striking.Struck.{Struck}
use Rattle.book.specs.Books.{joined}
use Rattle.book.specs.Striking.{trades_of, after_strike, struck_of}
use Rattle.auction.specs.States.{State}
use Rattle.study.specs.Sound.{fit_order}

-- fit for a book, and with no number of its own
pub record Askable (o : Order) : Type 0 where
  pub fit : fit_order o ≡ true
  pub unnumbered : o.number ≡ 0

-- the call with the asked order in it: the tape after, and the reply
abbrev pub trades_asked : State → Order → List Trade → List Trade × Struck
trades_asked s o tape = (written (trades_of (joined s.sides o) s.reference) tape, struck_of (joined s.sides o) s.reference)

-- the call itself: the auction after, the tape after, and the reply
abbrev pub trades_struck : State → List Trade → State × List Trade × Struck
trades_struck s tape = (
  record { reference = s.reference; last = s.last; sides = after_strike s.sides s.reference },
  written (trades_of s.sides s.reference) tape,
  struck_of s.sides s.reference,
)
