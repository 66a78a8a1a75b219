-- The laws that the calls of an auction carry. Assumes nothing.
use Rattle.std.specs.Prelude.{◌≡◌, ℕ, ◌≤◌, List, [], take, Some, None, Option}
use Rattle.words.specs.declared.orders.Order.{Order}
use Rattle.words.specs.declared.tape.Trade.{Trade}
use Rattle.pricing.specs.Sides.{Sides}
use Rattle.pricing.specs.Laws.{LawOfPrice}
use Rattle.words.specs.declared.sides.Side.{Side}
use Rattle.words.specs.declared.terms.Kind.{Kind}
use Rattle.words.specs.Refused.{first_due, RefusedRightly}
use Rattle.execution.specs.Laws.{Executed}
use Rattle.book.specs.declared.asking.Answer.{Answer}
use Rattle.book.specs.declared.striking.Struck.{Struck}
use Rattle.auction.specs.States.{State}
use Rattle.auction.specs.Calls.{make_rows, enter_rows, order_rows, tape_row}

-- the trades of a call: none without a price, and else a lawful execution at that price
abbrev pub LawOfTrades : Sides → Option ℕ → List Trade → Type 0
LawOfTrades s None ls = ls ≡ []
LawOfTrades s (Some p) ls = Executed s p ls

-- a call of the book s at the reference price that replied k and left that tape
pub record LawOfCall (s : Sides) (reference : ℕ) (k : Struck) (tape : List Trade) : Type 0 where
  pub price_law : LawOfPrice s reference k.outcome.price
  -- its trades are the first lines of the tape
  pub trades_law : LawOfTrades s k.outcome.price (take k.lines tape)
  -- and 256 places are enough for them
  pub few_lines : k.lines ≤ 256

-- the answer to a question about the order o, which stands in the book s
pub record LawOfAnswer (s : Sides) (o : Order) (reference : ℕ) (a : Answer) : Type 0 where
  pub price_law : LawOfPrice s reference a.outcome.price
  -- the order gets no more than it asks for
  pub within_quantity : a.shares ≤ o.quantity

-- whatever its state and what it is given, each call is refused for what is due with the smallest number, and only where something is due
pub record RefusesByNumber : Type 0 where
  pub making : (reference : ℕ) → RefusedRightly (make_rows reference) (first_due (make_rows reference))
  pub entering : (s : State) (side : Side) (kind : Kind) (price quantity : ℕ) → RefusedRightly (enter_rows s side kind price quantity) (first_due (enter_rows s side kind price quantity))
  pub asking : (kind : Kind) (price quantity : ℕ) → RefusedRightly (order_rows kind price quantity []) (first_due (order_rows kind price quantity []))
  pub previewing : (kind : Kind) (price quantity : ℕ) (tape : List Trade) → RefusedRightly (order_rows kind price quantity (tape_row tape)) (first_due (order_rows kind price quantity (tape_row tape)))
  pub striking : (tape : List Trade) → RefusedRightly (tape_row tape) (first_due (tape_row tape))
