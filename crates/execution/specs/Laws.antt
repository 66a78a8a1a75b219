-- The laws of an execution, in the words of the subject: they hold of every book in which no number stands twice on a side, at every price. Assumes nothing.
use Rattle.std.specs.Prelude.{◌≡◌, ℕ, ◌+◌, ◌-◌, ◌<◌, ◌≤◌, true, cond, List, length, ◌==◌}
use Rattle.words.specs.declared.orders.Order.{Order}
use Rattle.words.specs.declared.sides.Side.{Side}
use Rattle.words.specs.declared.sides.Side.TheVariants.{Buy, Sell}
use Rattle.words.specs.declared.tape.Trade.{Trade}
use Rattle.words.specs.Orders.{lowered}
use Rattle.words.specs.Ranks.{ranks_before}
use Rattle.ranking.specs.Lists.{In, total}
use Rattle.ranking.specs.Ranking.{Outranks}
use Rattle.pricing.specs.Sides.{Sides, can_trade, volume}
use Rattle.execution.specs.Execution.{executed}
use Rattle.execution.specs.Settling.{named_by, traded, after_trades}

-- the orders that stand on a side
abbrev pub standing : Side → Sides → List Order
standing Buy s = s.buys
standing Sell s = s.sells

-- how many orders of a list have a number, and that no number stands twice
abbrev pub count : ℕ → List Order → ℕ
count n os = total (λ o. cond (o.number == n) 1 0) os

abbrev pub Apart : List Order → Type 0
Apart os = (n : ℕ) → count n os ≤ 1

-- an order of the side that a line names, and that can trade at the line's price
pub record Trader (x : Side) (s : Sides) (l : Trade) : Type 0 where
  pub order : Order
  pub stood : In order (standing x s)
  pub named : order.number ≡ named_by x l
  pub can : can_trade x l.price order ≡ true

-- an order that stood before the lines, and of which something is left after them
pub record Remainder (x : Side) (s : Sides) (ls : List Trade) (o : Order) : Type 0 where
  pub was : Order
  pub stood : In was (standing x s)
  pub is : o ≡ lowered was (traded x was.number ls)
  pub some : traded x was.number ls < was.quantity

-- the trades ls, made at the price p, in the book s
pub record Executed (s : Sides) (p : ℕ) (ls : List Trade) : Type 0 where
  -- the lines add up to the volume of the price, and are at that price
  pub adds_up : total (λ l. l.quantity) ls ≡ volume s p
  pub at_the_price : (l : Trade) → In l ls → l.price ≡ p
  -- each line names a standing order on either side, and passes its limit on neither
  pub traders : (x : Side) (l : Trade) → In l ls → Trader x s l
  pub within_limits : (x : Side) (l : Trade) (o : Order) → In l ls → In o (standing x s) → o.number ≡ named_by x l → can_trade x p o ≡ true
  -- no order trades more than was open of it
  pub within_quantity : (x : Side) (o : Order) → In o (standing x s) → traded x o.number ls ≤ o.quantity
  -- who ranked above one that traded is filled whole: it could trade at the price, since that one could
  pub in_rank : (x : Side) (o q : Order) → In o (standing x s) → In q (standing x s) → Outranks (ranks_before x) (standing x s) o q → 0 < traded x q.number ls → traded x o.number ls ≡ o.quantity
  -- each order's open quantity falls by exactly the lines that name it: what is left of it stands after, and nothing else does
  pub left : (x : Side) (o : Order) → In o (standing x s) → traded x o.number ls < o.quantity → In (lowered o (traded x o.number ls)) (standing x (after_trades ls s))
  pub untouched : (x : Side) (o : Order) → In o (standing x s) → 0 < o.quantity → traded x o.number ls ≡ 0 → In o (standing x (after_trades ls s))
  pub nothing_else : (x : Side) (o : Order) → In o (standing x (after_trades ls s)) → Remainder x s ls o
  -- there are fewer lines than orders
  pub few_lines : length ls ≤ (length s.buys + length s.sells) - 1

abbrev pub LawOfExecution : Sides → ℕ → Type 0
LawOfExecution s p = Apart s.buys → Apart s.sells → Executed s p (executed s p)
