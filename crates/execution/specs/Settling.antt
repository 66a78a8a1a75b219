-- The book after some trades: each order less the lines that name it. Assumes nothing.
use Rattle.std.specs.Prelude.{ℕ, Bool, cond, List, map, filter, ◌==◌, nat_lt}
use Rattle.words.specs.declared.orders.Order.{Order}
use Rattle.words.specs.declared.sides.Side.{Side}
use Rattle.words.specs.declared.sides.Side.TheVariants.{Buy, Sell}
use Rattle.words.specs.declared.tape.Trade.{Trade}
use Rattle.words.specs.Orders.{lowered}
use Rattle.ranking.specs.Lists.{total}
use Rattle.pricing.specs.Sides.{Sides, sides}

-- the number that a line names on a side
abbrev pub named_by : Side → Trade → ℕ
named_by Buy l = l.buy
named_by Sell l = l.sell

-- what the lines that name a number on a side add up to
abbrev pub traded : Side → ℕ → List Trade → ℕ
traded x n ls = total (λ l. cond (named_by x l == n) l.quantity 0) ls

-- an order less what it traded
abbrev pub left_by : Side → List Trade → Order → Order
left_by x ls o = lowered o (traded x o.number ls)

-- an order stands while something is open of it
abbrev pub stands : Order → Bool
stands o = nat_lt 0 o.quantity

-- a side after the lines: those with nothing left are taken out, the others keep their order
abbrev pub settled : Side → List Trade → List Order → List Order
settled x ls os = filter stands (map (left_by x ls) os)

-- both sides after the lines
abbrev pub after_trades : List Trade → Sides → Sides
after_trades ls s = sides (settled Buy ls s.buys) (settled Sell ls s.sells)
