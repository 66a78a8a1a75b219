-- The execution of an auction at a price (Article 21): both sides are walked in rank, in pairs. Assumes nothing.
use Rattle.std.specs.Prelude.{ℕ, zero, suc, ◌+◌, min, cond, List, [], ◌∷◌, ◌++◌, map, length, drop, filter, nat_lt}
use Rattle.words.specs.declared.orders.Order.{Order}
use Rattle.words.specs.declared.sides.Side.{Side}
use Rattle.words.specs.declared.sides.Side.TheVariants.{Buy, Sell}
use Rattle.words.specs.declared.tape.Trade.{Trade}
use Rattle.words.specs.Orders.{lowered}
use Rattle.words.specs.Ranks.{ranks_before}
use Rattle.ranking.specs.Ranking.{rank_sort}
use Rattle.pricing.specs.Sides.{Sides, can_trade}

-- those of a side that can trade at the price, in rank
abbrev pub ready : Side → ℕ → List Order → List Order
ready x p os = rank_sort (ranks_before x) (filter (can_trade x p) os)

-- what is still to be walked when the first gave a quantity: it is passed where nothing is left of it
abbrev pub less_first : ℕ → Order → List Order → List Order
less_first q o os = cond (nat_lt q o.quantity) (lowered o q ∷ os) os

-- what one order trades with another
pub record Pair : Type 0 where
  pub one : ℕ
  pub other : ℕ
  pub quantity : ℕ

-- the two in front trade the smaller open quantity, until one list is used up. At each step one of the two is passed, so there are at most as many steps as orders.
abbrev pub walk : ℕ → List Order → List Order → List Pair
walk zero xs ys = []
walk (suc k) [] ys = []
walk (suc k) (x ∷ xs) [] = []
walk (suc k) (x ∷ xs) (y ∷ ys) =
    let q = min x.quantity y.quantity in
    record { one = x.number; other = y.number; quantity = q } ∷ walk k (less_first q x xs) (less_first q y ys)

abbrev pub pairs : List Order → List Order → List Pair
pairs xs ys = walk (length xs + length ys) xs ys

-- a pair as a line of the tape
abbrev pub line : ℕ → Pair → Trade
line p t = record { buy = t.one; sell = t.other; price = p; quantity = t.quantity }

-- the lines of the execution at a price
abbrev pub executed : Sides → ℕ → List Trade
executed s p = map (line p) (pairs (ready Buy p s.buys) (ready Sell p s.sells))

-- lines at the front of a tape: its further places stay
abbrev pub written : List Trade → List Trade → List Trade
written ls tape = ls ++ drop (length ls) tape
