-- The orders of a book, and what they are ready to trade at a price. Assumes nothing.
use Rattle.std.specs.Prelude.{ℕ, ◌+◌, ◌-◌, min, Bool, cond, List, [], ◌∷◌, ◌++◌, ℤ, pos, ◌-ℤ◌, ◌==◌, nat_lt}
use Rattle.words.specs.declared.sides.Side.{Side}
use Rattle.words.specs.declared.sides.Side.TheVariants.{Buy, Sell}
use Rattle.words.specs.declared.terms.Terms.{Terms}
use Rattle.words.specs.declared.terms.Terms.TheVariants.{Limit, Market, MarketToLimit}
use Rattle.words.specs.declared.orders.Order.{Order}
use Rattle.words.specs.Terms.{may_trade}
use Rattle.ranking.specs.Lists.{total}

-- Each side in the order of the grants: who stands earlier was granted earlier.
pub record Sides : Type 0 where
  pub buys : List Order
  pub sells : List Order

abbrev pub sides : List Order → List Order → Sides
sides bs ss = record { buys = bs; sells = ss }

-- the order, standing on that side, can trade at the price
abbrev pub can_trade : Side → ℕ → Order → Bool
can_trade x p o = may_trade x p o.terms

-- the open quantity of those of a side that can trade at the price
abbrev pub open_at : Side → ℕ → List Order → ℕ
open_at x p os = total (λ o. cond (can_trade x p o) o.quantity 0) os

-- demand and supply at a price
abbrev pub demand : Sides → ℕ → ℕ
demand s p = open_at Buy p s.buys

abbrev pub supply : Sides → ℕ → ℕ
supply s p = open_at Sell p s.sells

-- the executable volume, what the price executes: the smaller of the two
abbrev pub volume : Sides → ℕ → ℕ
volume s p = min (demand s p) (supply s p)

-- the surplus: demand minus supply
abbrev pub surplus : Sides → ℕ → ℤ
surplus s p = pos (demand s p) -ℤ pos (supply s p)

-- its size, sign left out, and whether it is positive, negative or 0
abbrev pub gap : Sides → ℕ → ℕ
gap s p = (demand s p - supply s p) + (supply s p - demand s p)

abbrev pub positive : Sides → ℕ → Bool
positive s p = nat_lt (supply s p) (demand s p)

abbrev pub negative : Sides → ℕ → Bool
negative s p = nat_lt (demand s p) (supply s p)

abbrev pub balanced : Sides → ℕ → Bool
balanced s p = demand s p == supply s p

-- the limit prices that stand in the book
abbrev pub with_limit : Terms → List ℕ → List ℕ
with_limit (Limit l) ls = l ∷ ls
with_limit Market ls = ls
with_limit MarketToLimit ls = ls

abbrev pub limits_of : List Order → List ℕ
limits_of [] = []
limits_of (o ∷ os) = with_limit o.terms (limits_of os)

abbrev pub limits : Sides → List ℕ
limits s = limits_of s.buys ++ limits_of s.sells
