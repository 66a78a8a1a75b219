-- What a book holds: its standing orders, and an asked one in its own place. Assumes nothing.
use Rattle.std.specs.Prelude.{◌≡◌, ℕ, ◌≤◌, List, [], ◌∷◌, ◌++◌, Some, None, vec_items, vec_len, vec_capacity, Option}
use Rattle.words.specs.declared.orders.Order.{Order}
use Rattle.words.specs.declared.sides.Side.{Side}
use Rattle.words.specs.declared.sides.Side.TheVariants.{Buy, Sell}
use Rattle.pricing.specs.Passes.{Few}
use Rattle.pricing.specs.Sides.{Sides, sides}
use Rattle.book.specs.declared.table.Book.{Book}

abbrev pub other : Side → Side
other Buy = Sell
other Sell = Buy

-- the standing orders of a side
abbrev pub standing_in : Side → Book → List Order
standing_in Buy b = vec_items b.buys
standing_in Sell b = vec_items b.sells

-- and of both
abbrev pub standing_of : Book → Sides
standing_of b = sides (vec_items b.buys) (vec_items b.sells)

-- how many orders a side has memory for
abbrev pub cap_of : Side → Book → ℕ
cap_of Buy b = vec_capacity b.buys
cap_of Sell b = vec_capacity b.sells

-- what a change of the standing orders leaves as it is: the place of an asked order, and how many orders each side has memory for
pub record Keeps (old new : Book) : Type 0 where
  pub asked : new.asked ≡ old.asked
  pub capacity : (x : Side) → cap_of x new ≡ cap_of x old

-- one order more on its side, last in time
abbrev pub joined_on : Side → Sides → Order → Sides
joined_on Buy s o = sides (s.buys ++ o ∷ []) s.sells
joined_on Sell s o = sides s.buys (s.sells ++ o ∷ [])

abbrev pub joined : Sides → Order → Sides
joined s o = joined_on o.side s o

-- with the asked order, if there is one
abbrev pub joined_if : Sides → Option Order → Sides
joined_if s None = s
joined_if s (Some o) = joined s o

abbrev pub with_asked : Book → Sides
with_asked b = joined_if (standing_of b) b.asked

-- the book with its place for an asked order filled, and emptied
abbrev pub placed : Book → Option Order → Book
placed b a = record { buys = b.buys; sells = b.sells; asked = a }

abbrev pub filled : Book → Order → Book
filled b o = placed b (Some o)

abbrev pub emptied : Book → Book
emptied b = placed b None

-- a book that can be asked about an order: its sides are not over full, and with the order in it sums of quantities still fit
pub record FitsQuestion (b : Book) (o : Order) : Type 0 where
  pub buys : vec_len b.buys ≤ 128
  pub sells : vec_len b.sells ≤ 128
  pub few_buys : Few (joined (standing_of b) o).buys
  pub few_sells : Few (joined (standing_of b) o).sells
