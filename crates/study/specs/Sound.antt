-- What holds of every study that is read. Assumes nothing.
use Rattle.std.specs.Prelude.{◌≡◌, ℕ, ◌+◌, ◌≤◌, Bool, true, false, ◌&&◌, List, [], ◌∷◌, ◌==◌, slice_index_or}
use Rattle.std.specs.Option.{ForSome}
use Rattle.words.specs.declared.orders.Order.{Order}
use Rattle.words.specs.declared.terms.Terms.{Terms}
use Rattle.words.specs.declared.terms.Terms.TheVariants.{Limit, Market, MarketToLimit}
use Rattle.words.specs.declared.terms.Condition.{Condition}
use Rattle.words.specs.declared.terms.Condition.TheVariants.{Unconditional, ImmediateOrCancel, FillOrKill, BookOrCancel}
use Rattle.words.specs.Terms.{is_price, is_quantity}
use Rattle.words.specs.Orders.{no_order}
use Rattle.study.specs.Bytes.{all}
use Rattle.study.specs.Studies.{Reading, Content, Few}

-- a limit is a price
abbrev pub fit_terms : Terms → Bool
fit_terms (Limit p) = is_price p
fit_terms Market = true
fit_terms MarketToLimit = true

abbrev pub is_unconditional : Condition → Bool
is_unconditional Unconditional = true
is_unconditional ImmediateOrCancel = false
is_unconditional FillOrKill = false
is_unconditional BookOrCancel = false

-- an order with a quantity from 1 to 1,000,000, a price for its limit if it has one, and no condition
abbrev pub fit_order : Order → Bool
fit_order o = is_quantity o.quantity && (fit_terms o.terms && is_unconditional o.condition)

-- an order that is only asked about has no number
abbrev pub is_unnumbered : Order → Bool
is_unnumbered o = o.number == 0

-- the orders have the numbers from n on, one after the other
abbrev pub numbered_from : ℕ → List Order → Bool
numbered_from n [] = true
numbered_from n (o ∷ os) = o.number == n && numbered_from (n + 1) os

pub record Sound (s : Content) : Type 0 where
  -- the reference is a price
  pub low : 1 ≤ s.reference
  pub high : s.reference ≤ 1000000
  -- every order, and every order asked about, is fit for a book
  pub orders_fit : all fit_order s.orders ≡ true
  pub asks_fit : all fit_order s.asks ≡ true
  -- at most 128 orders a side
  pub few : Few s.orders
  -- the orders are numbered from 1
  pub numbers : numbered_from 1 s.orders ≡ true
  pub asks_unnumbered : all is_unnumbered s.asks ≡ true
  -- the quantities once more, by place
  pub orders_small : (k : ℕ) → (slice_index_or s.orders k no_order).quantity ≤ 1000000
  pub asks_small : (k : ℕ) → (slice_index_or s.asks k no_order).quantity ≤ 1000000

-- what holds of what the lines so far have said
pub record SoundSoFar (s : Reading) : Type 0 where
  pub reference_fit : ForSome s.reference (λ p. is_price p ≡ true)
  pub orders_fit : all fit_order s.orders ≡ true
  pub asks_fit : all fit_order s.asks ≡ true
  pub few : Few s.orders
  pub numbers : numbered_from 1 s.orders ≡ true
  pub asks_unnumbered : all is_unnumbered s.asks ≡ true
