-- The auction that a study describes. Assumes nothing.
use Rattle.std.specs.Prelude.{◌≡◌, ℕ, true, List, length, Ok, Err, filter, Result}
use Rattle.words.specs.declared.orders.Order.{Order}
use Rattle.words.specs.declared.sides.Side.{Side}
use Rattle.words.specs.declared.sides.Side.TheVariants.{Buy, Sell}
use Rattle.pricing.specs.Sides.{sides}
use Rattle.auction.specs.declared.held.Auction.{Auction}
use Rattle.auction.specs.declared.held.calls.MakeError.{MakeError}
use Rattle.auction.specs.declared.held.calls.MakeError.TheVariants.{Refused, NoMemory}
use Rattle.auction.specs.States.{State, view}
use Rattle.study.specs.Studies.{Content, same_side, Few}
use Rattle.study.specs.Sound.{fit_order, numbered_from}
use Rattle.study.specs.Bytes.{all}

-- the orders of a side, in their order
abbrev pub on_side : Side → List Order → List Order
on_side x os = filter (λ o. same_side x o.side) os

-- an auction of these orders at that reference price
abbrev pub holding : ℕ → List Order → State
holding reference os = record { reference = reference; last = length os; sides = sides (on_side Buy os) (on_side Sell os) }

-- orders that a book takes, one after the other, from the number 1 on
pub record FitOrders (os : List Order) : Type 0 where
  pub each_fit : all fit_order os ≡ true
  pub few : Few os
  pub numbers : numbered_from 1 os ≡ true

-- the auction holds what the study says, or there was no memory for it
abbrev pub Loads : Content → Result Auction MakeError → Type 0
Loads c (Ok a) = view a ≡ holding c.reference c.orders
Loads c (Err (Refused why)) = ⊥
Loads c (Err NoMemory) = Unit {0}
