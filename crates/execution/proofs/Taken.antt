-- A walk down a list takes from each number its share. Assumes nothing.
use Rattle.std.proofs.Common.{◌≡◌, ℕ, suc, ◌+◌, ◌-◌, ◌*◌, ◌^◌, ◌<◌, ◌≤◌, min, Bool, true, false, cond, eqb, List, [], ◌∷◌, length, slice_index_or, refl, arith}
use Rattle.words.specs.declared.orders.Order.{Order}
use Rattle.words.specs.declared.sides.Side.{Side}
use Rattle.words.specs.Orders.{lowered, no_order}
use Rattle.ranking.specs.Lists.{total}
use Rattle.ranking.specs.Walks.{walked}
use Rattle.ranking.proofs.Lists.{total_le, part_le}
use Rattle.pricing.specs.Passes.{Few}
use Rattle.pricing.specs.Sides.{can_trade, open_at}
use Rattle.execution.specs.Shares.{open_of, share}

abbrev pub taken : ℕ → List Order → List Order
taken v os = walked (λ o. o.quantity) lowered v os

pub taken_share : (n v : ℕ) (os : List Order) → open_of n (taken v os) + share n v os ≡ open_of n os
taken_share n v [] = refl
taken_share n v (o ∷ os) =
    let rest = taken_share n (v - o.quantity) os in
    go (eqb o.number n) rest
  where
    go : (b : Bool) → open_of n (taken (v - o.quantity) os) + share n (v - o.quantity) os ≡ open_of n os
        → (cond b (o.quantity - min v o.quantity) 0 + open_of n (taken (v - o.quantity) os)) + (cond b (min v o.quantity) 0 + share n (v - o.quantity) os) ≡ cond b o.quantity 0 + open_of n os
    go true e = omega arith
    go false e = omega arith

pub taken_less : (v : ℕ) (os : List Order) → total (λ o. o.quantity) (taken v os) ≤ total (λ o. o.quantity) os
taken_less v [] = omega arith
taken_less v (o ∷ os) = omega (arith, taken_less (v - o.quantity) os)

pub open_under : (n : ℕ) (os : List Order) → open_of n os ≤ total (λ o. o.quantity) os
open_under n os = total_le (λ o. cond (eqb o.number n) o.quantity 0) (λ o. o.quantity) os (λ o m. part_le (eqb o.number n) o.quantity)

-- of few orders, all that can trade is open in numbers of 32 bits
few_open : (x : Side) (p : ℕ) (os : List Order) → ((k : ℕ) → (slice_index_or os k no_order).quantity ≤ 1000000) → open_at x p os ≤ 1000000 * length os
few_open x p [] h = omega arith
few_open x p (o ∷ os) h = omega (arith, part_le (can_trade x p o) o.quantity, h 0, few_open x p os (λ k. h (suc k)))

pub few_fit : (x : Side) (p : ℕ) (os : List Order) → Few os → open_at x p os < 2 ^ 32
few_fit x p os h = omega (arith, few_open x p os h.large, h.many)
