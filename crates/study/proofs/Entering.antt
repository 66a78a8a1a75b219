-- One order more: its number, and the room on the sides. Assumes nothing.
use Rattle.std.proofs.Common.{◌≡◌, ℕ, ◌+◌, ◌<◌, ◌≤◌, cond, List, [], ◌∷◌, ◌++◌, length, refl, arith}
use Rattle.std.proofs.lemmas.List.Sums.{sum_by-cons, sum_by_push}
use Rattle.words.specs.declared.orders.Order.{Order}
use Rattle.words.specs.declared.sides.Side.{Side}
use Rattle.words.specs.declared.sides.Side.TheVariants.{Buy, Sell}
use Rattle.study.specs.Studies.{same_side, count_on, Few}

-- what one order counts on a side
abbrev one : Side → Order → ℕ
one x o = cond (same_side x o.side) 1 0

-- an order is on one side
either : (s : Side) → cond (same_side Buy s) 1 0 + cond (same_side Sell s) 1 0 ≡ 1
either Buy = refl
either Sell = refl

whole : (os : List Order) → length os ≡ count_on Buy os + count_on Sell os
whole [] = refl
whole (o ∷ os) = omega (arith, whole os, either o.side, sum_by-cons (one Buy) o os, sum_by-cons (one Sell) o os)

-- the next number is a small one
pub next_small : (os : List Order) (v n : ℕ) → Few os → v ≡ length os → n ≡ v → n + 1 < 65536
next_small os v n f e d = omega (arith, whole os, f.buys, f.sells)

added : (s : Side) (os : List Order) → Few os → count_on s os < 128 → (count_on Buy os + cond (same_side Buy s) 1 0 ≤ 128) × (count_on Sell os + cond (same_side Sell s) 1 0 ≤ 128)
added Buy os f h = (omega (arith, h), omega (arith, f.sells))
added Sell os f h = (omega (arith, f.buys), omega (arith, h))

pub few_more : (os : List Order) (o : Order) → Few os → count_on o.side os < 128 → Few (os ++ (o ∷ []))
few_more os o f h =
    let both = added o.side os f h in
    record { buys = omega (arith, both.0, sum_by_push (one Buy) os o); sells = omega (arith, both.1, sum_by_push (one Sell) os o) }
