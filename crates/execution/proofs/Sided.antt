-- What an execution gives the orders of one side. Assumes nothing.
use Rattle.std.proofs.Common.{◌≡◌, ℕ, ◌+◌, ◌<◌, ◌≤◌, true, false, cond, eqb, List, [], ◌∷◌, length, filter, sym, refl, ap, ◌∙◌, inl, inr, ⊎_elim, arith}
use Rattle.std.proofs.lemmas.Bool.{cases_Bool, cases_lt, eq-eqb}
use Rattle.words.specs.declared.orders.Order.{Order}
use Rattle.words.specs.declared.sides.Side.{Side}
use Rattle.words.specs.Ranks.{ranks_before}
use Rattle.ranking.specs.Lists.{In, total}
use Rattle.ranking.specs.Ranking.{Outranks}
use Rattle.ranking.proofs.Lists.{in_kept, kept_in, total_le, total_lt, total_kept, earlier_kept, part_le}
use Rattle.ranking.proofs.Placing.{sorted}
use Rattle.ranking.proofs.Ranked.{sort_total, sort_takes, sort_had, outranks_earlier}
use Rattle.pricing.specs.Sides.{can_trade, open_at}
use Rattle.execution.specs.Execution.{ready}
use Rattle.execution.specs.Laws.{count, Apart}
use Rattle.execution.proofs.Ranks.{side_ranks, front}
use Rattle.execution.specs.Shares.{share}
use Rattle.execution.proofs.Walks.{in_count, absent, share_within, share_ahead, share_whole}

-- two of one number are one order
pub same_order : (o q : Order) (os : List Order) → Apart os → In o os → In q os → o.number ≡ q.number → o ≡ q
same_order o q [] h m n e = absurd m
same_order o q (y ∷ ys) h (inl i) (inl j) e = i ∙ sym j
same_order o q (y ∷ ys) h (inl i) (inr n) e =
    let once : cond (eqb y.number q.number) 1 0 + count q.number ys ≤ 1 = h q.number in
    let same = eq-eqb y.number q.number (ap (λ z. z.number) (sym i) ∙ e) in
    let some = in_count q ys n in
    absurd (grind arith)
same_order o q (y ∷ ys) h (inr m) (inl j) e =
    let once : cond (eqb y.number o.number) 1 0 + count o.number ys ≤ 1 = h o.number in
    let same = eq-eqb y.number o.number (ap (λ z. z.number) (sym j) ∙ sym e) in
    let some = in_count o ys m in
    absurd (grind arith)
same_order o q (y ∷ ys) h (inr m) (inr n) e = same_order o q ys (λ k. omega (arith, h k)) m n e

ones : {X : Type 0} (xs : List X) → length xs ≡ total (λ _. 1) xs
ones [] = refl
ones (x ∷ xs) = omega (arith, ones xs)

module _ (x : Side) (p : ℕ) where
  pub ready_total : (f : Order → ℕ) (os : List Order) → total f (ready x p os) ≡ total (λ o. cond (can_trade x p o) (f o) 0) os
  ready_total f os = sort_total (ranks_before x) f (filter (can_trade x p) os) ∙ total_kept f (can_trade x p) os

  ready_le : (f : Order → ℕ) (os : List Order) → total f (ready x p os) ≤ total f os
  ready_le f os = omega (arith, ready_total f os, total_le (λ o. cond (can_trade x p o) (f o) 0) f os (λ o m. part_le (can_trade x p o) (f o)))

  pub ready_short : (os : List Order) → length (ready x p os) ≤ length os
  ready_short os = omega (arith, ones (ready x p os), ones os, ready_le (λ _. 1) os)

  ready_in : (o : Order) (os : List Order) → In o os → can_trade x p o ≡ true → In o (ready x p os)
  ready_in o os m h = sort_takes (ranks_before x) o (filter (can_trade x p) os) (in_kept (can_trade x p) os o m h)

  pub ready_had : (o : Order) (os : List Order) → In o (ready x p os) → In o os × (can_trade x p o ≡ true)
  ready_had o os m = kept_in (can_trade x p) os o (sort_had (ranks_before x) o (filter (can_trade x p) os) m)

  ready_apart : (os : List Order) → Apart os → Apart (ready x p os)
  ready_apart os h n = omega (arith, h n, ready_le (λ o. cond (eqb o.number n) 1 0) os)

  -- one that cannot trade has no share
  side_out : (v : ℕ) (o : Order) (os : List Order) → Apart os → In o os → can_trade x p o ≡ false → share o.number v (ready x p os) ≡ 0
  side_out v o os h m e =
      let n = o.number in
      let one = eq-eqb n n refl in
      let f : Order → ℕ = λ y. cond (can_trade x p y) (cond (eqb y.number n) 1 0) 0 in
      let g : Order → ℕ = λ y. cond (eqb y.number n) 1 0 in
      let less : f o < g o = grind arith in
      absent n v (ready x p os) (omega (arith, ready_total g os, h n, total_lt f g os (λ y k. part_le (can_trade x p y) (g y)) o m less))

  pub side_within : (v : ℕ) (o : Order) (os : List Order) → Apart os → In o os → share o.number v (ready x p os) ≤ o.quantity
  side_within v o os h m =
      ⊎_elim (λ e. share_within v o (ready x p os) (ready_apart os h) (ready_in o os m e)) (λ e. omega (arith, side_out v o os h m e)) (cases_Bool (can_trade x p o))

  not_below : (o q : Order) (os : List Order) → Outranks (ranks_before x) os o q → ranks_before x q o ≡ false
  not_below o q os (inl e) = (side_ranks x).one_way o q e
  not_below o q os (inr e) = e.0

  -- who outranks one that gets something is filled whole
  pub side_ahead : (v : ℕ) (o q : Order) (os : List Order) → Apart os → In o os → In q os → Outranks (ranks_before x) os o q → 0 < share q.number v (ready x p os) → share o.number v (ready x p os) ≡ o.quantity
  side_ahead v o q os h m n r k =
      ⊎_elim
      (λ f.
      let e = front x p o q (not_below o q os r) f in
      share_ahead v o q (ready x p os) (ready_apart os h)
      (outranks_earlier (ranks_before x) (side_ranks x) o q (filter (can_trade x p) os) (in_kept (can_trade x p) os o m e) (in_kept (can_trade x p) os q n f) (⊎_elim (λ t. inl t) (λ t. inr (t.0, earlier_kept (can_trade x p) o q os e f t.1)) r)) k)
      (λ f. absurd (omega (arith, side_out v q os h n f))) (cases_Bool (can_trade x p q))

  -- of one that is not filled whole, more than the volume is open at every price at which it can trade
  pub side_left : (v q : ℕ) (o : Order) (os : List Order) → Apart os → In o os → can_trade x p o ≡ true → can_trade x q o ≡ true → share o.number v (ready x p os) < o.quantity → v < open_at x q os
  side_left v q o os h m e f k =
      ⊎_elim (λ g. g)
      (λ g. absurd (omega (arith, share_whole (ranks_before x) (can_trade x q) (front x q) v o (ready x p os) (sorted (ranks_before x) (side_ranks x) (filter (can_trade x p) os)) (ready_apart os h) (ready_in o os m e) f (omega (arith, ready_le (λ y. cond (can_trade x q y) y.quantity 0) os)))))
      (cases_lt v (open_at x q os))
