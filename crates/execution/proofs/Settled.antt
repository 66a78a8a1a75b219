-- What stands after some lines. Assumes nothing.
use Rattle.std.proofs.Common.{◌≡◌, ℕ, ◌-◌, ◌<◌, List, [], ◌∷◌, map, fold, ap, subst, arith}
use Rattle.std.proofs.lemmas.Bool.{ltb-true, lt-ltb}
use Rattle.words.specs.declared.orders.Order.{Order}
use Rattle.words.specs.declared.sides.Side.{Side}
use Rattle.words.specs.declared.tape.Trade.{Trade}
use Rattle.words.specs.Orders.{resized}
use Rattle.ranking.specs.Lists.{In, total}
use Rattle.ranking.proofs.Lists.{in_kept, kept_in, map_in, in_map}
use Rattle.execution.specs.Settling.{traded, left_by, stands, settled}

module _ (x : Side) (ls : List Trade) (os : List Order) where
  pub settled_left : (o : Order) → In o os → traded x o.number ls < o.quantity → In (left_by x ls o) (settled x ls os)
  settled_left o m h = in_kept stands (map (left_by x ls) os) (left_by x ls o) (in_map (left_by x ls) os o m) (lt-ltb _ _ (omega arith))

  pub settled_same : (o : Order) → In o os → 0 < o.quantity → traded x o.number ls ≡ 0 → In o (settled x ls os)
  settled_same o m h e =
      let all : o.quantity - traded x o.number ls ≡ o.quantity = omega arith in
      subst (λ z. In z (settled x ls os)) (ap (resized o) all) (settled_left o m (omega arith))

  pub settled_from : (o : Order) → In o (settled x ls os) → (q : Order) × In q os × (o ≡ left_by x ls q) × (traded x q.number ls < q.quantity)
  settled_from o m =
      let k = kept_in stands (map (left_by x ls) os) o m in
      let r = map_in (left_by x ls) os o k.0 in
      let rest : o.quantity ≡ r.0.quantity - traded x r.0.number ls = ap (λ z. z.quantity) r.2 in
      (r.0, r.1, r.2, omega (arith, ltb-true _ _ k.1))

-- taking off one after the other what f says of each takes off the total
pub taken_off : {X : Type 0} (f : X → ℕ) (q : ℕ) (xs : List X) → fold (λ left x. left - f x) q xs ≡ q - total f xs
taken_off f q [] = omega arith
taken_off f q (x ∷ xs) = omega (arith, taken_off f (q - f x) xs)
