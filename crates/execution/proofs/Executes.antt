-- The laws of the execution at a price. Assumes nothing.
use Rattle.std.proofs.Common.{◌≡◌, ℕ, ◌+◌, ◌-◌, ◌<◌, ◌≤◌, min, true, cond, eqb, List, length, sym, refl, ap, ◌∙◌, subst, arith}
use lib.ListN.{length-map}
use Rattle.words.specs.declared.orders.Order.{Order}
use Rattle.words.specs.declared.sides.Side.{Side}
use Rattle.words.specs.declared.sides.Side.TheVariants.{Buy, Sell}
use Rattle.words.specs.declared.tape.Trade.{Trade}
use Rattle.words.specs.Orders.{lowered}
use Rattle.ranking.specs.Lists.{In, total}
use Rattle.ranking.proofs.Lists.{total_map, map_in, in_map, all_in, all_from}
use Rattle.pricing.specs.Sides.{Sides, can_trade, demand, supply, volume}
use Rattle.execution.specs.Execution.{ready, walk, pairs, line, executed}
use Rattle.execution.specs.Settling.{named_by, traded, after_trades}
use Rattle.execution.specs.Laws.{standing, Apart, Remainder, LawOfExecution}
use Rattle.execution.proofs.Sided.{same_order, ready_total, ready_short, ready_had, side_within, side_ahead}
use Rattle.execution.proofs.Settled.{settled_left, settled_same, settled_from}
use Rattle.execution.specs.Shares.{share}
use Rattle.execution.proofs.Walks.{held, paid, flip, walk_volume, walk_share, walk_flip, walk_names, walk_short}

module _ (s : Sides) (p : ℕ) where
  abbrev bs : List Order
  bs = ready Buy p s.buys

  abbrev ss : List Order
  ss = ready Sell p s.sells

  abbrev k : ℕ
  k = length bs + length ss

  abbrev ls : List Trade
  ls = executed s p

  held_bs : held bs ≡ demand s p
  held_bs = ready_total Buy p (λ o. o.quantity) s.buys

  held_ss : held ss ≡ supply s p
  held_ss = ready_total Sell p (λ o. o.quantity) s.sells

  adds : total (λ l. l.quantity) ls ≡ volume s p
  adds = omega (arith, total_map (λ l. l.quantity) (line p) (pairs bs ss), walk_volume k bs ss (omega arith), held_bs, held_ss)

  -- what the lines give a number is its share of the volume, taken down its side in rank
  pub traded_share : (x : Side) (n : ℕ) → traded x n ls ≡ share n (volume s p) (ready x p (standing x s))
  traded_share Buy n =
      let v : min (held bs) (held ss) ≡ volume s p = omega (arith, held_bs, held_ss) in
      total_map (λ l. cond (eqb l.buy n) l.quantity 0) (line p) (pairs bs ss) ∙ walk_share n k bs ss (omega arith) ∙ ap (λ m. share n m bs) v
  traded_share Sell n =
      let v : min (held ss) (held bs) ≡ volume s p = omega (arith, held_bs, held_ss) in
      total_map (λ l. cond (eqb l.sell n) l.quantity 0) (line p) (pairs bs ss)
      ∙ sym (total_map (λ t. cond (eqb t.one n) t.quantity 0) flip (walk k bs ss))
      ∙ ap (paid n) (sym (walk_flip k bs ss))
      ∙ walk_share n k ss bs (omega arith) ∙ ap (λ m. share n m ss) v

  -- whom the lines name
  abbrev Ready : Side → ℕ → Type 0
  Ready x n = (o : Order) × In o (ready x p (standing x s)) × (o.number ≡ n)

  ready_each : (x : Side) (o : Order) → In o (ready x p (standing x s)) → Ready x o.number
  ready_each x o m = (o, m, refl)

  names : (x : Side) (l : Trade) → In l ls → Ready x (named_by x l)
  names Buy l m =
      let t = map_in (line p) (pairs bs ss) l m in
      let r = all_in (λ t. Ready Buy t.one) (pairs bs ss) (walk_names (Ready Buy) k bs ss (all_from (λ o. Ready Buy o.number) bs (ready_each Buy))) t.0 t.1 in
      subst (Ready Buy) (sym (ap (λ z. z.buy) t.2)) r
  names Sell l m =
      let t = map_in (line p) (pairs bs ss) l m in
      let u = subst (In (flip t.0)) (sym (walk_flip k bs ss)) (in_map flip (pairs bs ss) t.0 t.1) in
      let r = all_in (λ t. Ready Sell t.one) (walk k ss bs) (walk_names (Ready Sell) k ss bs (all_from (λ o. Ready Sell o.number) ss (ready_each Sell))) (flip t.0) u in
      subst (Ready Sell) (sym (ap (λ z. z.sell) t.2)) r

  price_is : (l : Trade) → In l ls → l.price ≡ p
  price_is l m = ap (λ z. z.price) (map_in (line p) (pairs bs ss) l m).2

  apart_of : (x : Side) → Apart s.buys → Apart s.sells → Apart (standing x s)
  apart_of Buy h g = h
  apart_of Sell h g = g

  left_of : (x : Side) (o : Order) → In o (standing x s) → traded x o.number ls < o.quantity → In (lowered o (traded x o.number ls)) (standing x (after_trades ls s))
  left_of Buy o = settled_left Buy ls s.buys o
  left_of Sell o = settled_left Sell ls s.sells o

  same_of : (x : Side) (o : Order) → In o (standing x s) → 0 < o.quantity → traded x o.number ls ≡ 0 → In o (standing x (after_trades ls s))
  same_of Buy o = settled_same Buy ls s.buys o
  same_of Sell o = settled_same Sell ls s.sells o

  else_of : (x : Side) (o : Order) → In o (standing x (after_trades ls s)) → Remainder x s ls o
  else_of Buy o m = let r = settled_from Buy ls s.buys o m in record { was = r.0; stood = r.1; is = r.2; some = r.3 }
  else_of Sell o m = let r = settled_from Sell ls s.sells o m in record { was = r.0; stood = r.1; is = r.2; some = r.3 }

  pub short : length ls ≤ (length s.buys + length s.sells) - 1
  short = omega (arith, length-map (pairs bs ss) (line p), walk_short k bs ss, ready_short Buy p s.buys, ready_short Sell p s.sells)

  pub execution : LawOfExecution s p
  execution h g = record {
    adds_up = adds;
    at_the_price = price_is;
    traders = λ x l m.
        let r = names x l m in
        let o = ready_had x p r.0 (standing x s) r.1 in
        record { order = r.0; stood = o.0; named = r.2; can = subst (λ z. can_trade x z r.0 ≡ true) (sym (price_is l m)) o.1 };
    within_limits = λ x l o m n e.
        let r = names x l m in
        let t = ready_had x p r.0 (standing x s) r.1 in
        ap (can_trade x p) (same_order o r.0 (standing x s) (apart_of x h g) n t.0 (e ∙ sym r.2)) ∙ t.1;
    within_quantity = λ x o m. omega (arith, traded_share x o.number, side_within x p (volume s p) o (standing x s) (apart_of x h g) m);
    in_rank = λ x o q m n r t.
        let u : 0 < share q.number (volume s p) (ready x p (standing x s)) = omega (arith, traded_share x q.number) in
        traded_share x o.number ∙ side_ahead x p (volume s p) o q (standing x s) (apart_of x h g) m n r u;
    left = left_of;
    untouched = same_of;
    nothing_else = else_of;
    few_lines = short;
  }
