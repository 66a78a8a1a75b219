-- The law of the auction price. Assumes nothing.
use Rattle.std.proofs.Common.{◌≡◌, ℕ, zero, suc, ◌+◌, ◌-◌, ◌<◌, ◌≤◌, Bool, true, false, cond, not, ◌&&◌, ltb, leb, ◌⊎◌, List, [], ◌∷◌, pos, negsuc, ◌-ℤ◌, nat_abs, Some, None, filter, Option, sym, refl, subst, inl, inr, ⊎_elim, arith}
use Rattle.std.proofs.lemmas.Bool.{true≢false, and_parts, and_cases, cases_lt, ltb-true, ltb-false, leb-true, eqb-true, eqb-false, lt-ltb, le-leb, cond_both}
use Rattle.std.proofs.lemmas.Bool.Decides.{nat_tests}
use Rattle.words.specs.declared.orders.Order.{Order}
use Rattle.words.specs.declared.terms.Terms.{Terms}
use Rattle.words.specs.declared.terms.Terms.TheVariants.{Limit, Market, MarketToLimit}
use Rattle.words.specs.declared.sides.Side.{Side}
use Rattle.words.specs.declared.sides.Side.TheVariants.{Buy, Sell}
use Rattle.words.specs.declared.terms.Condition.{Condition}
use Rattle.words.specs.Terms.{may_trade}
use Rattle.ranking.specs.Lists.{In, total, each}
use Rattle.pricing.specs.Sides.{Sides, can_trade, demand, supply, volume, gap, positive, negative, balanced, limits, limits_of}
use Rattle.pricing.specs.Price.{largest, highest, lowest, none, candidates, nearest, chosen, market_only, price_of, auction_price}
use Rattle.pricing.specs.Outcomes.{outcome_at}
use Rattle.pricing.specs.Laws.{Placed, LawOfPrice}
use Rattle.ranking.proofs.Lists.{in_left, in_right, in_kept, kept_in, each_in, each_from, each_not, has_top, total_le}
use Rattle.pricing.proofs.Extremes.{highest_in, lowest_in, highest_over, lowest_under}

-- ---- demand falls with the price, supply rises

pub buy_falls : (t : Terms) (n p q : ℕ) → p ≤ q → cond (may_trade Buy q t) n 0 ≤ cond (may_trade Buy p t) n 0
buy_falls (Limit l) n p q h = grind (arith, nat_tests)
buy_falls Market n p q h = omega arith
buy_falls MarketToLimit n p q h = omega arith

pub sell_rises : (t : Terms) (n p q : ℕ) → p ≤ q → cond (may_trade Sell p t) n 0 ≤ cond (may_trade Sell q t) n 0
sell_rises (Limit l) n p q h = grind (arith, nat_tests)
sell_rises Market n p q h = omega arith
sell_rises MarketToLimit n p q h = omega arith

pub demand_falls : (b : Sides) (p q : ℕ) → p ≤ q → demand b q ≤ demand b p
demand_falls b p q h = total_le _ _ b.buys (λ o m. buy_falls o.terms o.quantity p q h)

pub supply_rises : (b : Sides) (p q : ℕ) → p ≤ q → supply b p ≤ supply b q
supply_rises b p q h = total_le _ _ b.sells (λ o m. sell_rises o.terms o.quantity p q h)

-- ---- what a candidate is

abbrev ExecutesMost : Sides → ℕ → Type 0
ExecutesMost s p = (l : ℕ) → In l (limits s) → volume s l ≤ volume s p

abbrev LeastSurplus : Sides → ℕ → Type 0
LeastSurplus s p = (l : ℕ) → In l (limits s) → volume s l ≡ volume s p → gap s p ≤ gap s l

pub record Best (b : Sides) (c : ℕ) : Type 0 where
  pub stands : In c (limits b)
  pub some : 0 < volume b c
  pub most : ExecutesMost b c
  pub least : LeastSurplus b c

-- what a price found is
record Good (b : Sides) (reference p : ℕ) : Type 0 where
  pub most : ExecutesMost b p
  pub least : LeastSurplus b p
  pub placed : Placed b reference p

good : (b : Sides) (reference c : ℕ) → Best b c → Good b reference c
good b reference c h = record { most = h.most; least = h.least; placed = inl h.stands }

-- the nearest price is one of the ends, or the reference between them
nearest_is : (low high reference : ℕ) → low ≤ high → (nearest low high reference ≡ low) ⊎ ((nearest low high reference ≡ high) ⊎ (nearest low high reference ≡ reference))
nearest_is low high reference h =
    ⊎_elim (λ k. inl (omega arith)) (λ k. ⊎_elim (λ j. inr (inl (omega arith))) (λ j. inr (inr (omega arith))) (cases_lt high reference)) (cases_lt reference low)

abbrev traded : Sides → List ℕ
traded b = filter (λ p. ltb 0 (volume b p)) (limits b)

pub candidate_best : (b : Sides) (c : ℕ) → In c (candidates b) → Best b c
candidate_best b c m =
    let ps = traded b in
    let third = kept_in (λ p. each (λ q. leb (gap b p) (gap b q)) (largest (volume b) ps)) (largest (volume b) ps) c m in
    let second = kept_in (λ p. each (λ q. leb (volume b q) (volume b p)) ps) ps c third.0 in
    let first = kept_in (λ p. ltb 0 (volume b p)) (limits b) c second.0 in
    let some = ltb-true _ _ first.1 in
    let over = each_in (λ q. leb (volume b q) (volume b c)) ps second.1 in
    let under = each_in (λ q. leb (gap b c) (gap b q)) (largest (volume b) ps) third.1 in
    record {
      stands = first.0;
      some = some;
      most = λ l h. ⊎_elim (λ k. leb-true _ _ (over l (in_kept _ (limits b) l h (lt-ltb _ _ k)))) (λ k. omega arith) (cases_lt 0 (volume b l));
      least = λ l h e.
          let here : In l ps = in_kept _ (limits b) l h (lt-ltb _ _ (omega arith)) in
          let too : In l (largest (volume b) ps) = in_kept _ ps l here (each_from _ ps (λ q k. le-leb _ _ (omega (arith, leb-true _ _ (over q k))))) in
          leb-true _ _ (under l too);
    }

-- where a limit price executes something, there is a candidate
pub has_candidate : (b : Sides) (l : ℕ) → In l (limits b) → 0 < volume b l → (c : ℕ) × In c (candidates b)
has_candidate b l m h =
    let ps = traded b in
    let t = has_top (λ x y. x ≤ y) (λ x y. ⊎_elim (λ k. inl (omega arith)) (λ k. inr k) (cases_lt x y)) (λ x y z f g. omega arith) (volume b) l ps (in_kept _ (limits b) l m (lt-ltb _ _ h)) in
    let top = in_kept (λ p. each (λ q. leb (volume b q) (volume b p)) ps) ps t.0 t.1 (each_from _ ps (λ q k. le-leb _ _ (t.2 q k))) in
    let ls = largest (volume b) ps in
    let s = has_top (λ x y. y ≤ x) (λ x y. ⊎_elim (λ k. inr (omega arith)) (λ k. inl k) (cases_lt x y)) (λ x y z f g. omega arith) (gap b) t.0 ls top in
    (s.0, in_kept (λ p. each (λ q. leb (gap b p) (gap b q)) ls) ls s.0 s.1 (each_from _ ls (λ q k. le-leb _ _ (s.2 q k))))

-- ---- a price between two candidates

same_volume : (b : Sides) (c d : ℕ) → Best b c → Best b d → volume b c ≡ volume b d
same_volume b c d h k = omega (arith, h.most d k.stands, k.most c h.stands)

pub same_gap : (b : Sides) (c d : ℕ) → Best b c → Best b d → gap b c ≡ gap b d
same_gap b c d h k =
    let e = same_volume b c d h k in
    omega (arith, h.least d k.stands (sym e), k.least c h.stands e)

-- the price between two candidates, the lower with no shortage of demand, the upper with no shortage of supply
between : (b : Sides) (reference low high : ℕ) → Best b low → Best b high → supply b low ≤ demand b low → demand b high ≤ supply b high → low ≤ high → Good b reference (nearest low high reference)
between b reference low high h k up down ordered =
    let x = nearest low high reference in
    let le : low ≤ x = omega arith in
    let ge : x ≤ high = omega arith in
    let v = same_volume b low high h k in
    let g = same_gap b low high h k in
    let d1 = demand_falls b low x le in
    let d2 = demand_falls b x high ge in
    let s1 = supply_rises b low x le in
    let s2 = supply_rises b x high ge in
    record {
      most = λ l m. omega (arith, h.most l m);
      least = λ l m e.
          let same : volume b l ≡ volume b low = omega (arith, h.most l m) in
          omega (arith, h.least l m same);
      placed =
          ⊎_elim (λ e. inl (subst (λ z. In z (limits b)) (sym e) h.stands))
          (λ r. ⊎_elim (λ e. inl (subst (λ z. In z (limits b)) (sym e) k.stands))
          (λ e. inr (inl (record { low = low; high = high; low_stands = h.stands; high_stands = k.stands; above = le; below = ge }, e))) r)
          (nearest_is low high reference ordered);
    }

-- ---- the price that is chosen of candidates

-- of some that pass a test, the highest and the lowest pass it
highest_kept : (t : ℕ → Bool) (cs : List ℕ) (c : ℕ) → In c cs → t c ≡ true → In (highest (filter t cs)) cs × (t (highest (filter t cs)) ≡ true)
highest_kept t cs c m h = kept_in t cs (highest (filter t cs)) (go (filter t cs) (in_kept t cs c m h))
  where
    go : (ks : List ℕ) → In c ks → In (highest ks) ks
    go [] n = absurd n
    go (k ∷ ks) n = highest_in k ks

lowest_kept : (t : ℕ → Bool) (cs : List ℕ) (c : ℕ) → In c cs → t c ≡ true → In (lowest (filter t cs)) cs × (t (lowest (filter t cs)) ≡ true)
lowest_kept t cs c m h = kept_in t cs (lowest (filter t cs)) (go (filter t cs) (in_kept t cs c m h))
  where
    go : (ks : List ℕ) → In c ks → In (lowest ks) ks
    go [] n = absurd n
    go (k ∷ ks) n = lowest_in k ks

module _ (b : Sides) (reference c : ℕ) (cs : List ℕ) (all : (x : ℕ) → In x (c ∷ cs) → Best b x) where
  -- where not all are balanced, not all positive and not all negative, both signs occur
  pub both_signs : each (balanced b) (c ∷ cs) ≡ false → each (positive b) (c ∷ cs) ≡ false → each (negative b) (c ∷ cs) ≡ false
      → ((x : ℕ) × In x (c ∷ cs) × (positive b x ≡ true)) × ((x : ℕ) × In x (c ∷ cs) × (negative b x ≡ true))
  both_signs e np nn =
      let u = each_not (balanced b) (c ∷ cs) e in
      let p = each_not (positive b) (c ∷ cs) np in
      let n = each_not (negative b) (c ∷ cs) nn in
      let gp = same_gap b u.0 p.0 (all _ u.1) (all _ p.1) in
      let gn = same_gap b u.0 n.0 (all _ u.1) (all _ n.1) in
      let apart = eqb-false _ _ u.2 in
      let pf = ltb-false _ _ p.2 in
      let nf = ltb-false _ _ n.2 in
      ((n.0, n.1, lt-ltb _ _ (grind arith)), (p.0, p.1, lt-ltb _ _ (grind arith)))

  ends : (v : Bool) → each (balanced b) (c ∷ cs) ≡ v → each (positive b) (c ∷ cs) ≡ false → each (negative b) (c ∷ cs) ≡ false
      → Good b reference (nearest (cond v (lowest (c ∷ cs)) (highest (filter (positive b) (c ∷ cs)))) (cond v (highest (c ∷ cs)) (lowest (filter (negative b) (c ∷ cs)))) reference)
  ends true e np nn =
      let lo = lowest_in c cs in
      let hi = highest_in c cs in
      between b reference _ _ (all _ lo) (all _ hi)
      (omega (arith, eqb-true _ _ (each_in (balanced b) (c ∷ cs) e _ lo))) (omega (arith, eqb-true _ _ (each_in (balanced b) (c ∷ cs) e _ hi)))
      (omega (arith, lowest_under c cs, highest_over c cs))
  ends false e np nn =
      let two = both_signs e np nn in
      let lo = highest_kept (positive b) (c ∷ cs) two.0.0 two.0.1 two.0.2 in
      let hi = lowest_kept (negative b) (c ∷ cs) two.1.0 two.1.1 two.1.2 in
      let l = highest (filter (positive b) (c ∷ cs)) in
      let h = lowest (filter (negative b) (c ∷ cs)) in
      let ld = ltb-true (supply b l) (demand b l) lo.1 in
      let hd = ltb-true (demand b h) (supply b h) hi.1 in
      let ordered : l ≤ h = ⊎_elim (λ k. omega arith) (λ k. omega (arith, demand_falls b h l k, supply_rises b h l k)) (cases_lt l h) in
      between b reference l h (all l lo.0) (all h hi.0) (omega arith) (omega arith) ordered

  chosen_good : Good b reference (chosen b reference (c ∷ cs))
  chosen_good =
      cond_both (each (positive b) (c ∷ cs)) _ _ (Good b reference) (λ _. good b reference _ (all _ (highest_in c cs)))
      (λ np. cond_both (each (negative b) (c ∷ cs)) _ _ (Good b reference) (λ _. good b reference _ (all _ (lowest_in c cs)))
      (λ nn. ends (each (balanced b) (c ∷ cs)) refl np nn))

no_limits : (xs : List ℕ) → none xs ≡ true → (l : ℕ) → In l xs → ⊥
no_limits [] e l m = m
no_limits (x ∷ xs) e l m = true≢false (sym e)

-- the price of a list of candidates
found : (b : Sides) (reference p : ℕ) (cs : List ℕ) → ((x : ℕ) → In x cs → Best b x) → price_of b reference cs ≡ Some p → Good b reference p
found b reference p [] all e = go (market_only b) refl e
  where
    go : (u : Bool) → market_only b ≡ u → cond u (Some reference) None ≡ Some p → Good b reference p
    go true k e =
        let empty = no_limits (limits b) (and_parts (none (limits b)) _ k).0 in
        let same : p ≡ reference = cc in
        record { most = λ l m. absurd (empty l m); least = λ l m f. absurd (empty l m); placed = inr (inr (empty, same)) }
    go false k e = let z : ◌≡◌ {A = ℕ} 0 1 = cc in absurd (omega arith)
found b reference p (c ∷ cs) all e =
    let same : chosen b reference (c ∷ cs) ≡ p = cc in
    subst (Good b reference) same (chosen_good b reference c cs all)

price_good : (b : Sides) (reference p : ℕ) → auction_price b reference ≡ Some p → Good b reference p
price_good b reference p e = found b reference p (candidates b) (candidate_best b) e

-- ---- no price executes more than every limit price

abbrev bids : List Order → ℕ → ℕ
bids os p = total (λ o. cond (can_trade Buy p o) o.quantity 0) os

abbrev asks : List Order → ℕ → ℕ
asks os p = total (λ o. cond (can_trade Sell p o) o.quantity 0) os

bids_fall : (os : List Order) (p q : ℕ) → p ≤ q → bids os q ≤ bids os p
bids_fall os p q h = demand_falls (record { buys = os; sells = [] }) p q h

asks_rise : (os : List Order) (p q : ℕ) → p ≤ q → asks os p ≤ asks os q
asks_rise os p q h = supply_rises (record { buys = []; sells = os }) p q h

-- a limit at or above the price at which as much is bought, or else as much is bought at every price
abbrev Above : List Order → ℕ → Type 0
Above os p = ((l : ℕ) × In l (limits_of os) × (p ≤ l) × (bids os p ≤ bids os l)) ⊎ ((q : ℕ) → bids os p ≤ bids os q)

abbrev Below : List Order → ℕ → Type 0
Below os p = ((l : ℕ) × In l (limits_of os) × (l ≤ p) × (asks os p ≤ asks os l)) ⊎ ((q : ℕ) → asks os p ≤ asks os q)

above_step : (t : Terms) (x : Side) (k : Condition) (n m : ℕ) (os : List Order) (p : ℕ) → Above os p → Above (record { number = m; side = x; terms = t; condition = k; quantity = n } ∷ os) p
above_step Market x w n m os p (inl h) = inl (h.0, h.1, h.2, omega (arith, h.3))
above_step Market x w n m os p (inr h) = inr (λ q. omega (arith, h q))
above_step MarketToLimit x w n m os p (inl h) = inl (h.0, h.1, h.2, omega (arith, h.3))
above_step MarketToLimit x w n m os p (inr h) = inr (λ q. omega (arith, h q))
above_step (Limit l) x w n m os p (inr h) =
    ⊎_elim (λ k. inr (λ q. let i = h q in grind (arith, nat_tests))) (λ k. inl (l, inl refl, k, (let i = h l in grind (arith, nat_tests)))) (cases_lt l p)
above_step (Limit l) x w n m os p (inl h) =
    ⊎_elim (λ k. inl (h.0, inr h.1, h.2, (let i = h.3 in grind (arith, nat_tests))))
    (λ k. ⊎_elim (λ j. inl (l, inl refl, k, (let i = h.3 in let f = bids_fall os l h.0 (omega arith) in grind (arith, nat_tests))))
    (λ j. inl (h.0, inr h.1, h.2, (let i = h.3 in grind (arith, nat_tests)))) (cases_lt l h.0))
    (cases_lt l p)

above : (os : List Order) (p : ℕ) → Above os p
above [] p = inr (λ q. omega arith)
above (o ∷ os) p = above_step o.terms o.side o.condition o.quantity o.number os p (above os p)

below_step : (t : Terms) (x : Side) (k : Condition) (n m : ℕ) (os : List Order) (p : ℕ) → Below os p → Below (record { number = m; side = x; terms = t; condition = k; quantity = n } ∷ os) p
below_step Market x w n m os p (inl h) = inl (h.0, h.1, h.2, omega (arith, h.3))
below_step Market x w n m os p (inr h) = inr (λ q. omega (arith, h q))
below_step MarketToLimit x w n m os p (inl h) = inl (h.0, h.1, h.2, omega (arith, h.3))
below_step MarketToLimit x w n m os p (inr h) = inr (λ q. omega (arith, h q))
below_step (Limit l) x w n m os p (inr h) =
    ⊎_elim (λ k. inr (λ q. let i = h q in grind (arith, nat_tests))) (λ k. inl (l, inl refl, k, (let i = h l in grind (arith, nat_tests)))) (cases_lt p l)
below_step (Limit l) x w n m os p (inl h) =
    ⊎_elim (λ k. inl (h.0, inr h.1, h.2, (let i = h.3 in grind (arith, nat_tests))))
    (λ k. ⊎_elim (λ j. inl (l, inl refl, k, (let i = h.3 in let f = asks_rise os h.0 l (omega arith) in grind (arith, nat_tests))))
    (λ j. inl (h.0, inr h.1, h.2, (let i = h.3 in grind (arith, nat_tests)))) (cases_lt h.0 l))
    (cases_lt p l)

below : (os : List Order) (p : ℕ) → Below os p
below [] p = inr (λ q. omega arith)
below (o ∷ os) p = below_step o.terms o.side o.condition o.quantity o.number os p (below os p)

abbrev Matched : Sides → ℕ → Type 0
Matched b p = ((l : ℕ) × In l (limits b) × (volume b p ≤ volume b l)) ⊎ ((q : ℕ) → volume b p ≤ volume b q)

matched : (b : Sides) (p : ℕ) → Matched b p
matched b p = go (above b.buys p) (below b.sells p)
  where
    go : Above b.buys p → Below b.sells p → Matched b p
    go (inl h) k = inl (h.0, in_left (limits_of b.buys) (limits_of b.sells) h.0 h.1, omega (arith, h.3, supply_rises b p h.0 h.2))
    go (inr h) (inl k) = inl (k.0, in_right (limits_of b.buys) (limits_of b.sells) k.0 k.1, omega (arith, h k.0, k.3))
    go (inr h) (inr k) = inr (λ q. omega (arith, h q, k q))

-- what executes most of the limit prices executes most of all prices
most_of_all : (b : Sides) (p : ℕ) → ExecutesMost b p → (q : ℕ) → volume b q ≤ volume b p
most_of_all b p h q = ⊎_elim (λ k. omega (arith, k.2, h k.0 k.1)) (λ k. k p) (matched b q)

-- ---- where none is found

nothing : (xs : List Order) (f : Order → ℕ) → not (none xs) ≡ false → total f xs ≡ 0
nothing [] f e = refl
nothing (x ∷ xs) f e = absurd (true≢false e)

no_candidate : (b : Sides) (reference : ℕ) (cs : List ℕ) → price_of b reference cs ≡ None → (market_only b ≡ false) × ((c : ℕ) → In c cs → ⊥)
no_candidate b reference [] e = (go (market_only b) e, λ c m. m)
  where
    go : (u : Bool) → cond u (Some reference) None ≡ None → u ≡ false
    go true e = let z : ◌≡◌ {A = ℕ} 0 1 = cc in absurd (omega arith)
    go false e = refl
no_candidate b reference (c ∷ cs) e = let z : ◌≡◌ {A = ℕ} 0 1 = cc in absurd (omega arith)

none_trades : (b : Sides) (reference : ℕ) → auction_price b reference ≡ None → (q : ℕ) → volume b q ≡ 0
none_trades b reference e q = by (matched b q)
  where
    facts : (market_only b ≡ false) × ((c : ℕ) → In c (candidates b) → ⊥)
    facts = no_candidate b reference (candidates b) e

    limit_none : (l : ℕ) → In l (limits b) → volume b l ≡ 0
    limit_none l m = ⊎_elim (λ h. absurd (let c = has_candidate b l m h in facts.1 c.0 c.1)) (λ h. omega arith) (cases_lt 0 (volume b l))

    one_side : (not (none b.buys) ≡ false) ⊎ (not (none b.sells) ≡ false) → volume b q ≡ 0
    one_side (inl h) = omega (arith, nothing b.buys (λ o. cond (can_trade Buy q o) o.quantity 0) h)
    one_side (inr h) = omega (arith, nothing b.sells (λ o. cond (can_trade Sell q o) o.quantity 0) h)

    anywhere : (ls : List ℕ) → ((l : ℕ) → In l ls → volume b l ≡ 0) → (none ls && (not (none b.buys) && not (none b.sells))) ≡ false → ((r : ℕ) → volume b q ≤ volume b r) → volume b q ≡ 0
    anywhere [] h u k = one_side (and_cases (not (none b.buys)) (not (none b.sells)) u)
    anywhere (l ∷ ls) h u k = omega (arith, k l, h l (inl refl))

    by : Matched b q → volume b q ≡ 0
    by (inl h) = omega (arith, h.2, limit_none h.0 h.1)
    by (inr h) = anywhere (limits b) limit_none facts.0 h

-- ---- the law

-- the size of the surplus
pub gap_is : (d s : ℕ) → nat_abs (pos d -ℤ pos s) ≡ (d - s) + (s - d)
gap_is d zero = omega arith
gap_is d (suc s) =
    cond_both (ltb d (suc s)) (negsuc (suc s - suc d)) (pos (d - suc s)) (λ z. nat_abs z ≡ (d - suc s) + (suc s - d))
    (λ e. omega (arith, ltb-true _ _ e)) (λ e. omega (arith, ltb-false _ _ e))

pub law_of_price : (b : Sides) (reference : ℕ) (r : Option ℕ) → auction_price b reference ≡ r → LawOfPrice b reference r
law_of_price b reference None e = none_trades b reference e
law_of_price b reference (Some p) e =
    let g = price_good b reference p e in
    record {
      executes_most = g.most;
      most_of_all = most_of_all b p g.most;
      least_surplus = λ l m same. omega (arith, gap_is (demand b p) (supply b p), gap_is (demand b l) (supply b l), g.least l m same);
      placed = g.placed;
    }

-- what is replied of a price has that price
pub price_replied : (b : Sides) (r : Option ℕ) → (outcome_at b r).price ≡ r
price_replied b None = refl
price_replied b (Some p) = refl
