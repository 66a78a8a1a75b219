-- What a walk in pairs gives each order. Assumes nothing.
use Rattle.std.proofs.Common.{◌≡◌, ℕ, zero, suc, ◌+◌, ◌-◌, ◌<◌, ◌≤◌, min, Bool, true, false, cond, eqb, ltb, ◌⊎◌, List, [], ◌∷◌, map, length, sym, refl, ap, ◌∙◌, inl, inr, ⊎_elim, arith}
use Rattle.std.specs.List.{AllByRecursion}
use Rattle.std.proofs.lemmas.Bool.{cases_Bool, cases_lt, ltb-true, ltb-false, eq-eqb}
use Rattle.words.specs.declared.orders.Order.{Order}
use Rattle.words.specs.Orders.{lowered}
use Rattle.ranking.specs.Lists.{In, Earlier, total}
use Rattle.execution.specs.Laws.{count, Apart}
use Rattle.execution.specs.Shares.{share}
use Rattle.ranking.specs.Ranking.{InRank}
use Rattle.execution.specs.Execution.{Pair, less_first, walk, pairs}
use Rattle.ranking.proofs.Lists.{all_in, earlier_in}

abbrev pub held : List Order → ℕ
held xs = total (λ o. o.quantity) xs

-- what the pairs that name the number first add up to
abbrev pub paid : ℕ → List Pair → ℕ
paid n ts = total (λ t. cond (eqb t.one n) t.quantity 0) ts

share_zero : (n v : ℕ) (xs : List Order) → v ≡ 0 → share n v xs ≡ 0
share_zero n v [] e = refl
share_zero n v (x ∷ xs) e =
    let rest = share_zero n (v - x.quantity) xs (omega arith) in
    elim (eqb x.number n) as (λ b. cond b (min v x.quantity) 0 + share n (v - x.quantity) xs ≡ 0) [ true ↦ omega arith | false ↦ omega arith ]

-- ---- one step

held_less : (q : ℕ) (x : Order) (xs : List Order) → q ≤ x.quantity → held (less_first q x xs) + q ≡ held (x ∷ xs)
held_less q x xs h = go (ltb q x.quantity) refl
  where
    go : (b : Bool) → ltb q x.quantity ≡ b → held (cond b (lowered x q ∷ xs) xs) + q ≡ held (x ∷ xs)
    go true e = omega arith
    go false e = omega (arith, ltb-false _ _ e)

length_less : (q : ℕ) (x : Order) (xs : List Order) → (length (less_first q x xs) ≤ suc (length xs)) × (q ≡ x.quantity → length (less_first q x xs) ≤ length xs)
length_less q x xs = go (ltb q x.quantity) refl
  where
    go : (b : Bool) → ltb q x.quantity ≡ b → (length (cond b (lowered x q ∷ xs) xs) ≤ suc (length xs)) × (q ≡ x.quantity → length (cond b (lowered x q ∷ xs) xs) ≤ length xs)
    go true e = (omega arith, λ k. omega (arith, ltb-true _ _ e))
    go false e = (omega arith, λ k. omega arith)

share_less : (n v q : ℕ) (x : Order) (xs : List Order) → q ≤ v → q ≤ x.quantity → cond (eqb x.number n) q 0 + share n (v - q) (less_first q x xs) ≡ share n v (x ∷ xs)
share_less n v q x xs h k = go (ltb q x.quantity) refl
  where
    part : (b : Bool) → cond b q 0 + cond b (min (v - q) (x.quantity - q)) 0 ≡ cond b (min v x.quantity) 0
    part true = omega arith
    part false = omega arith

    whole : (b : Bool) → x.quantity ≤ q → cond b q 0 ≡ cond b (min v x.quantity) 0
    whole true e = omega arith
    whole false e = refl

    go : (b : Bool) → ltb q x.quantity ≡ b → cond (eqb x.number n) q 0 + share n (v - q) (cond b (lowered x q ∷ xs) xs) ≡ share n v (x ∷ xs)
    go true e =
        let left : (v - q) - (x.quantity - q) ≡ v - x.quantity = omega arith in
        omega (arith, part (eqb x.number n), ap (λ m. share n m xs) left)
    go false e =
        let le = ltb-false _ _ e in
        let left : v - q ≡ v - x.quantity = omega arith in
        omega (arith, whole (eqb x.number n) le, ap (λ m. share n m xs) left)

-- ---- the whole walk

-- the pairs add up to what the poorer side holds
pub walk_volume : (k : ℕ) (xs ys : List Order) → length xs + length ys ≤ k → total (λ t. t.quantity) (walk k xs ys) ≡ min (held xs) (held ys)
walk_volume zero [] ys h = omega arith
walk_volume zero (x ∷ xs) ys h = absurd (omega arith)
walk_volume (suc k) [] ys h = omega arith
walk_volume (suc k) (x ∷ xs) [] h = omega arith
walk_volume (suc k) (x ∷ xs) (y ∷ ys) h =
    let q = min x.quantity y.quantity in
    let lx = length_less q x xs in
    let ly = length_less q y ys in
    let fit : length (less_first q x xs) + length (less_first q y ys) ≤ k = ⊎_elim (λ (i : x.quantity < y.quantity). omega (arith, lx.1 (omega arith), ly.0)) (λ i. omega (arith, ly.1 (omega arith), lx.0)) (cases_lt x.quantity y.quantity) in
    omega (arith, walk_volume k (less_first q x xs) (less_first q y ys) fit, held_less q x xs (omega arith), held_less q y ys (omega arith))

-- and give each order of the first list its share
pub walk_share : (n k : ℕ) (xs ys : List Order) → length xs + length ys ≤ k → paid n (walk k xs ys) ≡ share n (min (held xs) (held ys)) xs
walk_share n zero [] ys h = refl
walk_share n zero (x ∷ xs) ys h = absurd (omega arith)
walk_share n (suc k) [] ys h = refl
walk_share n (suc k) (x ∷ xs) [] h = sym (share_zero n (min (held (x ∷ xs)) 0) (x ∷ xs) (omega arith))
walk_share n (suc k) (x ∷ xs) (y ∷ ys) h =
    let q = min x.quantity y.quantity in
    let lx = length_less q x xs in
    let ly = length_less q y ys in
    let fit : length (less_first q x xs) + length (less_first q y ys) ≤ k = ⊎_elim (λ (i : x.quantity < y.quantity). omega (arith, lx.1 (omega arith), ly.0)) (λ i. omega (arith, ly.1 (omega arith), lx.0)) (cases_lt x.quantity y.quantity) in
    let v = min (held (x ∷ xs)) (held (y ∷ ys)) in
    let left : min (held (less_first q x xs)) (held (less_first q y ys)) ≡ v - q = omega (arith, held_less q x xs (omega arith), held_less q y ys (omega arith)) in
    ap (λ m. cond (eqb x.number n) q 0 + m) (walk_share n k (less_first q x xs) (less_first q y ys) fit ∙ ap (λ m. share n m (less_first q x xs)) left)
    ∙ share_less n v q x xs (omega arith) (omega arith)

-- and there are fewer pairs than orders
pub walk_short : (k : ℕ) (xs ys : List Order) → length (walk k xs ys) ≤ (length xs + length ys) - 1
walk_short zero xs ys = omega arith
walk_short (suc k) [] ys = omega arith
walk_short (suc k) (x ∷ xs) [] = omega arith
walk_short (suc k) (x ∷ xs) (y ∷ ys) =
    let q = min x.quantity y.quantity in
    let lx = length_less q x xs in
    let ly = length_less q y ys in
    let fit : length (less_first q x xs) + length (less_first q y ys) ≤ suc (length xs + length ys) = ⊎_elim (λ (i : x.quantity < y.quantity). omega (arith, lx.1 (omega arith), ly.0)) (λ i. omega (arith, ly.1 (omega arith), lx.0)) (cases_lt x.quantity y.quantity) in
    omega (arith, walk_short k (less_first q x xs) (less_first q y ys))

-- ---- the other side

abbrev pub flip : Pair → Pair
flip t = record { one = t.other; other = t.one; quantity = t.quantity }

pub walk_flip : (k : ℕ) (xs ys : List Order) → walk k ys xs ≡ map flip (walk k xs ys)
walk_flip zero xs ys = refl
walk_flip (suc k) [] [] = refl
walk_flip (suc k) [] (y ∷ ys) = refl
walk_flip (suc k) (x ∷ xs) [] = refl
walk_flip (suc k) (x ∷ xs) (y ∷ ys) =
    let same : min y.quantity x.quantity ≡ min x.quantity y.quantity = omega arith in
    let step : (q : ℕ) → List Pair = λ q. record { one = y.number; other = x.number; quantity = q } ∷ walk k (less_first q y ys) (less_first q x xs) in
    let q = min x.quantity y.quantity in
    ap step same ∙ ap (λ l. record { one = y.number; other = x.number; quantity = q } ∷ l) (walk_flip k (less_first q x xs) (less_first q y ys))

-- ---- who is named

less_all : (Q : ℕ → Type 0) (q : ℕ) (x : Order) (xs : List Order) → Q x.number → AllByRecursion (λ o. Q o.number) xs → AllByRecursion (λ o. Q o.number) (less_first q x xs)
less_all Q q x xs h k = elim (ltb q x.quantity) as (λ b. AllByRecursion (λ o. Q o.number) (cond b (lowered x q ∷ xs) xs)) [ true ↦ (h, k) | false ↦ k ]

pub walk_names : (Q : ℕ → Type 0) (k : ℕ) (xs ys : List Order) → AllByRecursion (λ o. Q o.number) xs → AllByRecursion (λ t. Q t.one) (walk k xs ys)
walk_names Q zero xs ys h = tt
walk_names Q (suc k) [] ys h = tt
walk_names Q (suc k) (x ∷ xs) [] h = tt
walk_names Q (suc k) (x ∷ xs) (y ∷ ys) h =
    let q = min x.quantity y.quantity in
    (h.0, walk_names Q k (less_first q x xs) (less_first q y ys) (less_all Q q x xs h.0 h.1))

-- ---- shares, where no number stands twice

pub in_count : (o : Order) (xs : List Order) → In o xs → 1 ≤ count o.number xs
in_count o [] m = absurd m
in_count o (x ∷ xs) (inl e) = let same = eq-eqb x.number o.number (ap (λ z. z.number) (sym e)) in grind arith
in_count o (x ∷ xs) (inr m) = omega (arith, in_count o xs m)

pub absent : (n v : ℕ) (xs : List Order) → count n xs ≡ 0 → share n v xs ≡ 0
absent n v [] h = refl
absent n v (x ∷ xs) h = go (eqb x.number n) h
    (absent n (v - x.quantity) xs)
  where
    go : (b : Bool) → cond b 1 0 + count n xs ≡ 0 → (count n xs ≡ 0 → share n (v - x.quantity) xs ≡ 0) → cond b (min v x.quantity) 0 + share n (v - x.quantity) xs ≡ 0
    go true e r = absurd (omega arith)
    go false e r = omega (arith, r (omega arith))

pub apart_rest : (x : Order) (xs : List Order) → Apart (x ∷ xs) → Apart xs
apart_rest x xs h n = omega (arith, h n)

-- the first of the list
first_share : (v : ℕ) (o x : Order) (xs : List Order) → Apart (x ∷ xs) → o ≡ x → share o.number v (x ∷ xs) ≡ min v x.quantity
first_share v o x xs h e =
    let same = eq-eqb x.number o.number (ap (λ z. z.number) (sym e)) in
    let once : cond (eqb x.number o.number) 1 0 + count o.number xs ≤ 1 = h o.number in
    let none : count o.number xs ≡ 0 = grind arith in
    let rest = absent o.number (v - x.quantity) xs none in
    grind arith

-- one behind it
rest_share : (v : ℕ) (o x : Order) (xs : List Order) → Apart (x ∷ xs) → In o xs → share o.number v (x ∷ xs) ≡ share o.number (v - x.quantity) xs
rest_share v o x xs h m =
    let once : cond (eqb x.number o.number) 1 0 + count o.number xs ≤ 1 = h o.number in
    let some = in_count o xs m in
    elim (cases_Bool (eqb x.number o.number)) [ inl e ↦ absurd (grind arith) | inr e ↦ grind arith ]

pub share_within : (v : ℕ) (o : Order) (xs : List Order) → Apart xs → In o xs → share o.number v xs ≤ o.quantity
share_within v o [] h m = absurd m
share_within v o (x ∷ xs) h (inl e) = omega (arith, first_share v o x xs h e, ap (λ z. z.quantity) e)
share_within v o (x ∷ xs) h (inr m) = omega (arith, rest_share v o x xs h m, share_within (v - x.quantity) o xs (apart_rest x xs h) m)

-- who stands before one that got something is filled whole
pub share_ahead : (v : ℕ) (o y : Order) (xs : List Order) → Apart xs → Earlier o y xs → 0 < share y.number v xs → share o.number v xs ≡ o.quantity
share_ahead v o y [] h e k = absurd e
share_ahead v o y (x ∷ xs) h (inl e) k =
    let f = first_share v o x xs h e.0 in
    let r = rest_share v y x xs h e.1 in
    let q = ap (λ z. z.quantity) e.0 in
    ⊎_elim (λ (i : x.quantity < v). omega arith) (λ i. absurd (omega (arith, share_zero y.number (v - x.quantity) xs (omega arith)))) (cases_lt x.quantity v)
share_ahead v o y (x ∷ xs) h (inr e) k =
    let m = earlier_in o y xs e in
    let r = rest_share v y x xs h m.1 in
    rest_share v o x xs h m.0 ∙ share_ahead (v - x.quantity) o y xs (apart_rest x xs h) e (omega arith)

-- where the volume is enough for those that pass a test, and they stand in front, each of them is filled whole
pub share_whole : (before : Order → Order → Bool) (t : Order → Bool) → ((x y : Order) → before y x ≡ false → t y ≡ true → t x ≡ true)
    → (v : ℕ) (o : Order) (xs : List Order) → InRank before xs → Apart xs → In o xs → t o ≡ true → total (λ y. cond (t y) y.quantity 0) xs ≤ v → share o.number v xs ≡ o.quantity
share_whole before t front v o [] r h m p e = absurd m
share_whole before t front v o (x ∷ xs) r h (inl s) p e =
    let passed : t x ≡ true = ap t (sym s) ∙ p in
    let f = first_share v o x xs h s in
    let q = ap (λ z. z.quantity) s in
    grind arith
share_whole before t front v o (x ∷ xs) r h (inr m) p e =
    let passed : t x ≡ true = front x o (all_in (λ y. before y x ≡ false) xs r.0 o m) p in
    let enough : total (λ y. cond (t y) y.quantity 0) xs ≤ v - x.quantity = grind arith in
    rest_share v o x xs h m ∙ share_whole before t front (v - x.quantity) o xs r.1 (apart_rest x xs h) m p enough

-- ---- a loop that walks

walk_fuel : (k m : ℕ) (xs ys : List Order) → length xs + length ys ≤ k → length xs + length ys ≤ m → walk k xs ys ≡ walk m xs ys
walk_fuel zero zero xs ys h e = refl
walk_fuel zero (suc m) [] ys h e = refl
walk_fuel zero (suc m) (x ∷ xs) ys h e = absurd (omega arith)
walk_fuel (suc k) zero [] ys h e = refl
walk_fuel (suc k) zero (x ∷ xs) ys h e = absurd (omega arith)
walk_fuel (suc k) (suc m) [] ys h e = refl
walk_fuel (suc k) (suc m) (x ∷ xs) [] h e = refl
walk_fuel (suc k) (suc m) (x ∷ xs) (y ∷ ys) h e =
    let q = min x.quantity y.quantity in
    let lx = length_less q x xs in
    let ly = length_less q y ys in
    let fit : (length (less_first q x xs) + length (less_first q y ys)) < length (x ∷ xs) + length (y ∷ ys) = ⊎_elim (λ (i : x.quantity < y.quantity). omega (arith, lx.1 (omega arith), ly.0)) (λ i. omega (arith, ly.1 (omega arith), lx.0)) (cases_lt x.quantity y.quantity) in
    ap (λ ts. record { one = x.number; other = y.number; quantity = q } ∷ ts) (walk_fuel k m (less_first q x xs) (less_first q y ys) (omega arith) (omega arith))

pub pairs_none : (xs ys : List Order) → (xs ≡ []) ⊎ (ys ≡ []) → pairs xs ys ≡ []
pairs_none xs ys (inl e) = ap (λ l. pairs l ys) e ∙ none (length {A = Order} [] + length ys) ys
  where
    none : (k : ℕ) (ys : List Order) → walk k [] ys ≡ []
    none zero ys = refl
    none (suc k) ys = refl
pairs_none xs ys (inr e) = ap (λ l. pairs xs l) e ∙ none (length xs + length {A = Order} []) xs
  where
    none : (k : ℕ) (xs : List Order) → walk k xs [] ≡ []
    none zero xs = refl
    none (suc k) [] = refl
    none (suc k) (x ∷ xs) = refl

pub pairs_step : (x y : Order) (xs ys : List Order) (q : ℕ) → q ≡ min x.quantity y.quantity
    → pairs (x ∷ xs) (y ∷ ys) ≡ record { one = x.number; other = y.number; quantity = q } ∷ pairs (less_first q x xs) (less_first q y ys)
pairs_step x y xs ys q e =
    let r = min x.quantity y.quantity in
    let lx = length_less r x xs in
    let ly = length_less r y ys in
    let k = length xs + length (y ∷ ys) in
    let fit : length (less_first r x xs) + length (less_first r y ys) ≤ k = ⊎_elim (λ (i : x.quantity < y.quantity). omega (arith, lx.1 (omega arith), ly.0)) (λ i. omega (arith, ly.1 (omega arith), lx.0)) (cases_lt x.quantity y.quantity) in
    let step : (q : ℕ) → List Pair = λ q. record { one = x.number; other = y.number; quantity = q } ∷ pairs (less_first q x xs) (less_first q y ys) in
    walk_fuel (length (x ∷ xs) + length (y ∷ ys)) (suc k) (x ∷ xs) (y ∷ ys) (omega arith) (omega arith)
    ∙ ap (λ ts. record { one = x.number; other = y.number; quantity = r } ∷ ts) (walk_fuel k (length (less_first r x xs) + length (less_first r y ys)) (less_first r x xs) (less_first r y ys) fit (omega arith))
    ∙ ap step (sym e)
