-- Two passes over the limits find the auction price. Assumes nothing.
use Rattle.std.proofs.Common.{◌≡◌, ℕ, ◌<◌, ◌≤◌, min, max, Bool, true, false, cond, ◌&&◌, ◌||◌, eqb, ltb, leb, ◌⊎◌, List, [], ◌∷◌, Some, None, fold, filter, Option, sym, refl, ap, ◌∙◌, subst, ap₂, inl, inr, ⊎_elim, arith}
use Rattle.std.specs.Bool.{then_some}
use Rattle.std.proofs.lemmas.Bool.{cases_Bool, cases_eq, ltb-true, leb-true, le-ltb, lt-ltb, le-leb, eq-eqb, ne_eqb, eqb-true}
use Rattle.std.specs.Bool.{then_some}
use Rattle.std.proofs.lemmas.Bool.Decides.{nat_tests}
use Rattle.pricing.specs.declared.passes.Merit.{Merit}
use Rattle.pricing.specs.declared.passes.Ends.{Ends}
use Rattle.ranking.specs.Lists.{In, each}
use Rattle.pricing.specs.Sides.{Sides, demand, supply, volume, gap, positive, negative, balanced, limits}
use Rattle.pricing.specs.Price.{largest, smallest, highest, lowest, highest_with, lowest_with, candidates, nearest, chosen, market_only, price_of, auction_price}
use Rattle.pricing.specs.Passes.{merit_of, better, best_from, or_higher, or_lower, as_good, widen, ends_from, from_balanced, from_ends, choice, nothing, no_ends}
use Rattle.ranking.proofs.Lists.{in_kept, kept_in, each_in, each_from, kept_same, kept_kept, kept_all, kept_none}
use Rattle.pricing.proofs.Prices.{Best, candidate_best, has_candidate, both_signs}

-- ---- the first pass

abbrev merit : Sides → ℕ → Merit
merit b p = merit_of (demand b p) (supply b p)

-- x does not do better than r
abbrev Le : Merit → Merit → Type 0
Le x r = (x.volume ≤ r.volume) × (x.volume ≡ r.volume → r.gap ≤ x.gap)

le_chain : (x y z : Merit) → Le x y → Le y z → Le x z
le_chain x y z h k = (omega arith, λ e. omega (arith, h.1 (omega arith), k.1 (omega arith)))

better_old : (y x : Merit) → Le y (better y x)
better_old y x = (grind (arith, nat_tests), λ e. grind (arith, nat_tests))

better_new : (y x : Merit) → Le x (better y x)
better_new y x = (grind (arith, nat_tests), λ e. grind (arith, nat_tests))

better_is : (y x : Merit) → (better y x ≡ y) ⊎ (better y x ≡ x)
better_is y x = elim (ltb y.volume x.volume || (eqb x.volume y.volume && ltb x.gap y.gap)) as (λ t. (cond t x y ≡ y) ⊎ (cond t x y ≡ x)) [ true ↦ inr refl | false ↦ inl refl ]

module _ (b : Sides) where
  best_start : (y : Merit) (ps : List ℕ) → Le y (best_from b y ps)
  best_start y [] = (omega arith, λ e. omega arith)
  best_start y (p ∷ ps) = le_chain y (better y (merit b p)) _ (better_old y (merit b p)) (best_start (better y (merit b p)) ps)

  best_each : (y : Merit) (ps : List ℕ) (p : ℕ) → In p ps → Le (merit b p) (best_from b y ps)
  best_each y [] p m = absurd m
  best_each y (q ∷ ps) p (inl e) =
      subst (λ z. Le (merit b z) (best_from b y (q ∷ ps))) (sym e) (le_chain (merit b q) (better y (merit b q)) _ (better_new y (merit b q)) (best_start (better y (merit b q)) ps))
  best_each y (q ∷ ps) p (inr m) = best_each (better y (merit b q)) ps p m

  best_one : (y : Merit) (ps : List ℕ) → (best_from b y ps ≡ y) ⊎ ((p : ℕ) × In p ps × (best_from b y ps ≡ merit b p))
  best_one y [] = inl refl
  best_one y (p ∷ ps) = go (better_is y (merit b p)) (best_one (better y (merit b p)) ps)
    where
      r : Merit
      r = best_from b (better y (merit b p)) ps

      go : (better y (merit b p) ≡ y) ⊎ (better y (merit b p) ≡ merit b p) → (r ≡ better y (merit b p)) ⊎ ((q : ℕ) × In q ps × (r ≡ merit b q)) → (r ≡ y) ⊎ ((q : ℕ) × In q (p ∷ ps) × (r ≡ merit b q))
      go (inl e) (inl f) = inl (f ∙ e)
      go (inr e) (inl f) = inr (p, inl refl, f ∙ e)
      go e (inr f) = inr (f.0, inr f.1, f.2)

-- ---- the candidates are those as good as the best

largest_is : (f : ℕ → ℕ) (v w : ℕ) (ps : List ℕ) → ((q : ℕ) → In q ps → f q ≤ v) → In w ps → f w ≡ v → largest f ps ≡ filter (λ p. eqb (f p) v) ps
largest_is f v w ps h m e = kept_same _ _ ps (λ p i. go p i (cases_eq (f p) v))
  where
    go : (p : ℕ) → In p ps → (f p ≡ v) ⊎ (f p ≡ v → ⊥) → each (λ q. leb (f q) (f p)) ps ≡ eqb (f p) v
    go p i (inl k) = each_from (λ q. leb (f q) (f p)) ps (λ q j. le-leb _ _ (omega (arith, h q j))) ∙ sym (eq-eqb _ _ k)
    go p i (inr k) =
        ⊎_elim (λ t. absurd (k (omega (arith, leb-true _ _ (each_in (λ q. leb (f q) (f p)) ps t w m), h p i)))) (λ t. t ∙ sym (ne_eqb _ _ k)) (cases_Bool (each (λ q. leb (f q) (f p)) ps))

smallest_is : (f : ℕ → ℕ) (v w : ℕ) (ps : List ℕ) → ((q : ℕ) → In q ps → v ≤ f q) → In w ps → f w ≡ v → smallest f ps ≡ filter (λ p. eqb (f p) v) ps
smallest_is f v w ps h m e = kept_same _ _ ps (λ p i. go p i (cases_eq (f p) v))
  where
    go : (p : ℕ) → In p ps → (f p ≡ v) ⊎ (f p ≡ v → ⊥) → each (λ q. leb (f p) (f q)) ps ≡ eqb (f p) v
    go p i (inl k) = each_from (λ q. leb (f p) (f q)) ps (λ q j. le-leb _ _ (omega (arith, h q j))) ∙ sym (eq-eqb _ _ k)
    go p i (inr k) =
        ⊎_elim (λ t. absurd (k (omega (arith, leb-true _ _ (each_in (λ q. leb (f p) (f q)) ps t w m), h p i)))) (λ t. t ∙ sym (ne_eqb _ _ k)) (cases_Bool (each (λ q. leb (f p) (f q)) ps))

abbrev good : Sides → Merit → ℕ → Bool
good b y p = as_good y (demand b p) (supply b p)

candidates_are : (b : Sides) (y : Merit) → 0 < y.volume → ((p : ℕ) → In p (limits b) → Le (merit b p) y) → (w : ℕ) → In w (limits b) → y ≡ merit b w → candidates b ≡ filter (good b y) (limits b)
candidates_are b y some h w m e =
    let v = y.volume in
    let ps = filter (λ p. ltb 0 (volume b p)) (limits b) in
    let ls = filter (λ p. eqb (volume b p) v) ps in
    let wv : volume b w ≡ v = ap (λ z. z.volume) (sym e) in
    let wg : gap b w ≡ y.gap = ap (λ z. z.gap) (sym e) in
    let wp : In w ps = in_kept (λ p. ltb 0 (volume b p)) (limits b) w m (lt-ltb _ _ (omega arith)) in
    let one : largest (volume b) ps ≡ ls = largest_is (volume b) v w ps (λ q i. (h q (kept_in (λ p. ltb 0 (volume b p)) (limits b) q i).0).0) wp wv in
    let two : smallest (gap b) ls ≡ filter (λ p. eqb (gap b p) y.gap) ls =
    smallest_is (gap b) y.gap w ls
    (λ q i. let j = kept_in (λ p. eqb (volume b p) v) ps q i in (h q (kept_in (λ p. ltb 0 (volume b p)) (limits b) q j.0).0).1 (eqb-true _ _ j.1))
    (in_kept (λ p. eqb (volume b p) v) ps w wp (eq-eqb _ _ wv)) wg in
    ap (smallest (gap b)) one ∙ two
    ∙ kept_kept (λ p. eqb (gap b p) y.gap) (λ p. eqb (volume b p) v) ps
    ∙ kept_kept (λ p. eqb (volume b p) v && eqb (gap b p) y.gap) (λ p. ltb 0 (volume b p)) (limits b)
    ∙ kept_same _ _ (limits b) (λ p i. drop_first (volume b p) v (eqb (gap b p) y.gap) some)
  where
    drop_first : (n v : ℕ) (t : Bool) → 0 < v → (ltb 0 n && (eqb n v && t)) ≡ (eqb n v && t)
    drop_first n v true h = grind (arith, nat_tests)
    drop_first n v false h = grind (arith, nat_tests)

-- ---- the second pass

abbrev top : List ℕ → Option ℕ
top [] = None
top (p ∷ ps) = Some (highest_with p ps)

abbrev bottom : List ℕ → Option ℕ
bottom [] = None
bottom (p ∷ ps) = Some (lowest_with p ps)

module _ (t : ℕ → Bool) where
  abbrev ups : Option ℕ → List ℕ → Option ℕ
  ups a ps = fold (λ x p. cond (t p) (or_higher x p) x) a ps

  abbrev downs : Option ℕ → List ℕ → Option ℕ
  downs a ps = fold (λ x p. cond (t p) (or_lower x p) x) a ps

  ups_some : (a : ℕ) (ps : List ℕ) → ups (Some a) ps ≡ Some (highest_with a (filter t ps))
  ups_some a [] = refl
  ups_some a (p ∷ ps) =
      elim (t p) as (λ v. ups (cond v (Some (max a p)) (Some a)) ps ≡ Some (highest_with a (cond v (p ∷ filter t ps) (filter t ps)))) [ true ↦ ups_some (max a p) ps | false ↦ ups_some a ps ]

  pub ups_none : (ps : List ℕ) → ups None ps ≡ top (filter t ps)
  ups_none [] = refl
  ups_none (p ∷ ps) = elim (t p) as (λ v. ups (cond v (Some p) None) ps ≡ top (cond v (p ∷ filter t ps) (filter t ps))) [ true ↦ ups_some p ps | false ↦ ups_none ps ]

  downs_some : (a : ℕ) (ps : List ℕ) → downs (Some a) ps ≡ Some (lowest_with a (filter t ps))
  downs_some a [] = refl
  downs_some a (p ∷ ps) =
      elim (t p) as (λ v. downs (cond v (Some (min a p)) (Some a)) ps ≡ Some (lowest_with a (cond v (p ∷ filter t ps) (filter t ps)))) [ true ↦ downs_some (min a p) ps | false ↦ downs_some a ps ]

  pub downs_none : (ps : List ℕ) → downs None ps ≡ bottom (filter t ps)
  downs_none [] = refl
  downs_none (p ∷ ps) = elim (t p) as (λ v. downs (cond v (Some p) None) ps ≡ bottom (cond v (p ∷ filter t ps) (filter t ps))) [ true ↦ downs_some p ps | false ↦ downs_none ps ]

module _ (b : Sides) (y : Merit) where
  above_is : (e : Ends) (ps : List ℕ) → (ends_from b y e ps).above ≡ ups (λ p. good b y p && positive b p) e.above ps
  above_is e [] = refl
  above_is e (p ∷ ps) = above_is (widen y e p (demand b p) (supply b p)) ps

  below_is : (e : Ends) (ps : List ℕ) → (ends_from b y e ps).below ≡ downs (λ p. good b y p && negative b p) e.below ps
  below_is e [] = refl
  below_is e (p ∷ ps) = below_is (widen y e p (demand b p) (supply b p)) ps

  low_is : (e : Ends) (ps : List ℕ) → (ends_from b y e ps).low ≡ downs (λ p. good b y p && balanced b p) e.low ps
  low_is e [] = refl
  low_is e (p ∷ ps) = low_is (widen y e p (demand b p) (supply b p)) ps

  high_is : (e : Ends) (ps : List ℕ) → (ends_from b y e ps).high ≡ ups (λ p. good b y p && balanced b p) e.high ps
  high_is e [] = refl
  high_is e (p ∷ ps) = high_is (widen y e p (demand b p) (supply b p)) ps

-- the choice from lists of positive, negative and balanced candidates
abbrev chosen_from : ℕ → List ℕ → List ℕ → List ℕ → Option ℕ
chosen_from reference us ds es = from_ends (top us) (bottom ds) (from_balanced (bottom es) (top es) reference) reference

ends_choice : (b : Sides) (y : Merit) (reference : ℕ) (ps : List ℕ)
    → choice (ends_from b y no_ends ps) reference ≡ chosen_from reference (filter (positive b) (filter (good b y) ps)) (filter (negative b) (filter (good b y) ps)) (filter (balanced b) (filter (good b y) ps))
ends_choice b y reference ps =
    let g = good b y in
    let a = above_is b y no_ends ps ∙ ups_none (λ p. g p && positive b p) ps ∙ ap top (sym (kept_kept (positive b) g ps)) in
    let d = below_is b y no_ends ps ∙ downs_none (λ p. g p && negative b p) ps ∙ ap bottom (sym (kept_kept (negative b) g ps)) in
    let l = low_is b y no_ends ps ∙ downs_none (λ p. g p && balanced b p) ps ∙ ap bottom (sym (kept_kept (balanced b) g ps)) in
    let h = high_is b y no_ends ps ∙ ups_none (λ p. g p && balanced b p) ps ∙ ap top (sym (kept_kept (balanced b) g ps)) in
    λ i. from_ends (a i) (d i) (from_balanced (l i) (h i) reference) reference

-- ---- that is the price chosen

top_some : (x : ℕ) (ks : List ℕ) → In x ks → top ks ≡ Some (highest ks)
top_some x [] m = absurd m
top_some x (k ∷ ks) m = refl

bottom_some : (x : ℕ) (ks : List ℕ) → In x ks → bottom ks ≡ Some (lowest ks)
bottom_some x [] m = absurd m
bottom_some x (k ∷ ks) m = refl

module _ (b : Sides) (reference c : ℕ) (cs : List ℕ) (all : (x : ℕ) → In x (c ∷ cs) → Best b x) where
  abbrev us : List ℕ
  us = filter (positive b) (c ∷ cs)

  abbrev ds : List ℕ
  ds = filter (negative b) (c ∷ cs)

  abbrev es : List ℕ
  es = filter (balanced b) (c ∷ cs)

  abbrev Goal : Bool → Bool → Bool → Type 0
  Goal vp vn ve = chosen_from reference us ds es ≡ Some (cond vp (highest (c ∷ cs)) (cond vn (lowest (c ∷ cs)) (nearest (cond ve (lowest (c ∷ cs)) (highest us)) (cond ve (highest (c ∷ cs)) (lowest ds)) reference)))

  go : (vp vn ve : Bool) → each (positive b) (c ∷ cs) ≡ vp → each (negative b) (c ∷ cs) ≡ vn → each (balanced b) (c ∷ cs) ≡ ve → Goal vp vn ve
  go true vn ve e f g =
      let u : us ≡ c ∷ cs = kept_all (positive b) (c ∷ cs) e in
      let d : ds ≡ [] = kept_none (negative b) (c ∷ cs) (λ x m. le-ltb _ _ (omega (arith, ltb-true _ _ (each_in (positive b) (c ∷ cs) e x m)))) in
      ap₂ (λ k l. chosen_from reference k l es) u d
  go false true ve e f g =
      let u : us ≡ [] = kept_none (positive b) (c ∷ cs) (λ x m. le-ltb _ _ (omega (arith, ltb-true _ _ (each_in (negative b) (c ∷ cs) f x m)))) in
      let d : ds ≡ c ∷ cs = kept_all (negative b) (c ∷ cs) f in
      ap₂ (λ k l. chosen_from reference k l es) u d
  go false false true e f g =
      let u : us ≡ [] = kept_none (positive b) (c ∷ cs) (λ x m. le-ltb _ _ (omega (arith, eqb-true _ _ (each_in (balanced b) (c ∷ cs) g x m)))) in
      let d : ds ≡ [] = kept_none (negative b) (c ∷ cs) (λ x m. le-ltb _ _ (omega (arith, eqb-true _ _ (each_in (balanced b) (c ∷ cs) g x m)))) in
      let v : es ≡ c ∷ cs = kept_all (balanced b) (c ∷ cs) g in
      ap₂ (λ k l. chosen_from reference k l es) u d ∙ ap (λ k. chosen_from reference [] [] k) v
  go false false false e f g =
      let two = both_signs b reference c cs all g e f in
      let u = top_some two.0.0 us (in_kept (positive b) (c ∷ cs) two.0.0 two.0.1 two.0.2) in
      let d = bottom_some two.1.0 ds (in_kept (negative b) (c ∷ cs) two.1.0 two.1.1 two.1.2) in
      ap₂ (λ k l. from_ends k l (from_balanced (bottom es) (top es) reference) reference) u d

  choice_chosen : chosen_from reference us ds es ≡ Some (chosen b reference (c ∷ cs))
  choice_chosen = go (each (positive b) (c ∷ cs)) (each (negative b) (c ∷ cs)) (each (balanced b) (c ∷ cs)) refl refl refl

-- ---- the two passes

with_candidates : (b : Sides) (reference x : ℕ) (cs : List ℕ) → ((x : ℕ) → In x cs → Best b x) → In x cs
    → chosen_from reference (filter (positive b) cs) (filter (negative b) cs) (filter (balanced b) cs) ≡ price_of b reference cs
with_candidates b reference x [] all m = absurd m
with_candidates b reference x (c ∷ cs) all m = choice_chosen b reference c cs all

pub passes_find : (b : Sides) (reference : ℕ) (y : Merit) → y ≡ best_from b nothing (limits b) → 0 < y.volume → choice (ends_from b y no_ends (limits b)) reference ≡ auction_price b reference
passes_find b reference y e h = ⊎_elim (λ k. absurd (omega (arith, ap (λ z. z.volume) (e ∙ k)))) found (best_one b nothing (limits b))
  where
    found : (p : ℕ) × In p (limits b) × (best_from b nothing (limits b) ≡ merit b p) → choice (ends_from b y no_ends (limits b)) reference ≡ auction_price b reference
    found k =
        let at : y ≡ merit b k.0 = e ∙ k.2 in
        let are = candidates_are b y h (λ p m. subst (Le (merit b p)) (sym e) (best_each b nothing (limits b) p m)) k.0 k.1 at in
        let some = has_candidate b k.0 k.1 (omega (arith, ap (λ z. z.volume) at)) in
        ends_choice b y reference (limits b)
        ∙ ap (λ cs. chosen_from reference (filter (positive b) cs) (filter (negative b) cs) (filter (balanced b) cs)) (sym are)
        ∙ with_candidates b reference some.0 (candidates b) (candidate_best b) some.1

empty_candidates : (b : Sides) (reference : ℕ) (cs : List ℕ) → ((c : ℕ) → In c cs → ⊥) → price_of b reference cs ≡ cond (market_only b) (Some reference) None
empty_candidates b reference [] h = refl
empty_candidates b reference (c ∷ cs) h = absurd (h c (inl refl))

pub passes_miss : (b : Sides) (reference : ℕ) (y : Merit) → y ≡ best_from b nothing (limits b) → y.volume ≡ 0 → cond (market_only b) (Some reference) None ≡ auction_price b reference
passes_miss b reference y e h =
    sym (empty_candidates b reference (candidates b) (λ c m.
    let k = candidate_best b c m in
    absurd (omega (arith, k.some, (best_each b nothing (limits b) c k.stands).0, ap (λ z. z.volume) e))))

pub then_some_is : {A : Type 0} (b : Bool) (x : A) → then_some b x ≡ cond b (Some x) None
then_some_is true x = refl
then_some_is false x = refl
