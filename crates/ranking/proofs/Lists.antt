-- Members of lists, filters and totals. Assumes nothing.
use Rattle.std.proofs.Common.{◌≡◌, ℕ, ◌+◌, ◌<◌, ◌≤◌, Bool, true, false, cond, ◌&&◌, ◌⊎◌, List, [], ◌∷◌, ◌++◌, map, filter, sym, refl, ap, ◌∙◌, subst, ap₂, inl, inr, ⊎_elim, arith}
use Rattle.std.specs.List.{AllByRecursion}
use Rattle.std.proofs.lemmas.Bool.{true≢false, and_parts, and_from, and_cases}
use Rattle.ranking.specs.Lists.{In, Earlier, total, each}

module _ {X : Type 0} where
  pub in_left : (xs ys : List X) (x : X) → In x xs → In x (xs ++ ys)
  in_left [] ys x m = absurd m
  in_left (y ∷ xs) ys x (inl e) = inl e
  in_left (y ∷ xs) ys x (inr m) = inr (in_left xs ys x m)

  pub in_right : (xs ys : List X) (x : X) → In x ys → In x (xs ++ ys)
  in_right [] ys x m = m
  in_right (y ∷ xs) ys x m = inr (in_right xs ys x m)

  -- ---- filters

  pub in_kept : (t : X → Bool) (xs : List X) (x : X) → In x xs → t x ≡ true → In x (filter t xs)
  in_kept t [] x m h = m
  in_kept t (y ∷ ys) x (inl e) h = subst (λ b. In x (cond b (y ∷ filter t ys) (filter t ys))) (sym h ∙ ap t e) (inl e)
  in_kept t (y ∷ ys) x (inr m) h =
      elim (t y) as (λ b. In x (cond b (y ∷ filter t ys) (filter t ys))) [ true ↦ inr (in_kept t ys x m h) | false ↦ in_kept t ys x m h ]

  kept_step : (t : X → Bool) (y x : X) (ks ys : List X) (b : Bool) → t y ≡ b → (In x ks → In x ys × (t x ≡ true)) → In x (cond b (y ∷ ks) ks) → In x (y ∷ ys) × (t x ≡ true)
  kept_step t y x ks ys true e r (inl p) = (inl p, ap t p ∙ e)
  kept_step t y x ks ys true e r (inr m) = (inr (r m).0, (r m).1)
  kept_step t y x ks ys false e r m = (inr (r m).0, (r m).1)

  pub kept_in : (t : X → Bool) (xs : List X) (x : X) → In x (filter t xs) → In x xs × (t x ≡ true)
  kept_in t [] x m = absurd m
  kept_in t (y ∷ ys) x m = kept_step t y x (filter t ys) ys (t y) refl (kept_in t ys x) m

  -- ---- tests of each

  pub each_in : (t : X → Bool) (xs : List X) → each t xs ≡ true → (x : X) → In x xs → t x ≡ true
  each_in t [] h x m = absurd m
  each_in t (y ∷ ys) h x (inl e) = ap t e ∙ (and_parts _ _ h).0
  each_in t (y ∷ ys) h x (inr m) = each_in t ys (and_parts (t y) _ h).1 x m

  pub each_from : (t : X → Bool) (xs : List X) → ((x : X) → In x xs → t x ≡ true) → each t xs ≡ true
  each_from t [] h = refl
  each_from t (y ∷ ys) h = and_from _ _ (h y (inl refl)) (each_from t ys (λ x m. h x (inr m)))

  pub each_not : (t : X → Bool) (xs : List X) → each t xs ≡ false → (x : X) × In x xs × (t x ≡ false)
  each_not t [] h = absurd (true≢false h)
  each_not t (y ∷ ys) h =
      elim (and_cases (t y) (each t ys) h) [ inl e ↦ (y, inl refl, e) | inr e ↦ ((each_not t ys e).0, inr (each_not t ys e).1, (each_not t ys e).2) ]

  -- ---- one that is best by an order

  module _ (R : ℕ → ℕ → Type 0) (either : (a b : ℕ) → R a b ⊎ R b a) (chain : (a b c : ℕ) → R a b → R b c → R a c) (f : X → ℕ) where
    self : (a : ℕ) → R a a
    self a = ⊎_elim (λ h. h) (λ h. h) (either a a)

    Top : List X → Type 0
    Top xs = (q : X) × In q xs × ((r : X) → In r xs → R (f r) (f q))

    one_more : (p : X) (xs : List X) (q : X) → In q xs → ((r : X) → In r xs → R (f r) (f q)) → R (f p) (f q) ⊎ R (f q) (f p) → Top (p ∷ xs)
    unfolding Top
    one_more p xs q m h (inl e) = (q, inr m, go)
      where
        go : (r : X) → In r (p ∷ xs) → R (f r) (f q)
        go r (inl k) = subst (λ z. R (f z) (f q)) (sym k) e
        go r (inr k) = h r k
    one_more p xs q m h (inr e) = (p, inl refl, go)
      where
        go : (r : X) → In r (p ∷ xs) → R (f r) (f p)
        go r (inl k) = subst (λ z. R (f z) (f p)) (sym k) (self (f p))
        go r (inr k) = chain _ _ _ (h r k) e

    pub has_top : (x : X) (xs : List X) → In x xs → (q : X) × In q xs × ((r : X) → In r xs → R (f r) (f q))
    unfolding Top one_more
    has_top x [] m = absurd m
    has_top x (p ∷ []) m = (p, inl refl, go)
      where
        go : (r : X) → In r (p ∷ []) → R (f r) (f p)
        go r (inl k) = subst (λ z. R (f z) (f p)) (sym k) (self (f p))
        go r (inr k) = absurd k
    has_top x (p ∷ (y ∷ ys)) m =
        let t = has_top y (y ∷ ys) (inl refl) in
        one_more p (y ∷ ys) t.0 t.1 t.2 (either (f p) (f t.0))

-- ---- totals

pub total_le : {X : Type 0} (f g : X → ℕ) (xs : List X) → ((x : X) → In x xs → f x ≤ g x) → total f xs ≤ total g xs
total_le f g [] h = omega arith
total_le f g (x ∷ xs) h = omega (arith, h x (inl refl), total_le f g xs (λ y m. h y (inr m)))

pub total_lt : {X : Type 0} (f g : X → ℕ) (xs : List X) → ((x : X) → In x xs → f x ≤ g x) → (x : X) → In x xs → f x < g x → total f xs < total g xs
total_lt f g [] h x m k = absurd m
total_lt f g (y ∷ ys) h x (inl e) k = omega (arith, total_le f g ys (λ z m. h z (inr m)), subst (λ z. f z < g z) e k)
total_lt f g (y ∷ ys) h x (inr m) k = omega (arith, h y (inl refl), total_lt f g ys (λ z n. h z (inr n)) x m k)

pub total_map : {X Y : Type 0} (f : Y → ℕ) (g : X → Y) (xs : List X) → total f (map g xs) ≡ total (λ x. f (g x)) xs
total_map f g [] = refl
total_map f g (x ∷ xs) = ap (λ n. f (g x) + n) (total_map f g xs)

pub total_kept : {X : Type 0} (f : X → ℕ) (t : X → Bool) (xs : List X) → total f (filter t xs) ≡ total (λ x. cond (t x) (f x) 0) xs
total_kept f t [] = refl
total_kept f t (x ∷ xs) =
    elim (t x) as (λ b. total f (cond b (x ∷ filter t xs) (filter t xs)) ≡ cond b (f x) 0 + total (λ y. cond (t y) (f y) 0) xs)
    [ true ↦ omega (arith, total_kept f t xs) | false ↦ omega (arith, total_kept f t xs) ]

pub map_in : {X Y : Type 0} (f : X → Y) (xs : List X) (y : Y) → In y (map f xs) → (x : X) × In x xs × (y ≡ f x)
map_in f [] y m = absurd m
map_in f (x ∷ xs) y (inl e) = (x, inl refl, e)
map_in f (x ∷ xs) y (inr m) = let r = map_in f xs y m in (r.0, inr r.1, r.2)

pub in_map : {X Y : Type 0} (f : X → Y) (xs : List X) (x : X) → In x xs → In (f x) (map f xs)
in_map f [] x m = absurd m
in_map f (y ∷ ys) x (inl e) = inl (ap f e)
in_map f (y ∷ ys) x (inr m) = inr (in_map f ys x m)

pub all_in : {X : Type 0} (P : X → Type 0) (xs : List X) → AllByRecursion P xs → (x : X) → In x xs → P x
all_in P [] h x m = absurd m
all_in P (y ∷ ys) h x (inl e) = subst P (sym e) h.0
all_in P (y ∷ ys) h x (inr m) = all_in P ys h.1 x m

pub all_from : {X : Type 0} (P : X → Type 0) (xs : List X) → ((x : X) → In x xs → P x) → AllByRecursion P xs
all_from P [] h = tt
all_from P (y ∷ ys) h = (h y (inl refl), all_from P ys (λ x m. h x (inr m)))

-- ---- who stands earlier

module _ {X : Type 0} where
  pub earlier_in : (x y : X) (xs : List X) → Earlier x y xs → In x xs × In y xs
  earlier_in x y [] e = absurd e
  earlier_in x y (z ∷ zs) (inl e) = (inl e.0, inr e.1)
  earlier_in x y (z ∷ zs) (inr e) = let r = earlier_in x y zs e in (inr r.0, inr r.1)

  pub earlier_kept : (t : X → Bool) (x y : X) (xs : List X) → t x ≡ true → t y ≡ true → Earlier x y xs → Earlier x y (filter t xs)
  earlier_kept t x y [] h k e = e
  earlier_kept t x y (z ∷ zs) h k (inl e) = subst (λ b. Earlier x y (cond b (z ∷ filter t zs) (filter t zs))) (sym h ∙ ap t e.0) (inl (e.0, in_kept t zs y e.1 k))
  earlier_kept t x y (z ∷ zs) h k (inr e) =
      elim (t z) as (λ b. Earlier x y (cond b (z ∷ filter t zs) (filter t zs)))
      [ true ↦ inr (earlier_kept t x y zs h k e) | false ↦ earlier_kept t x y zs h k e ]

-- ---- filters that keep the same

module _ {X : Type 0} where
  pub kept_same : (t u : X → Bool) (xs : List X) → ((x : X) → In x xs → t x ≡ u x) → filter t xs ≡ filter u xs
  kept_same t u [] h = refl
  kept_same t u (x ∷ xs) h = ap₂ (λ b ks. cond b (x ∷ ks) ks) (h x (inl refl)) (kept_same t u xs (λ y m. h y (inr m)))

  pub kept_kept : (t u : X → Bool) (xs : List X) → filter t (filter u xs) ≡ filter (λ x. u x && t x) xs
  kept_kept t u [] = refl
  kept_kept t u (x ∷ xs) =
      elim (u x) as (λ b. filter t (cond b (x ∷ filter u xs) (filter u xs)) ≡ cond (b && t x) (x ∷ filter (λ y. u y && t y) xs) (filter (λ y. u y && t y) xs))
      [ true ↦ ap (λ ks. cond (t x) (x ∷ ks) ks) (kept_kept t u xs) | false ↦ kept_kept t u xs ]

  pub kept_all : (t : X → Bool) (xs : List X) → each t xs ≡ true → filter t xs ≡ xs
  kept_all t [] h = refl
  kept_all t (x ∷ xs) h = let p = and_parts (t x) (each t xs) h in ap₂ (λ b ks. cond b (x ∷ ks) ks) p.0 (kept_all t xs p.1)

  pub kept_none : (t : X → Bool) (xs : List X) → ((x : X) → In x xs → t x ≡ false) → filter t xs ≡ []
  kept_none t [] h = refl
  kept_none t (x ∷ xs) h = ap₂ (λ b ks. cond b (x ∷ ks) ks) (h x (inl refl)) (kept_none t xs (λ y m. h y (inr m)))

-- ---- a part

pub part_le : (b : Bool) (n : ℕ) → cond b n 0 ≤ n
part_le true n = omega arith
part_le false n = omega arith

pub under : (b : Bool) (n r : ℕ) → r ≡ cond b n 0 → r ≤ n
under b n r e = omega (arith, part_le b n)
