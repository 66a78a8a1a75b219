-- What keeps the sides of an auction sound, and that sound sides are few enough for every sum. Assumes nothing.
use Rattle.std.proofs.Common.{◌≡◌, ℕ, zero, suc, ◌+◌, ◌<◌, ◌≤◌, Bool, true, false, cond, eqb, ◌⊎◌, List, [], ◌∷◌, ◌++◌, map, length, get_or, is_some, Some, None, vec_items, vec_capacity, filter, Option, sym, refl, ap, ◌∙◌, subst, inl, inr, ⊎_elim, arith, length-append}
use lib.ListN.{length-map}
use Rattle.std.proofs.lemmas.Bool.{ne_eqb, cases_eq, true≢false}
use Rattle.words.specs.declared.orders.Order.{Order}
use Rattle.words.specs.declared.sides.Side.{Side}
use Rattle.words.specs.declared.sides.Side.TheVariants.{Buy, Sell}
use Rattle.words.specs.declared.tape.Trade.{Trade}
use Rattle.words.specs.Orders.{no_order}
use Rattle.ranking.specs.Lists.{In}
use Rattle.ranking.proofs.Lists.{total_le, total_map, total_kept, part_le}
use Rattle.pricing.specs.Passes.{Few}
use Rattle.pricing.specs.Price.{auction_price}
use Rattle.pricing.specs.Sides.{Sides}
use Rattle.execution.specs.Laws.{count, Apart, standing}
use Rattle.execution.specs.Settling.{left_by, stands, settled}
use Rattle.execution.proofs.Settled.{settled_from}
use Rattle.book.specs.declared.table.Book.{Book}
use Rattle.book.specs.Books.{joined_on, placed, emptied, standing_of, cap_of}
use Rattle.auction.specs.declared.held.Auction.{Auction}
use Rattle.book.specs.Striking.{after_at, after_strike}
use Rattle.auction.specs.Sound.{Sound}

-- ---- few enough

large_at : (os : List Order) → ((o : Order) → In o os → o.quantity ≤ 1000000) → (k : ℕ) → (get_or os k no_order).quantity ≤ 1000000
large_at [] h zero = omega arith
large_at [] h (suc k) = omega arith
large_at (o ∷ os) h zero = h o (inl refl)
large_at (o ∷ os) h (suc k) = large_at os (λ q m. h q (inr m)) k

in_append : {X : Type 0} (x y : X) (xs : List X) → In x (xs ++ y ∷ []) → In x xs ⊎ (x ≡ y)
in_append x y [] (inl e) = inr e
in_append x y [] (inr m) = absurd m
in_append x y (z ∷ zs) (inl e) = inl (inl e)
in_append x y (z ∷ zs) (inr m) = ⊎_elim (λ k. inl (inr k)) (λ e. inr e) (in_append x y zs m)

pub few : (last : ℕ) (os : List Order) → Sound last os → Few os
few last os h = record { many = omega (arith, h.0); large = large_at os h.1 }

large_more : (os : List Order) (o : Order) → ((q : Order) → In q os → q.quantity ≤ 1000000) → o.quantity ≤ 1000000 → (q : Order) → In q (os ++ o ∷ []) → q.quantity ≤ 1000000
large_more os o h k q m = ⊎_elim (h q) (λ e. omega (arith, ap (λ z. z.quantity) e)) (in_append q o os m)

pub few_more : (last : ℕ) (os : List Order) (o : Order) → Sound last os → o.quantity ≤ 1000000 → Few (os ++ o ∷ [])
few_more last os o h k = record { many = omega (arith, h.0, length-append os (o ∷ [])); large = large_at (os ++ o ∷ []) (large_more os o h.1 k) }

-- with one order more on either side
pub few_joined : (last : ℕ) (x : Side) (s : Sides) (o : Order) → Sound last s.buys → Sound last s.sells → o.quantity ≤ 1000000
    → Few (joined_on x s o).buys × Few (joined_on x s o).sells × (length (joined_on x s o).buys + length (joined_on x s o).sells ≤ 257)
few_joined last Buy s o h k q = (few_more last s.buys o h q, few last s.sells k, omega (arith, h.0, k.0, length-append s.buys (o ∷ [])))
few_joined last Sell s o h k q = (few last s.buys h, few_more last s.sells o k q, omega (arith, h.0, k.0, length-append s.sells (o ∷ [])))

-- ---- an order enters

count_append : (n : ℕ) (os : List Order) (o : Order) → count n (os ++ o ∷ []) ≡ count n os + cond (eqb o.number n) 1 0
count_append n [] o = omega arith
count_append n (q ∷ qs) o = omega (arith, count_append n qs o)

one_at_most : (b : Bool) → cond b 1 0 ≤ 1
one_at_most true = omega arith
one_at_most false = omega arith

not_this : (m n : ℕ) → (m ≡ n → ⊥) → cond (eqb m n) 1 0 ≤ 0
not_this m n h = grind (arith, ne_eqb m n h)

pub sound_entered : (last : ℕ) (os : List Order) (o : Order) → Sound last os → length os < 128 → o.number ≡ last + 1 → o.quantity ≤ 1000000 → Sound (last + 1) (os ++ o ∷ [])
sound_entered last os o h room new small = (
  omega (arith, length-append os (o ∷ [])),
  large_more os o h.1 small,
  λ n. ⊎_elim
      (λ (e : o.number ≡ n). omega (arith, count_append n os o, h.3 n (omega arith), one_at_most (eqb o.number n)))
      (λ e. omega (arith, count_append n os o, h.2 n, not_this o.number n e)) (cases_eq o.number n),
  λ n k. omega (arith, count_append n os o, h.3 n (omega arith), not_this o.number n (λ e. omega arith)),
  omega (arith, count_append 0 os o, h.4, not_this o.number 0 (λ e. omega arith)),
)

pub sound_later : (last : ℕ) (os : List Order) → Sound last os → Sound (last + 1) os
sound_later last os h = (h.0, h.1, h.2, λ n k. h.3 n (omega arith), h.4)

pub sound_joined : (last : ℕ) (x : Side) (s : Sides) (o : Order) → Sound last s.buys → Sound last s.sells → length (standing x s) < 128 → o.number ≡ last + 1 → o.quantity ≤ 1000000
    → Sound (last + 1) (joined_on x s o).buys × Sound (last + 1) (joined_on x s o).sells
sound_joined last Buy s o h k room new small = (sound_entered last s.buys o h room new small, sound_later last s.sells k)
sound_joined last Sell s o h k room new small = (sound_later last s.buys h, sound_entered last s.sells o k room new small)

-- ---- with an asked order, whose number is 0, no number stands twice either

apart_more : (last : ℕ) (os : List Order) (o : Order) → Sound last os → o.number ≡ 0 → Apart (os ++ o ∷ [])
apart_more last os o h e n =
    ⊎_elim (λ (z : o.number ≡ n). omega (arith, count_append n os o, ap (λ k. count k os) (sym z ∙ e), h.4, one_at_most (eqb o.number n)))
    (λ z. omega (arith, count_append n os o, h.2 n, not_this o.number n z)) (cases_eq o.number n)

pub apart_joined : (last : ℕ) (x : Side) (s : Sides) (o : Order) → Sound last s.buys → Sound last s.sells → o.number ≡ 0 → Apart (joined_on x s o).buys × Apart (joined_on x s o).sells
apart_joined last Buy s o h k e = (apart_more last s.buys o h e, k.2)
apart_joined last Sell s o h k e = (h.2, apart_more last s.sells o k e)

in_last : {X : Type 0} (x : X) (xs : List X) → In x (xs ++ x ∷ [])
in_last x [] = inl refl
in_last x (y ∷ ys) = inr (in_last x ys)

pub in_joined : (x : Side) (s : Sides) (o : Order) → In o (standing x (joined_on x s o))
in_joined Buy s o = in_last o s.buys
in_joined Sell s o = in_last o s.sells

-- ---- the place of the asked order is empty

none_there : (o : Option Order) → is_some o ≡ false → None ≡ o
none_there None e = refl
none_there (Some x) e = absurd (true≢false e)

pub empty_again : (b : Book) → is_some b.asked ≡ false → emptied b ≡ b
empty_again b e = ap (placed b) (none_there b.asked e)

-- ---- a side is settled

kept_short : {X : Type 0} (t : X → Bool) (xs : List X) → length (filter t xs) ≤ length xs
kept_short t [] = omega arith
kept_short t (x ∷ xs) =
    elim (t x) as (λ b. length (cond b (x ∷ filter t xs) (filter t xs)) ≤ suc (length xs)) [ true ↦ omega (arith, kept_short t xs) | false ↦ omega (arith, kept_short t xs) ]

settled_count : (x : Side) (ls : List Trade) (os : List Order) (n : ℕ) → count n (settled x ls os) ≤ count n os
settled_count x ls os n =
    let f : Order → ℕ = λ o. cond (eqb o.number n) 1 0 in
    omega (
      arith,
      total_kept f stands (map (left_by x ls) os),
      total_map (λ o. cond (stands o) (f o) 0) (left_by x ls) os,
      total_le (λ o. cond (stands (left_by x ls o)) (f o) 0) f os (λ o m. part_le (stands (left_by x ls o)) (f o)),
    )

pub sound_settled : (last : ℕ) (x : Side) (ls : List Trade) (os : List Order) → Sound last os → Sound last (settled x ls os)
sound_settled last x ls os h = (
  omega (arith, h.0, kept_short stands (map (left_by x ls) os), length-map os (left_by x ls)),
  λ o m. let r = settled_from x ls os o m in omega (arith, h.1 r.0 r.1, ap (λ z. z.quantity) r.2),
  λ n. omega (arith, h.2 n, settled_count x ls os n),
  λ n k. omega (arith, h.3 n k, settled_count x ls os n),
  omega (arith, h.4, settled_count x ls os 0),
)

pub sound_struck : (last reference : ℕ) (s : Sides) → Sound last s.buys → Sound last s.sells → Sound last (after_strike s reference).buys × Sound last (after_strike s reference).sells
sound_struck last reference s h k = go (auction_price s reference)
  where
    go : (x : Option ℕ) → Sound last (after_at s x).buys × Sound last (after_at s x).sells
    go None = (h, k)
    go (Some p) = (sound_settled last Buy _ s.buys h, sound_settled last Sell _ s.sells k)

-- ---- all that is kept true between calls, of a book

abbrev pub Kept : ℕ → Book → Type 0
Kept last b = record {
  buys_sound : Sound last (vec_items b.buys);
  sells_sound : Sound last (vec_items b.sells);
  buys_room : 128 ≤ vec_capacity b.buys;
  sells_room : 128 ≤ vec_capacity b.sells;
  clear : is_some b.asked ≡ false;
  numbers : last ≤ 60000;
}

pub kept : (a : Auction) → Kept a.last a.book
kept a = record {
  buys_sound = a.buys_sound;
  sells_sound = a.sells_sound;
  buys_room = a.buys_room;
  sells_room = a.sells_room;
  clear = a.clear;
  numbers = a.numbers;
}

-- a book with other orders, in the same memory, keeps it where they are sound
pub kept_by_sound : (last : ℕ) (a : Auction) (b : Book) (s : Sides) → standing_of b ≡ s → Sound last s.buys → Sound last s.sells → ((x : Side) → cap_of x b ≡ cap_of x a.book) → b.asked ≡ a.book.asked → last ≤ 60000 → Kept last b
kept_by_sound last a b s e h k room asked most = record {
  buys_sound = subst (λ t. Sound last t.buys) (sym e) h;
  sells_sound = subst (λ t. Sound last t.sells) (sym e) k;
  buys_room = omega (arith, room Buy, a.buys_room);
  sells_room = omega (arith, room Sell, a.sells_room);
  clear = ap is_some asked ∙ a.clear;
  numbers = most;
}
