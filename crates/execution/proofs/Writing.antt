-- The steps of the loop that writes the tape. Assumes nothing.
use Rattle.std.proofs.Common.{◌≡◌, ℕ, ◌+◌, ◌<◌, ◌≤◌, min, Bool, true, false, cond, ltb, ◌⊎◌, List, [], ◌∷◌, ◌++◌, map, length, get_or, take, drop, set, sym, refl, ap, ◌∙◌, ap₂, inl, inr, ⊎_elim, arith}
use Rattle.std.proofs.lemmas.List.{take_more_set, drop-set-lt, drop-set, drop_more, drop-drop, drop_all, append_assoc, append-nil, take_all}
use lib.Seq.{take-append-le}
use Rattle.std.proofs.lemmas.Bool.{ltb-true}
use Rattle.words.specs.declared.orders.Order.{Order}
use Rattle.words.specs.declared.tape.Trade.{Trade}
use Rattle.words.specs.Orders.{no_order}
use Rattle.words.specs.Orders.{lowered}
use Rattle.execution.specs.Execution.{less_first, pairs, line, written}
use Rattle.execution.proofs.Walks.{pairs_none, pairs_step}

-- ---- one pair more, written

pub passed : (os after : List Order) (i q next : ℕ) → i < length os → next ≡ cond (ltb q (get_or os i no_order).quantity) i (i + 1)
    → after ≡ set os i (lowered (get_or os i no_order) q) → drop next after ≡ less_first q (get_or os i no_order) (drop (i + 1) os)
passed os after i q next h e f = go (ltb q (get_or os i no_order).quantity) e
  where
    x : Order
    x = get_or os i no_order

    go : (b : Bool) → next ≡ cond b i (i + 1) → drop next after ≡ cond b (lowered x q ∷ drop (i + 1) os) (drop (i + 1) os)
    go true k = ap₂ drop k f ∙ drop-set os i (lowered x q) h
    go false k = ap₂ drop k f ∙ drop-set-lt (i + 1) os i (lowered x q) (omega arith)

-- how far it goes on
pub next_range : (m q i next : ℕ) → next ≡ cond (ltb q m) i (i + 1) → (i ≤ next) × (next ≤ i + 1) × (q ≡ m → next ≡ i + 1)
next_range m q i next e = go (ltb q m) refl e
  where
    go : (b : Bool) → ltb q m ≡ b → next ≡ cond b i (i + 1) → (i ≤ next) × (next ≤ i + 1) × (q ≡ m → next ≡ i + 1)
    go true f k = (omega arith, omega arith, λ g. absurd (omega (arith, ltb-true q m f)))
    go false f k = (omega arith, omega arith, λ g. k)

module _ (price : ℕ) (bs ss bs' ss' : List Order) (tape tape' : List Trade) (i j n i' j' q : ℕ)
    (hb : i < length bs) (hs : j < length ss) (ht : n < length tape) (by : q ≡ min (get_or bs i no_order).quantity (get_or ss j no_order).quantity)
    (eb : drop i' bs' ≡ less_first q (get_or bs i no_order) (drop (i + 1) bs)) (es : drop j' ss' ≡ less_first q (get_or ss j no_order) (drop (j + 1) ss))
    (et : tape' ≡ set tape n (record { buy = (get_or bs i no_order).number; sell = (get_or ss j no_order).number; price = price; quantity = q })) where
  abbrev l : Trade
  l = record { buy = (get_or bs i no_order).number; sell = (get_or ss j no_order).number; price = price; quantity = q }

  pub write_more : take (n + 1) tape' ++ map (line price) (pairs (drop i' bs') (drop j' ss')) ≡ take n tape ++ map (line price) (pairs (drop i bs) (drop j ss))
  write_more =
      let x = get_or bs i no_order in
      let y = get_or ss j no_order in
      let rest = pairs (less_first q x (drop (i + 1) bs)) (less_first q y (drop (j + 1) ss)) in
      ap₂ (λ t ps. t ++ map (line price) ps) (ap (take (n + 1)) et ∙ take_more_set tape n l ht) (ap₂ pairs eb es)
      ∙ append_assoc (take n tape) (l ∷ []) (map (line price) rest)
      ∙ ap (λ ts. take n tape ++ map (line price) ts) (sym (ap₂ pairs (drop_more bs i no_order hb) (drop_more ss j no_order hs) ∙ pairs_step x y (drop (i + 1) bs) (drop (j + 1) ss) q by))

pub rest_more : (tape first : List Trade) (n : ℕ) (l : Trade) → drop n tape ≡ drop n first → drop (n + 1) (set tape n l) ≡ drop (n + 1) first
rest_more tape first n l e = drop-set-lt (n + 1) tape n l (omega arith) ∙ sym (drop-drop 1 n tape) ∙ ap (drop 1) e ∙ drop-drop 1 n first

pub write_all : (price : ℕ) (bs ss : List Order) (tape : List Trade) (i j n : ℕ) → (length bs ≤ i) ⊎ (length ss ≤ j) → take n tape ++ map (line price) (pairs (drop i bs) (drop j ss)) ≡ take n tape
write_all price bs ss tape i j n h =
    ap (λ ts. take n tape ++ map (line price) ts) (pairs_none (drop i bs) (drop j ss) (⊎_elim (λ k. inl (drop_all i bs k)) (λ k. inr (drop_all j ss k)) h)) ∙ append-nil (take n tape)

-- ---- the whole tape

pub written_front : (before after ls : List Trade) (n : ℕ) → n ≡ length ls → after ≡ written ls before → take n after ≡ ls
written_front before after ls n e f = ap₂ take e f ∙ take-append-le (length ls) ls (drop (length ls) before) (omega arith) ∙ take_all (length ls) ls (omega arith)
