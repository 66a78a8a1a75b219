-- The orders of a study enter one after the other, and none is refused. Assumes nothing.
use Rattle.std.proofs.Common.{◌≡◌, ℕ, zero, suc, ◌+◌, ◌<◌, ◌≤◌, true, cond, not, ◌&&◌, eqb, List, [], ◌∷◌, ◌++◌, length, get_or, take, drop, None, Ok, Result, IsOk, sym, refl, ap, ◌∙◌, subst, ap₂, arith, length-append, length-take}
use Rattle.std.proofs.lemmas.List.Elements.{filter-append}
use Rattle.std.proofs.lemmas.List.Filters.{length-filter_both}
use Rattle.std.proofs.lemmas.List.{take_more, take-append-drop, append-nil}
use Rattle.std.proofs.lemmas.List.Sums.{length-filter}
use Rattle.std.proofs.lemmas.Bool.{and_parts, eqb-true, lt-leb, false≢true}
use Rattle.words.specs.declared.orders.Order.{Order}
use Rattle.words.specs.declared.refusals.Refusal.{Refusal}
use Rattle.words.specs.declared.refusals.Refusal.TheVariants.{PriceUnfit, QuantityUnfit, SideFull, NumbersUsedUp}
use Rattle.words.specs.declared.sides.Side.{Side}
use Rattle.words.specs.declared.sides.Side.TheVariants.{Buy, Sell}
use Rattle.words.specs.declared.terms.Terms.{Terms}
use Rattle.words.specs.declared.terms.Terms.TheVariants.{Limit, Market, MarketToLimit}
use Rattle.words.specs.declared.terms.Condition.{Condition}
use Rattle.words.specs.declared.terms.Condition.TheVariants.{Unconditional, ImmediateOrCancel, FillOrKill, BookOrCancel}
use Rattle.words.specs.declared.orders.Ticket.{Ticket}
use Rattle.words.specs.Orders.{no_order, ticket_of}
use Rattle.words.specs.Refused.{first_due}
use Rattle.words.specs.Terms.{is_quantity, kind_of, price_in, price_fits, terms_for}
use Rattle.pricing.specs.Sides.{sides}
use Rattle.execution.specs.Laws.{standing}
use Rattle.book.specs.Books.{joined_on}
use Rattle.auction.specs.States.{State}
use Rattle.auction.specs.Calls.{order_of, enter_rows, enter_by, enter_step, entered}
use Rattle.study.specs.Bytes.{all}
use Rattle.study.specs.Studies.{same_side}
use Rattle.study.specs.Sound.{fit_terms, is_unconditional, fit_order, numbered_from}
use Rattle.inquiry.specs.Loading.{on_side, holding, FitOrders}

-- ---- what is known of the order at a place

fit_at : (os : List Order) (i : ℕ) → all fit_order os ≡ true → i < length os → fit_order (get_or os i no_order) ≡ true
fit_at [] i h k = absurd (omega arith)
fit_at (o ∷ os) zero h k = (and_parts (fit_order o) (all fit_order os) h).0
fit_at (o ∷ os) (suc i) h k = fit_at os i (and_parts (fit_order o) (all fit_order os) h).1 (omega arith)

number_at : (n : ℕ) (os : List Order) (i : ℕ) → numbered_from n os ≡ true → i < length os → (get_or os i no_order).number ≡ n + i
number_at n [] i h k = absurd (omega arith)
number_at n (o ∷ os) zero h k = omega (arith, eqb-true _ _ (and_parts (eqb o.number n) (numbered_from (n + 1) os) h).0)
number_at n (o ∷ os) (suc i) h k = omega (arith, number_at (n + 1) os i (and_parts (eqb o.number n) (numbered_from (n + 1) os) h).1 (omega arith))

pub terms_fit : (t : Terms) → fit_terms t ≡ true → price_fits (kind_of t) (price_in t) ≡ true
terms_fit (Limit l) h = h
terms_fit Market h = refl
terms_fit MarketToLimit h = refl

pub terms_are : (t : Terms) → terms_for (kind_of t) (price_in t) ≡ t
terms_are (Limit l) = refl
terms_are Market = refl
terms_are MarketToLimit = refl

pub condition_is : (c : Condition) → is_unconditional c ≡ true → Unconditional ≡ c
condition_is Unconditional h = refl
condition_is ImmediateOrCancel h = absurd (false≢true h)
condition_is FillOrKill h = absurd (false≢true h)
condition_is BookOrCancel h = absurd (false≢true h)

-- ---- the sides

own : (x : Side) → same_side x x ≡ true
own Buy = refl
own Sell = refl

opposite : (o : Order) → same_side Sell o.side ≡ not (same_side Buy o.side)
opposite o = go o.side
  where
    go : (x : Side) → same_side Sell x ≡ not (same_side Buy x)
    go Buy = refl
    go Sell = refl

on_more : (x : Side) (t : List Order) (o : Order) → on_side x (t ++ o ∷ []) ≡ on_side x t ++ cond (same_side x o.side) (o ∷ []) []
on_more x t o = filter-append (λ q. same_side x q.side) t (o ∷ [])

join_on : (x : Side) (t : List Order) (o : Order) → o.side ≡ x → joined_on x (sides (on_side Buy t) (on_side Sell t)) o ≡ sides (on_side Buy (t ++ o ∷ [])) (on_side Sell (t ++ o ∷ []))
join_on Buy t o e =
    let here : on_side Buy t ++ o ∷ [] ≡ on_side Buy (t ++ o ∷ []) = sym (on_more Buy t o ∙ ap (λ y. on_side Buy t ++ cond (same_side Buy y) (o ∷ []) []) e) in
    let there : on_side Sell t ≡ on_side Sell (t ++ o ∷ []) = sym (on_more Sell t o ∙ ap (λ y. on_side Sell t ++ cond (same_side Sell y) (o ∷ []) []) e ∙ append-nil (on_side Sell t)) in
    ap₂ sides here there
join_on Sell t o e =
    let here : on_side Sell t ++ o ∷ [] ≡ on_side Sell (t ++ o ∷ []) = sym (on_more Sell t o ∙ ap (λ y. on_side Sell t ++ cond (same_side Sell y) (o ∷ []) []) e) in
    let there : on_side Buy t ≡ on_side Buy (t ++ o ∷ []) = sym (on_more Buy t o ∙ ap (λ y. on_side Buy t ++ cond (same_side Buy y) (o ∷ []) []) e ∙ append-nil (on_side Buy t)) in
    ap₂ sides there here

part_of : (x : Side) (k : ℕ) (os : List Order) → length (on_side x (take k os)) ≤ length (on_side x os)
part_of x k os =
    let whole = ap (on_side x) (sym (take-append-drop k os)) ∙ filter-append (λ q. same_side x q.side) (take k os) (drop k os) in
    omega (arith, ap length whole, length-append (on_side x (take k os)) (on_side x (drop k os)))

standing_is : (x : Side) (t : List Order) → standing x (sides (on_side Buy t) (on_side Sell t)) ≡ on_side x t
standing_is Buy t = refl
standing_is Sell t = refl

few_on : (x : Side) (os : List Order) → FitOrders os → length (on_side x os) ≤ 128
few_on Buy os h = omega (arith, length-filter (λ q. same_side Buy q.side) os, h.few.buys)
few_on Sell os h = omega (arith, length-filter (λ q. same_side Sell q.side) os, h.few.sells)

few_all : (os : List Order) → FitOrders os → length os ≤ 256
few_all os h = omega (arith, few_on Buy os h, few_on Sell os h, length-filter_both (λ q. same_side Buy q.side) (λ q. same_side Sell q.side) opposite os)

-- ---- one order more

module _ (reference : ℕ) (os : List Order) (i : ℕ) (h : FitOrders os) (k : i < length os) where
  abbrev o : Order
  o = get_or os i no_order

  abbrev t : List Order
  t = take i os

  more : take (i + 1) os ≡ t ++ o ∷ []
  more = take_more os i no_order k

  abbrev st : State
  st = holding reference t

  parts : (is_quantity o.quantity ≡ true) × ((fit_terms o.terms && is_unconditional o.condition) ≡ true)
  parts = and_parts (is_quantity o.quantity) (fit_terms o.terms && is_unconditional o.condition) (fit_at os i h.each_fit k)

  inner : (fit_terms o.terms ≡ true) × (is_unconditional o.condition ≡ true)
  inner = and_parts (fit_terms o.terms) (is_unconditional o.condition) parts.1

  many : length t ≡ i
  many = omega (arith, length-take i os)

  room : length (standing o.side st.sides) < 128
  room =
      let x = o.side in
      let own_list : on_side x (take (i + 1) os) ≡ on_side x t ++ o ∷ [] = ap (on_side x) more ∙ on_more x t o ∙ ap (λ b. on_side x t ++ cond b (o ∷ []) []) (own x) in
      omega (arith, ap length (standing_is x t), ap length own_list, length-append (on_side x t) (o ∷ []), part_of x (i + 1) os, few_on x os h)

  nothing_due : first_due (enter_rows st o.side (kind_of o.terms) (price_in o.terms) o.quantity) ≡ None
  nothing_due =
      let a = terms_fit o.terms inner.0 in
      let b = parts.0 in
      let c = lt-leb 128 (length (standing o.side st.sides)) room in
      let d = lt-leb 60000 (length t) (omega (arith, many, few_all os h)) in
      λ j. first_due ((not (a j), PriceUnfit) ∷ (not (b j), QuantityUnfit) ∷ (c j, SideFull) ∷ (d j, NumbersUsedUp) ∷ [])

  granted : (enter_step st o.side (kind_of o.terms) (price_in o.terms) o.quantity).0 ≡ entered st (order_of (st.last + 1) o.side (kind_of o.terms) (price_in o.terms) o.quantity)
  granted = ap (λ w. (enter_by st o.side (kind_of o.terms) (price_in o.terms) o.quantity w).0) nothing_due

  same_order : entered st (order_of (st.last + 1) o.side (kind_of o.terms) (price_in o.terms) o.quantity) ≡ entered st o
  same_order =
      let n : length t + 1 ≡ o.number = omega (arith, many, number_at 1 os i h.numbers k) in
      let w = terms_are o.terms in
      let c = condition_is o.condition inner.1 in
      λ j. entered st (record { number = n j; side = o.side; terms = w j; condition = c j; quantity = o.quantity })

  holds : entered st o ≡ holding reference (take (i + 1) os)
  holds =
      let last : length t + 1 ≡ length (t ++ o ∷ []) = sym (length-append t (o ∷ [])) in
      (λ j. record { reference = reference; last = last j; sides = join_on o.side t o refl j }) ∙ ap (holding reference) (sym more)

  pub one_more : (s s' : State) (t : Ticket) (r : Result ℕ Refusal) → t ≡ ticket_of (get_or os i no_order) → s ≡ holding reference (take i os)
      → ◌≡◌ {A = State × Result ℕ Refusal} (s', r) (enter_step s t.side t.kind t.price t.quantity) → s' ≡ holding reference (take (i + 1) os)
  one_more s s' t r g e f =
      ap (λ z. z.0) f ∙ ap₂ (λ (s : State) (t : Ticket). (enter_step s t.side t.kind t.price t.quantity).0) e g ∙ granted ∙ same_order ∙ holds

  pub one_taken : (s s' : State) (t : Ticket) (r : Result ℕ Refusal) → t ≡ ticket_of (get_or os i no_order) → s ≡ holding reference (take i os)
      → ◌≡◌ {A = State × Result ℕ Refusal} (s', r) (enter_step s t.side t.kind t.price t.quantity) → IsOk r
  one_taken s s' t r g e f =
      let is : r ≡ Ok (st.last + 1) =
      ap (λ z. z.1) f ∙ ap₂ (λ (s : State) (t : Ticket). (enter_step s t.side t.kind t.price t.quantity).1) e g
      ∙ ap (λ w. (enter_by st o.side (kind_of o.terms) (price_in o.terms) o.quantity w).1) nothing_due in
      subst IsOk (sym is) refl
