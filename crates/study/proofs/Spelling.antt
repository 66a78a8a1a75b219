-- Each line that is written reads as what it writes. Assumes nothing.
use Rattle.std.proofs.Common.{◌≡◌, ℕ, ◌+◌, ◌/◌, ◌%◌, ◌<◌, ◌≤◌, true, false, leb, List, [], ◌∷◌, ◌++◌, length, Ok, codes, Result, sym, refl, ap, ◌∙◌, arith, length-append}
use Rattle.std.proofs.lemmas.Bool.{and_parts, leb-true, both_ways}
use Rattle.std.proofs.lemmas.Bool.Decides.{nat_tests}
use Rattle.words.specs.declared.orders.Order.{Order}
use Rattle.words.specs.declared.sides.Side.{Side}
use Rattle.words.specs.declared.sides.Side.TheVariants.{Buy, Sell}
use Rattle.words.specs.declared.terms.Terms.{Terms}
use Rattle.words.specs.declared.terms.Terms.TheVariants.{Limit, Market, MarketToLimit}
use Rattle.words.specs.declared.terms.Condition.{Condition}
use Rattle.words.specs.declared.terms.Condition.TheVariants.{Unconditional, ImmediateOrCancel, FillOrKill, BookOrCancel}
use Rattle.words.specs.Terms.{is_price, is_quantity}
use Rattle.study.specs.declared.faults.Reason.{Reason}
use Rattle.study.specs.declared.statements.Line.TheVariants.{Reference, Entry, Ask}
use Rattle.study.specs.Bytes.{all}
use Rattle.study.specs.Wording.{words_of}
use Rattle.study.specs.Statements.{and_then, last_price, terms_of, unnumbered, order_from, order_of, statement_of, line_of}
use Rattle.study.specs.Sound.{fit_terms, is_unconditional, fit_order}
use Rattle.study.specs.Written.{written, written_price}
use Rattle.study.specs.Writer.{side_word, written_terms, written_order, written_ask, written_reference}
use Rattle.study.proofs.Writing.{written_reads, quantity_back, price_back}
use Rattle.study.proofs.Inked.{ink, clean, all_append, digits_inked, inked_clean, word_first, word_last, clean_says}

-- a word that is written
record Inky (w : List ℕ) : Type 0 where
  some : 0 < length w
  inked : all ink w ≡ true

abbrev Between : ℕ → Type 0
Between n = (1 ≤ n) × (n ≤ 1000000)

price_between : (p : ℕ) → is_price p ≡ true → Between p
price_between p h = let both = and_parts (leb 1 p) (leb p 1000000) h in (leb-true 1 p both.0, leb-true p 1000000 both.1)

number_inky : (n : ℕ) → n ≤ 1000000 → Inky (written n)
number_inky n small = let r = written_reads n small in record { some = r.some; inked = digits_inked (written n) r.figures }

two_inked : (x y : ℕ) → x < 10 → y < 10 → all ink (46 ∷ (48 + x) ∷ (48 + y) ∷ []) ≡ true
two_inked x y hx hy = grind (arith, nat_tests)

price_inky : (p : ℕ) → p ≤ 1000000 → Inky (written_price p)
price_inky p small =
    let leva = number_inky (p / 100) (omega arith) in
    let rest : List ℕ = 46 ∷ (48 + p / 10 % 10) ∷ (48 + p % 10) ∷ [] in
    record {
      some = omega (arith, length-append (written (p / 100)) rest, leva.some);
      inked = all_append ink (written (p / 100)) rest leva.inked (two_inked (p / 10 % 10) (p % 10) (omega arith) (omega arith));
    }

-- two words with a space between them are clean
spaced : (a b : List ℕ) → all clean a ≡ true → all clean b ≡ true → all clean (a ++ (32 ∷ b)) ≡ true
spaced a b p q = all_append clean a (32 ∷ b) p q

last_back : (p : ℕ) → Between p → last_price (words_of (written_price p)) ≡ Ok p
last_back p h =
    let w = price_inky p h.1 in
    ap last_price (word_last (written_price p) w.some w.inked) ∙ ap (λ r. and_then r (λ q. Ok q)) (price_back p h.0 h.1)

terms_back : (t : Terms) → fit_terms t ≡ true → terms_of (words_of (written_terms t)) ≡ Ok t
terms_back (Limit p) h =
    ap terms_of (word_first (codes "at") (written_price p) (omega arith) refl) ∙ ap (λ r. and_then r (λ q. Ok (Limit q))) (last_back p (price_between p h))
terms_back Market h = refl
terms_back MarketToLimit h = refl

terms_clean : (t : Terms) → fit_terms t ≡ true → all clean (written_terms t) ≡ true
terms_clean (Limit p) h = spaced (codes "at") (written_price p) refl (inked_clean (written_price p) (price_inky p (price_between p h).1).inked)
terms_clean Market h = refl
terms_clean MarketToLimit h = refl

-- what follows the side
abbrev tail : Terms → ℕ → List ℕ
tail t q = written q ++ (32 ∷ written_terms t)

from_back : (s : Side) (t : Terms) (q : ℕ) → Between q → fit_terms t ≡ true → order_from s (words_of (tail t q)) ≡ Ok (unnumbered s t q)
from_back s t q h ht =
    let w = number_inky q h.1 in
    ap (order_from s) (word_first (written q) (written_terms t) w.some w.inked)
    ∙ ap (λ r. and_then r (λ n. and_then (terms_of (words_of (written_terms t))) (λ u. Ok (unnumbered s u n)))) (quantity_back q h.0 h.1)
    ∙ ap (λ r. and_then r (λ u. Ok (unnumbered s u q))) (terms_back t ht)

tail_clean : (t : Terms) (q : ℕ) → q ≤ 1000000 → fit_terms t ≡ true → all clean (tail t q) ≡ true
tail_clean t q small ht = spaced (written q) (written_terms t) (inked_clean (written q) (number_inky q small).inked) (terms_clean t ht)

side_clean : (s : Side) → all clean (side_word s) ≡ true
side_clean Buy = refl
side_clean Sell = refl

order_back : (s : Side) (rest : List ℕ) (r : Result Order Reason) → order_from s (words_of rest) ≡ r → order_of (words_of (side_word s ++ (32 ∷ rest))) ≡ r
order_back Buy rest r h = ap order_of (word_first (codes "buy") rest (omega arith) refl) ∙ h
order_back Sell rest r h = ap order_of (word_first (codes "sell") rest (omega arith) refl) ∙ h

entry_back : (s : Side) (rest : List ℕ) (o : Order) → order_from s (words_of rest) ≡ Ok o → statement_of (words_of (side_word s ++ (32 ∷ rest))) ≡ Ok (Entry o)
entry_back Buy rest o h = ap statement_of (word_first (codes "buy") rest (omega arith) refl) ∙ ap (λ r. and_then r (λ x. Ok (Entry x))) h
entry_back Sell rest o h = ap statement_of (word_first (codes "sell") rest (omega arith) refl) ∙ ap (λ r. and_then r (λ x. Ok (Entry x))) h

-- the parts of a fit order
record Parts (o : Order) : Type 0 where
  amount : Between o.quantity
  terms_fit : fit_terms o.terms ≡ true
  condition_is : o.condition ≡ Unconditional

unconditional : (x : Condition) → is_unconditional x ≡ true → x ≡ Unconditional
unconditional Unconditional h = refl
unconditional ImmediateOrCancel h = absurd (both_ways false refl h)
unconditional FillOrKill h = absurd (both_ways false refl h)
unconditional BookOrCancel h = absurd (both_ways false refl h)

parts : (o : Order) → fit_order o ≡ true → Parts o
parts o h =
    let first = and_parts (is_quantity o.quantity) _ h in
    let second = and_parts (fit_terms o.terms) (is_unconditional o.condition) first.1 in
    record { amount = price_between o.quantity first.0; terms_fit = second.0; condition_is = unconditional o.condition second.1 }

-- an order that is read, with its number, is the order that was written
pub same_order : (o : Order) (k : ℕ) → fit_order o ≡ true → o.number ≡ k → record { number = k; side = o.side; terms = o.terms; condition = Unconditional; quantity = o.quantity } ≡ o
same_order o k h e =
    ap (λ n. record { number = n; side = o.side; terms = o.terms; condition = Unconditional; quantity = o.quantity }) (sym e)
    ∙ ap (λ x. record { number = o.number; side = o.side; terms = o.terms; condition = x; quantity = o.quantity }) (sym (parts o h).condition_is)

pub order_clean : (o : Order) → fit_order o ≡ true → all clean (written_order o) ≡ true
order_clean o h = let p = parts o h in spaced (side_word o.side) (tail o.terms o.quantity) (side_clean o.side) (tail_clean o.terms o.quantity p.amount.1 p.terms_fit)

pub ask_clean : (o : Order) → fit_order o ≡ true → all clean (written_ask o) ≡ true
ask_clean o h = spaced (codes "ask") (written_order o) refl (order_clean o h)

pub reference_clean : (p : ℕ) → p ≤ 1000000 → all clean (written_reference p) ≡ true
reference_clean p small = spaced (codes "reference") (written_price p) refl (inked_clean (written_price p) (price_inky p small).inked)

pub order_line : (o : Order) → fit_order o ≡ true → line_of (written_order o) ≡ Ok (Entry (unnumbered o.side o.terms o.quantity))
order_line o h =
    let p = parts o h in
    clean_says (written_order o) (order_clean o h)
    ∙ entry_back o.side (tail o.terms o.quantity) (unnumbered o.side o.terms o.quantity) (from_back o.side o.terms o.quantity p.amount p.terms_fit)

pub ask_line : (o : Order) → fit_order o ≡ true → line_of (written_ask o) ≡ Ok (Ask (unnumbered o.side o.terms o.quantity))
ask_line o h =
    let p = parts o h in
    clean_says (written_ask o) (ask_clean o h)
    ∙ ap statement_of (word_first (codes "ask") (written_order o) (omega arith) refl)
    ∙ ap (λ r. and_then r (λ x. Ok (Ask x))) (order_back o.side (tail o.terms o.quantity) (Ok (unnumbered o.side o.terms o.quantity)) (from_back o.side o.terms o.quantity p.amount p.terms_fit))

pub reference_line : (p : ℕ) → 1 ≤ p → p ≤ 1000000 → line_of (written_reference p) ≡ Ok (Reference p)
reference_line p low high =
    clean_says (written_reference p) (reference_clean p high)
    ∙ ap statement_of (word_first (codes "reference") (written_price p) (omega arith) refl)
    ∙ ap (λ r. and_then r (λ x. Ok (Reference x))) (last_back p (low, high))
