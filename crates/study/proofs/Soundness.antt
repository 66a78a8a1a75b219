-- Every study that is read is sound: each line keeps what holds of the lines before it. Assumes nothing.
use Rattle.std.proofs.Common.{◌≡◌, ℕ, zero, suc, ◌+◌, ◌*◌, ◌≤◌, Bool, true, false, cond, ◌&&◌, eqb, ltb, leb, List, [], ◌∷◌, ◌++◌, length, get_or, take, drop, IfOk, Some, None, Ok, Err, codes, Option, Result, refl, sym, ap, subst, ◌∙◌, arith}
use Rattle.std.specs.Str.{bytes_eq}
use Rattle.std.proofs.lemmas.List.Folds.{list_all-append}
use Rattle.std.proofs.lemmas.Bool.{ltb-true, leb-true, and_parts, and_from, eq-eqb}
use Rattle.words.specs.declared.orders.Order.{Order}
use Rattle.words.specs.declared.sides.Side.{Side}
use Rattle.words.specs.declared.terms.Terms.{Terms}
use Rattle.words.specs.declared.terms.Kind.{Kind}
use Rattle.words.specs.declared.terms.Kind.TheVariants as kinds
use Rattle.words.specs.Terms.{is_price, is_quantity}
use Rattle.words.specs.Orders.{no_order}
use Rattle.study.specs.declared.faults.StudyError.{StudyError}
use Rattle.study.specs.declared.studies.Study.{Study}
use Rattle.study.specs.declared.faults.Reason.TheVariants.{PriceRange, QuantityRange, SideFull}
use Rattle.study.specs.declared.statements.Line.{Line}
use Rattle.study.specs.declared.statements.Line.TheVariants.{Blank, Reference, Entry, Ask}
use Rattle.study.specs.Bytes.{all}
use Rattle.study.specs.Numbers.{value, is_number, quantity_of, ranged_price, decimal_price, point_at, price_of}
use Rattle.study.specs.Wording.{words_of, ended, side_of, kind_of}
use Rattle.study.specs.Statements.{and_then, last_price, terms_with, terms_of, unnumbered, order_from, order_of, statement_of, before_comment, is_text, line_of}
use Rattle.study.specs.declared.faults.Reason.{Reason}
use Rattle.study.specs.Studies.{Reading, start, count_on, fault, numbered, next_order, reference_step, taken, line_step, lines_read, finished, lines_of, study_of}
use Rattle.study.specs.Sound.{fit_terms, fit_order, is_unnumbered, numbered_from, Sound, SoundSoFar}
use Rattle.study.specs.Views.{content, Agrees}
use Rattle.std.proofs.lemmas.Option.{same_Some}
use Rattle.study.proofs.Entering.{few_more}

-- what holds of what is made, where it is chosen by a test or read in two steps
by_test : {A E : Type 0} (b : Bool) (x y : Result A E) (P : A → Type 0) → IfOk x P → IfOk y P → IfOk (cond b x y) P
by_test true x y P p q = p
by_test false x y P p q = q

by_true : {A E : Type 0} (b : Bool) (x : A) (e : E) (P : A → Type 0) → (b ≡ true → P x) → IfOk (cond b (Ok x) (Err e)) P
by_true true x e P p = p refl
by_true false x e P p = tt

by_steps : {A B E : Type 0} (r : Result A E) (f : A → Result B E) (P : A → Type 0) (Q : B → Type 0) → IfOk r P → ((x : A) → P x → IfOk (f x) Q) → IfOk (and_then r f) Q
by_steps (Ok x) f P Q p q = q x p
by_steps (Err e) f P Q p q = tt

cond_ok : {A E : Type 0} (b : Bool) (x y : A) (e : E) → cond b (Ok x) (Err e) ≡ Ok y → (b ≡ true) × (x ≡ y)
cond_ok true x y e h = (refl, cc)
cond_ok false x y e h = absurd (cc)

by_any : {A B E : Type 0} (r : Result A E) (f : A → Result B E) (Q : B → Type 0) → ((x : A) → IfOk (f x) Q) → IfOk (and_then r f) Q
by_any (Ok x) f Q q = q x
by_any (Err e) f Q q = tt

abbrev pub Price : ℕ → Type 0
Price p = is_price p ≡ true

abbrev Quantity : ℕ → Type 0
Quantity q = is_quantity q ≡ true

-- an order as it is read, before it is numbered
abbrev pub Fit : Order → Type 0
Fit o = (fit_order o ≡ true) × (is_unnumbered o ≡ true)

ranged_good : (p : ℕ) → IfOk (ranged_price p) Price
ranged_good p = by_true (is_price p) p PriceRange Price (λ e. e)

decimal_good : (w ds : List ℕ) → IfOk (decimal_price w ds) Price
decimal_good w ds =
    by_test (is_number w && is_number ds) _ _ Price
    (by_test (eqb (length ds) 1) _ _ Price (ranged_good (100 * value w + 10 * value ds)) (by_test (eqb (length ds) 2) _ _ Price (ranged_good (100 * value w + value ds)) tt)) tt

price_good : (w : List ℕ) → IfOk (price_of w) Price
price_good w =
    by_test (ltb (point_at w) (length w)) _ _ Price (decimal_good (take (point_at w) w) (drop (point_at w + 1) w))
    (by_test (is_number w) _ _ Price (ranged_good (100 * value w)) tt)

quantity_good : (w : List ℕ) → IfOk (quantity_of w) Quantity
quantity_good w = by_test (is_number w) _ _ Quantity (by_true (is_quantity (value w)) (value w) QuantityRange Quantity (λ e. e)) tt

last_price_good : (ws : List (List ℕ)) → IfOk (last_price ws) Price
last_price_good [] = tt
last_price_good (w ∷ ws) = by_steps (price_of w) _ Price Price (price_good w) (λ p h. by_any (ended ws) _ Price (λ _. h))

abbrev FitTerms : Terms → Type 0
FitTerms t = fit_terms t ≡ true

with_good : (k : Kind) (ws : List (List ℕ)) → IfOk (terms_with k ws) FitTerms
with_good kinds.Limit ws = by_steps (last_price ws) _ Price FitTerms (last_price_good ws) (λ p h. h)
with_good kinds.Market ws = by_any (ended ws) _ FitTerms (λ _. refl)
with_good kinds.MarketToLimit ws = by_any (ended ws) _ FitTerms (λ _. refl)

terms_good : (ws : List (List ℕ)) → IfOk (terms_of ws) FitTerms
terms_good [] = tt
terms_good (w ∷ ws) = by_any (kind_of w) _ FitTerms (λ k. with_good k ws)

order_fit : (s : Side) (t : Terms) (q : ℕ) → Quantity q → FitTerms t → Fit (unnumbered s t q)
order_fit s t q hq ht = (and_from (is_quantity q) _ hq (and_from (fit_terms t) true ht refl), refl)

from_good : (s : Side) (ws : List (List ℕ)) → IfOk (order_from s ws) Fit
from_good s [] = tt
from_good s (w ∷ ws) = by_steps (quantity_of w) _ Quantity Fit (quantity_good w) (λ q hq. by_steps (terms_of ws) _ FitTerms Fit (terms_good ws) (λ t ht. order_fit s t q hq ht))

order_good : (ws : List (List ℕ)) → IfOk (order_of ws) Fit
order_good [] = tt
order_good (w ∷ ws) = by_any (side_of w) _ Fit (λ s. from_good s ws)

-- what a line may say
abbrev pub FitLine : Line → Type 0
FitLine Blank = Unit {0}
FitLine (Reference p) = Price p
FitLine (Entry o) = Fit o
FitLine (Ask o) = Fit o

statement_good : (ws : List (List ℕ)) → IfOk (statement_of ws) FitLine
statement_good [] = tt
statement_good (w ∷ ws) =
    by_test (bytes_eq w (codes "reference")) (and_then (last_price ws) (λ p. Ok (Reference p))) _ FitLine
    (by_steps (last_price ws) (λ p. Ok (Reference p)) Price FitLine (last_price_good ws) (λ p h. h))
    (by_test (bytes_eq w (codes "ask")) (and_then (order_of ws) (λ o. Ok (Ask o))) _ FitLine
    (by_steps (order_of ws) (λ o. Ok (Ask o)) Fit FitLine (order_good ws) (λ o h. h))
    (by_steps (order_of (w ∷ ws)) (λ o. Ok (Entry o)) Fit FitLine (order_good (w ∷ ws)) (λ o h. h)))

line_good : (l : List ℕ) → IfOk (line_of l) FitLine
line_good l = by_test (is_text l) _ _ FitLine (statement_good (words_of (before_comment l))) tt

all_push : {X : Type 0} (p : X → Bool) (xs : List X) (x : X) → all p xs ≡ true → p x ≡ true → all p (xs ++ (x ∷ [])) ≡ true
all_push p xs x a h = list_all-append p xs (x ∷ []) ∙ and_from (all p xs) _ a (and_from (p x) true h refl)

numbers_push : (n : ℕ) (os : List Order) (o : Order) → numbered_from n os ≡ true → o.number ≡ n + length os → numbered_from n (os ++ (o ∷ [])) ≡ true
numbers_push n [] o a h = and_from (eqb o.number n) true (eq-eqb o.number n (omega (arith, h))) refl
numbers_push n (p ∷ ps) o a h =
    let both = and_parts (eqb p.number n) (numbered_from (n + 1) ps) a in
    and_from (eqb p.number n) _ both.0 (numbers_push (n + 1) ps o both.1 (omega (arith, h)))

-- by place: past the end stands no order, of no quantity
small_at : (os : List Order) → all fit_order os ≡ true → (k : ℕ) → (get_or os k no_order).quantity ≤ 1000000
small_at [] a k = omega arith
small_at (o ∷ os) a zero =
    let fit = (and_parts (is_quantity o.quantity) _ (and_parts (fit_order o) (all fit_order os) a).0).0 in
    leb-true o.quantity 1000000 (and_parts (leb 1 o.quantity) (leb o.quantity 1000000) fit).1
small_at (o ∷ os) a (suc k) = small_at os (and_parts (fit_order o) (all fit_order os) a).1 k

pub refer_kept : (o : Option ℕ) (os qs : List Order) (p : ℕ) → Price p → SoundSoFar (record { reference = o; orders = os; asks = qs }) → SoundSoFar (record { reference = Some p; orders = os; asks = qs })
refer_kept o os qs p h k = record {
  reference_fit = λ q e. subst Price (same_Some p q e) h;
  orders_fit = k.orders_fit;
  asks_fit = k.asks_fit;
  few = k.few;
  numbers = k.numbers;
  asks_unnumbered = k.asks_unnumbered;
}

pub enter_kept : (r : Option ℕ) (os qs : List Order) (o p : Order) → Fit o → next_order (record { reference = r; orders = os; asks = qs }) o ≡ Ok p → SoundSoFar (record { reference = r; orders = os; asks = qs })
    → SoundSoFar (record { reference = r; orders = os ++ (p ∷ []); asks = qs })
enter_kept r os qs o p h e k =
    let next = numbered o (length os + 1) in
    let chosen = cond_ok (ltb (count_on o.side os) 128) next p SideFull e in
    subst (λ x. SoundSoFar (record { reference = r; orders = os ++ (x ∷ []); asks = qs })) chosen.1
    (record {
      reference_fit = k.reference_fit;
      orders_fit = all_push fit_order os next k.orders_fit h.0;
      asks_fit = k.asks_fit;
      few = few_more os next k.few (ltb-true _ 128 chosen.0);
      numbers = numbers_push 1 os next k.numbers (omega arith);
      asks_unnumbered = k.asks_unnumbered;
    })

pub ask_kept : (r : Option ℕ) (os qs : List Order) (o : Order) → Fit o → SoundSoFar (record { reference = r; orders = os; asks = qs }) → SoundSoFar (record { reference = r; orders = os; asks = qs ++ (o ∷ []) })
ask_kept r os qs o h k = record {
  reference_fit = k.reference_fit;
  orders_fit = k.orders_fit;
  asks_fit = all_push fit_order qs o k.asks_fit h.0;
  few = k.few;
  numbers = k.numbers;
  asks_unnumbered = all_push is_unnumbered qs o k.asks_unnumbered h.1;
}

pub finish_kept : (p : ℕ) (os qs : List Order) → SoundSoFar (record { reference = Some p; orders = os; asks = qs }) → Sound (record { reference = p; orders = os; asks = qs })
finish_kept p os qs k =
    let both = and_parts (leb 1 p) (leb p 1000000) (k.reference_fit p refl) in
    record {
      low = leb-true 1 p both.0;
      high = leb-true p 1000000 both.1;
      orders_fit = k.orders_fit;
      asks_fit = k.asks_fit;
      few = k.few;
      numbers = k.numbers;
      asks_unnumbered = k.asks_unnumbered;
      orders_small = small_at os k.orders_fit;
      asks_small = small_at qs k.asks_fit;
    }

-- what a line says is fit for a book
pub line_says : (l : List ℕ) (x : Line) → line_of l ≡ Ok x → FitLine x
line_says l x e = subst (λ r. IfOk r FitLine) e (line_good l)

-- after a push that may have failed
pub pushed : (b : Bool) (new more old : List Order) (P : List Order → Type 0) → new ≡ cond b more old → P more → P old → P new
pushed true new more old P e p q = subst P (sym e) p
pushed false new more old P e p q = subst P (sym e) q

-- ---- of every text, whatever memory there is

start_kept : SoundSoFar start
start_kept = record { reference_fit = λ p e. absurd (cc); orders_fit = refl; asks_fit = refl; few = record { buys = omega arith; sells = omega arith }; numbers = refl; asks_unnumbered = refl }

refer_step : (n : ℕ) (o : Option ℕ) (os qs : List Order) (p : ℕ) → Price p → SoundSoFar (record { reference = o; orders = os; asks = qs }) → IfOk (reference_step n (record { reference = o; orders = os; asks = qs }) p) SoundSoFar
refer_step n (Some q) os qs p h k = tt
refer_step n None os qs p h k = refer_kept None os qs p h k

taken_kept : (n : ℕ) (s : Reading) (x : Line) → FitLine x → SoundSoFar s → IfOk (taken n s x) SoundSoFar
taken_kept n s Blank h k = k
taken_kept n s (Reference p) h k = refer_step n s.reference s.orders s.asks p h k
taken_kept n s (Entry o) h k =
    by_true (ltb (count_on o.side s.orders) 128) _ (fault n SideFull) SoundSoFar
    (λ room. enter_kept s.reference s.orders s.asks o (numbered o (length s.orders + 1)) h (ap (λ b. cond b (Ok (numbered o (length s.orders + 1))) (Err SideFull)) room) k)
taken_kept n s (Ask o) h k = ask_kept s.reference s.orders s.asks o h k

step_kept : (n : ℕ) (s : Reading) (r : Result Line Reason) → IfOk r FitLine → SoundSoFar s → IfOk (elim r [ Ok x ↦ taken n s x | Err e ↦ Err (fault n e) ]) SoundSoFar
step_kept n s (Ok x) h k = taken_kept n s x h k
step_kept n s (Err e) h k = tt

lines_kept : (n : ℕ) (s : Reading) (ls : List (List ℕ)) → SoundSoFar s → IfOk (lines_read n s ls) SoundSoFar
lines_kept n s [] k = k
lines_kept n s (l ∷ ls) k = by_steps (line_step (n + 1) s l) _ SoundSoFar SoundSoFar (step_kept (n + 1) s (line_of l) (line_good l) k) (λ t h. lines_kept (n + 1) t ls h)

finished_sound : (n : ℕ) (o : Option ℕ) (os qs : List Order) → SoundSoFar (record { reference = o; orders = os; asks = qs }) → IfOk (finished n (record { reference = o; orders = os; asks = qs })) Sound
finished_sound n (Some p) os qs k = finish_kept p os qs k
finished_sound n None os qs k = by_test (eqb (length os) 0 && eqb (length qs) 0) _ _ Sound tt tt

pub study_sound : (t : List ℕ) → IfOk (study_of t) Sound
study_sound t =
    by_steps (lines_read 0 start (lines_of t)) _ SoundSoFar Sound (lines_kept 0 start (lines_of t) start_kept)
    (λ s k. finished_sound (length (lines_of t)) s.reference s.orders s.asks k)

pub answer_sound : (r : Result Study StudyError) (t : List ℕ) → Agrees r content (study_of t) → IfOk r (λ s. Sound (content s))
answer_sound (Ok s) t e = subst (λ a. IfOk a Sound) e (study_sound t)
answer_sound (Err e) t h = tt
