-- A study that is written line by line reads as itself. Assumes nothing.
use Rattle.std.proofs.Common.{◌≡◌, ℕ, ◌+◌, ◌<◌, ◌≤◌, true, cond, eqb, ltb, List, [], ◌∷◌, ◌++◌, map, length, Some, Ok, Err, Option, Result, sym, refl, ap, ◌∙◌, subst, append_assoc, append-nil, arith}
use Rattle.std.proofs.lemmas.List.{length_push}
use Rattle.std.proofs.lemmas.List.Sums.{sum_by-append, sum_by-cons}
use Rattle.std.proofs.lemmas.Bool.{cond-true, lt-ltb, and_parts, and_from, eqb-true}
use Rattle.words.specs.declared.orders.Order.{Order}
use Rattle.words.specs.declared.sides.Side.{Side}
use Rattle.words.specs.declared.sides.Side.TheVariants.{Buy, Sell}
use Rattle.study.specs.declared.faults.Fault.{Fault}
use Rattle.study.specs.declared.faults.Reason.{Reason}
use Rattle.study.specs.declared.faults.StudyError.{StudyError}
use Rattle.study.specs.declared.studies.Study.{Study}
use Rattle.study.specs.declared.statements.Line.{Line}
use Rattle.study.specs.Bytes.{all}
use Rattle.study.specs.Statements.{and_then}
use Rattle.study.specs.Studies.{Reading, Content, start, same_side, count_on, Few, fault, taken, line_step, lines_read, finished, study_of}
use Rattle.study.specs.Sound.{fit_order, is_unnumbered, numbered_from, Sound}
use Rattle.study.specs.Views.{content, Agrees}
use Rattle.study.specs.Writer.{written_order, written_ask, written_reference, study_lines, written_study}
use Rattle.study.proofs.Stepping.{read_more}
use Rattle.study.proofs.Inked.{clean, all_append, lines_back}
use Rattle.study.proofs.Spelling.{same_order, order_clean, ask_clean, reference_clean, order_line, ask_line, reference_line}

abbrev reading : Option ℕ → List Order → List Order → Reading
reading r os qs = record { reference = r; orders = os; asks = qs }

-- what a line that reads as x does
abbrev after : ℕ → Reading → Result Line Reason → Result Reading Fault
after n s r = elim r [ Ok x ↦ taken n s x | Err e ↦ Err (fault n e) ]

-- there is room for an order of a list that leaves room for it
few_at : (s : Side) (os : List Order) → Few os → count_on s os ≤ 128
few_at Buy os f = f.buys
few_at Sell os f = f.sells

abbrev one : Side → Order → ℕ
one s o = cond (same_side s o.side) 1 0

own_one : (s : Side) → ◌≡◌ {A = ℕ} (cond (same_side s s) 1 0) 1
own_one Buy = refl
own_one Sell = refl

room : (pre rest : List Order) (o : Order) → Few (pre ++ (o ∷ rest)) → count_on o.side pre < 128
room pre rest o f =
    omega (arith, few_at o.side (pre ++ (o ∷ rest)) f, sum_by-append (one o.side) pre (o ∷ rest), sum_by-cons (one o.side) o rest, own_one o.side)

entered : (n : ℕ) (r : Option ℕ) (pre rest qs : List Order) (o : Order) → fit_order o ≡ true → o.number ≡ length pre + 1 → Few (pre ++ (o ∷ rest)) → line_step n (reading r pre qs) (written_order o) ≡ Ok (reading r (pre ++ (o ∷ [])) qs)
entered n r pre rest qs o h e f =
    ap (after n (reading r pre qs)) (order_line o h)
    ∙ cond-true (ltb (count_on o.side pre) 128) _ _ (lt-ltb (count_on o.side pre) 128 (room pre rest o f))
    ∙ ap (λ x. Ok (reading r (pre ++ (x ∷ [])) qs)) (same_order o (length pre + 1) h e)

asked : (n : ℕ) (r : Option ℕ) (os pre : List Order) (o : Order) → fit_order o ≡ true → o.number ≡ 0 → line_step n (reading r os pre) (written_ask o) ≡ Ok (reading r os (pre ++ (o ∷ [])))
asked n r os pre o h e = ap (after n (reading r os pre)) (ask_line o h) ∙ ap (λ x. Ok (reading r os (pre ++ (x ∷ [])))) (same_order o 0 h e)

-- the orders after those before them, and more lines after them
orders_told : (n : ℕ) (r : Option ℕ) (pre os qs : List Order) (more : List (List ℕ)) → all fit_order os ≡ true → numbered_from (length pre + 1) os ≡ true → Few (pre ++ os)
    → (m : ℕ) × (lines_read n (reading r pre qs) (map written_order os ++ more) ≡ lines_read m (reading r (pre ++ os) qs) more)
orders_told n r pre [] qs more h e f = (n, ap (λ l. lines_read n (reading r l qs) more) (sym (append-nil pre)))
orders_told n r pre (o ∷ os) qs more h e f =
    let fit = and_parts (fit_order o) (all fit_order os) h in
    let nums = and_parts (eqb o.number (length pre + 1)) (numbered_from (length pre + 1 + 1) os) e in
    let next : List Order = pre ++ (o ∷ []) in
    let whole : next ++ os ≡ pre ++ (o ∷ os) = append_assoc pre (o ∷ []) os in
    let rest = orders_told (n + 1) r next os qs more fit.1
    (subst (λ k. numbered_from (k + 1) os ≡ true) (sym (length_push pre o)) nums.1)
    (subst Few (sym whole) f) in (
      rest.0,
      sym (read_more n (reading r pre qs) (reading r next qs) (written_order o ∷ (map written_order os ++ more)) (map written_order os ++ more) (written_order o) refl
          (entered (n + 1) r pre os qs o fit.0 (eqb-true o.number (length pre + 1) nums.0) f))
          ∙ rest.1 ∙ ap (λ l. lines_read rest.0 (reading r l qs) more) whole,
    )

asks_told : (n : ℕ) (r : Option ℕ) (os pre qs : List Order) → all fit_order qs ≡ true → all is_unnumbered qs ≡ true → lines_read n (reading r os pre) (map written_ask qs) ≡ Ok (reading r os (pre ++ qs))
asks_told n r os pre [] h e = ap (λ l. Ok (reading r os l)) (sym (append-nil pre))
asks_told n r os pre (o ∷ qs) h e =
    let fit = and_parts (fit_order o) (all fit_order qs) h in
    let none = and_parts (is_unnumbered o) (all is_unnumbered qs) e in
    let next : List Order = pre ++ (o ∷ []) in
    sym (read_more n (reading r os pre) (reading r os next) (written_ask o ∷ map written_ask qs) (map written_ask qs) (written_ask o) refl
    (asked (n + 1) r os pre o fit.0 (eqb-true o.number 0 none.0)))
    ∙ asks_told (n + 1) r os next qs fit.1 none.1 ∙ ap (λ l. Ok (reading r os l)) (append_assoc pre (o ∷ []) qs)

map_clean : (w : Order → List ℕ) → ((o : Order) → fit_order o ≡ true → all clean (w o) ≡ true) → (os : List Order) → all fit_order os ≡ true → all (all clean) (map w os) ≡ true
map_clean w k [] h = refl
map_clean w k (o ∷ os) h = let both = and_parts (fit_order o) (all fit_order os) h in and_from (all clean (w o)) _ (k o both.0) (map_clean w k os both.1)

lines_clean : (s : Content) → Sound s → all (all clean) (study_lines s) ≡ true
lines_clean s h =
    and_from (all clean (written_reference s.reference)) _ (reference_clean s.reference h.high)
    (all_append (all clean) (map written_order s.orders) (map written_ask s.asks) (map_clean written_order order_clean s.orders h.orders_fit) (map_clean written_ask ask_clean s.asks h.asks_fit))

lines_told : (s : Content) → Sound s → lines_read 0 start (study_lines s) ≡ Ok (reading (Some s.reference) s.orders s.asks)
lines_told s h =
    let r = Some s.reference in
    let orders = orders_told 1 r [] s.orders [] (map written_ask s.asks) h.orders_fit h.numbers h.few in
    sym (read_more 0 start (reading r [] []) (study_lines s) (map written_order s.orders ++ map written_ask s.asks) (written_reference s.reference) refl
    (ap (after 1 start) (reference_line s.reference h.low h.high)))
    ∙ orders.1 ∙ asks_told orders.0 r s.orders [] s.asks h.asks_fit h.asks_unnumbered

pub told_again : (s : Content) → Sound s → study_of (written_study s) ≡ Ok s
told_again s h =
    let ls = study_lines s in
    ap (λ l. and_then (lines_read 0 start l) (finished (length l))) (lines_back ls (lines_clean s h))
    ∙ ap (λ x. and_then x (finished (length ls))) (lines_told s h)

pub answer_told : (r : Result Study StudyError) (t : List ℕ) → Agrees r content (study_of t) → (s : Content) → Sound s → t ≡ written_study s → Agrees r content (Ok s)
answer_told r t a s h e = subst (Agrees r content) (ap study_of e ∙ told_again s h) a
