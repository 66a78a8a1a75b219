-- The digits that a number is written in, read again. Assumes nothing.
use Rattle.std.proofs.Common.{◌≡◌, ℕ, ◌+◌, ◌*◌, ◌/◌, ◌%◌, ◌^◌, ◌<◌, ◌≤◌, Bool, true, cond, ◌&&◌, List, [], ◌∷◌, ◌++◌, length, drop, Ok, Err, decimal, Result, sym, refl, ap, ◌∙◌, subst, arith, length-append, inl, inr, rules}
use Rattle.std.proofs.lemmas.List.{take_at, drop_at, drop-drop}
use Rattle.std.proofs.lemmas.Bool.{and_parts, cases_lt}
use Rattle.std.proofs.lemmas.Str.Parse.{IsNumeralModel, numerals_by_fold}
use Rattle.std.specs.Fmt.{format_spec, styled_decimal, padded_integral, char_count}
use Rattle.std.proofs.lemmas.Fmt.{decimal_digit, decimal_step, decimal_from_appends, digits_decimal, digits_value-decimal, decimal_nonempty, length-decimal-le}
use Rattle.std.proofs.lemmas.Bool.Decides.{nat_tests}
use Rattle.study.specs.declared.faults.Reason.{Reason}
use Rattle.study.specs.declared.faults.Reason.TheVariants.{PriceMalformed}
use Rattle.study.specs.Bytes.{all, is_digit}
use Rattle.study.specs.Numbers.{value, value_after, is_number, quantity_of, in_stotinki, decimal_price, point_at, price_of}
use Rattle.study.specs.Written.{digits, written, written_price}
use Rattle.study.proofs.Points.{at_point}

own : IsNumeralModel (λ ds. all is_digit ds ≡ true) value
own = numerals_by_fold _ (search rules) value_after (search rules)

pub same : (n : ℕ) → n < 2 ^ 32 → written n ≡ decimal n
same n small = decimal_from_appends digits (search rules) 10 n (omega arith) (length-decimal-le 10 n (omega arith) (omega arith) (omega arith))

-- what is written is a number, that number
pub record Reads (n : ℕ) (bs : List ℕ) : Type 0 where
  pub some : 0 < length bs
  pub figures : all is_digit bs ≡ true
  pub worth : value bs ≡ n

pub written_reads : (n : ℕ) → n ≤ 1000000 → Reads n (written n)
written_reads n small =
    let big : n < 2 ^ 64 = omega arith in
    subst (Reads n) (sym (same n (omega arith))) (record { some = decimal_nonempty n big; figures = digits_decimal own n big; worth = digits_value-decimal own n big })

quantity_reads : (n : ℕ) (bs : List ℕ) → 1 ≤ n → n ≤ 1000000 → Reads n bs → quantity_of bs ≡ Ok n
quantity_reads n bs low high r = let a = r.some in let b = r.figures in let e = r.worth in grind (arith, nat_tests)

-- the first point stands right after the digits before it
first_point : (bs ds : List ℕ) → all is_digit bs ≡ true → length bs ≡ point_at (bs ++ (46 ∷ ds))
first_point [] ds h = refl
first_point (b ∷ bs) ds h =
    let here = and_parts (is_digit b) (all is_digit bs) h in
    let rest = first_point bs ds here.1 in
    let digit = here.0 in
    grind (arith, nat_tests)

two_digits : (b : Bool) (q x y : ℕ) → b ≡ true → x < 10 → y < 10 → 1 ≤ 100 * q + 10 * x + y → 100 * q + 10 * x + y ≤ 1000000 → cond (b && is_number ((48 + x) ∷ (48 + y) ∷ [])) (in_stotinki q ((48 + x) ∷ (48 + y) ∷ [])) (Err PriceMalformed) ≡ Ok (100 * q + 10 * x + y)
two_digits b q x y t hx hy low high = grind (arith, nat_tests)

price_reads : (q x y p : ℕ) (bs : List ℕ) → Reads q bs → x < 10 → y < 10 → p ≡ 100 * q + 10 * x + y → 1 ≤ p → p ≤ 1000000 → price_of (bs ++ (46 ∷ (48 + x) ∷ (48 + y) ∷ [])) ≡ Ok p
price_reads q x y p bs r hx hy is low high =
    let ds : List ℕ = (48 + x) ∷ (48 + y) ∷ [] in
    let w : List ℕ = bs ++ (46 ∷ ds) in
    let n = length bs in
    let there : n < length w = simp length-append (omega arith) in
    let after : drop (n + 1) w ≡ ds = sym (drop-drop 1 n w) ∙ ap (drop 1) (drop_at bs (46 ∷ ds) n refl) in
    let good : is_number bs ≡ true = let a = r.some in let b = r.figures in grind (arith, nat_tests) in
    sym (at_point w n (first_point bs ds r.figures) there)
    ∙ ap (λ l. decimal_price l (drop (n + 1) w)) (take_at bs (46 ∷ ds) n refl)
    ∙ ap (decimal_price bs) after
    ∙ ap (λ v. cond (is_number bs && is_number ds) (in_stotinki v ds) (Err PriceMalformed)) r.worth
    ∙ two_digits (is_number bs) q x y good hx hy (omega arith) (omega arith)
    ∙ ap Ok (sym is)

pub quantity_back : (n : ℕ) → 1 ≤ n → n ≤ 1000000 → quantity_of (written n) ≡ Ok n
quantity_back n low high = quantity_reads n (written n) low high (written_reads n high)

pub price_back : (p : ℕ) → 1 ≤ p → p ≤ 1000000 → price_of (written_price p) ≡ Ok p
price_back p low high = price_reads (p / 100) (p / 10 % 10) (p % 10) p (written (p / 100)) (written_reads (p / 100) (omega arith)) (omega arith) (omega arith) (omega arith) low high

-- the same of a word that is known to be so written
pub quantity_written : (w : List ℕ) (r : Result ℕ Reason) → r ≡ quantity_of w → (n : ℕ) → 1 ≤ n → n ≤ 1000000 → w ≡ written n → r ≡ Ok n
quantity_written w r is n low high e = is ∙ ap quantity_of e ∙ quantity_back n low high

pub price_written : (w : List ℕ) (r : Result ℕ Reason) → r ≡ price_of w → (p : ℕ) → 1 ≤ p → p ≤ 1000000 → w ≡ written_price p → r ≡ Ok p
price_written w r is p low high e = is ∙ ap price_of e ∙ price_back p low high

-- what `{:02}` writes
abbrev places : ℕ → List ℕ
places n = styled_decimal (format_spec 32 0 4 2 18446744073709551615) n

one_digit : (n : ℕ) → n < 10 → places n ≡ (48 + n / 10) ∷ (48 + n % 10) ∷ []
unfolding padded_integral char_count
one_digit n small =
    let high : n / 10 ≡ 0 = omega arith in
    let low : n % 10 ≡ n = omega arith in
    rw (decimal_digit n small, high, low)

decimal_two : (n : ℕ) → 10 ≤ n → n < 100 → decimal n ≡ (48 + n / 10) ∷ (48 + n % 10) ∷ []
decimal_two n low high = decimal_step n low (omega arith) ∙ ap (λ ds. ds ++ ((48 + n % 10) ∷ [])) (decimal_digit (n / 10) (omega arith))

two_digits_shown : (n : ℕ) → 10 ≤ n → n < 100 → places n ≡ (48 + n / 10) ∷ (48 + n % 10) ∷ []
unfolding padded_integral char_count
two_digits_shown n low high = rw (decimal_two n low high)

two_places : (n : ℕ) → n < 100 → places n ≡ (48 + n / 10) ∷ (48 + n % 10) ∷ []
two_places n high = elim (cases_lt n 10) [ inl small ↦ one_digit n small | inr large ↦ two_digits_shown n large high ]

-- what is printed of a price is what is written of it
pub printed_price : (p : ℕ) → p < 2 ^ 32 → decimal (p / 100) ++ (46 ∷ places (p % 100)) ≡ written_price p
printed_price p small =
    let tenths : p % 100 / 10 ≡ p / 10 % 10 = omega arith in
    let hundredths : p % 100 % 10 ≡ p % 10 = omega arith in
    ap (λ l. l ++ (46 ∷ places (p % 100))) (sym (same (p / 100) (omega arith)))
    ∙ ap (λ l. written (p / 100) ++ (46 ∷ l)) (two_places (p % 100) (omega arith))
    ∙ ap (λ t. written (p / 100) ++ (46 ∷ (48 + t) ∷ (48 + p % 100 % 10) ∷ [])) tenths
    ∙ ap (λ h. written (p / 100) ++ (46 ∷ (48 + p / 10 % 10) ∷ (48 + h) ∷ [])) hundredths
