-- What the digits of a quantity and of a price say. Assumes nothing.
use Rattle.std.specs.Prelude.{ℕ, ◌+◌, ◌-◌, ◌*◌, Bool, cond, ◌&&◌, List, [], ◌∷◌, length, take, drop, Ok, Err, Result, ◌==◌, nat_lt}
use Rattle.std.specs.List.{prefix_len}
use Rattle.words.specs.Terms.{is_price, is_quantity}
use Rattle.study.specs.declared.faults.Reason.{Reason}
use Rattle.study.specs.declared.faults.Reason.TheVariants.{PriceMalformed, PriceDecimals, PriceRange, QuantityMalformed, QuantityRange}
use Rattle.study.specs.Bytes.{all, is_digit, is_whole}

-- the number that decimal digits write after the number n: each digit makes it tenfold and adds itself
abbrev pub value_after : ℕ → List ℕ → ℕ
value_after n [] = n
value_after n (b ∷ bs) = value_after (n * 10 + (b - 48)) bs

-- the number that decimal digits write, however many they are
abbrev pub value : List ℕ → ℕ
value bs = value_after 0 bs

-- one or more decimal digits
abbrev pub is_number : List ℕ → Bool
is_number bs = nat_lt 0 (length bs) && all is_digit bs

-- quantities and prices are from 1 to 1,000,000
abbrev pub ranged : ℕ → Reason → Result ℕ Reason
ranged n e = cond (is_price n) (Ok n) (Err e)

-- a quantity is digits, and from 1 to 1,000,000
abbrev pub quantity_of : List ℕ → Result ℕ Reason
quantity_of w = cond (is_number w) (cond (is_quantity (value w)) (Ok (value w)) (Err QuantityRange)) (Err QuantityMalformed)

-- a price is from 1 to 1,000,000 stotinki
abbrev pub ranged_price : ℕ → Result ℕ Reason
ranged_price p = cond (is_price p) (Ok p) (Err PriceRange)

-- one decimal is tenths of a lev, two are hundredths, and more there are not
abbrev pub in_stotinki : ℕ → List ℕ → Result ℕ Reason
in_stotinki leva ds =
    cond (length ds == 1) (ranged_price (100 * leva + 10 * value ds))
    (cond (length ds == 2) (ranged_price (100 * leva + value ds)) (Err PriceDecimals))

-- a price with a point: digits before it, and digits after it
abbrev pub decimal_price : List ℕ → List ℕ → Result ℕ Reason
decimal_price leva ds = cond (is_number leva && is_number ds) (in_stotinki (value leva) ds) (Err PriceMalformed)

-- how many bytes stand before the first point
abbrev pub point_at : List ℕ → ℕ
point_at w = prefix_len is_whole w

-- a price is leva, with or without a point and decimals
abbrev pub price_of : List ℕ → Result ℕ Reason
price_of w =
    cond (nat_lt (point_at w) (length w)) (decimal_price (take (point_at w) w) (drop (point_at w + 1) w))
    (cond (is_number w) (ranged_price (100 * value w)) (Err PriceMalformed))
