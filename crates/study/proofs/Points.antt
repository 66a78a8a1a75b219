-- The parts of a word before and after its point, as the code cuts them. Assumes nothing.
use Rattle.std.proofs.Common.{◌≡◌, ℕ, ◌+◌, ◌<◌, ltb, List, length, take, drop, sym, ap, ◌∙◌, subst}
use Rattle.std.proofs.lemmas.Bool.{cond-true, lt-ltb}
use Rattle.study.specs.Numbers.{point_at, decimal_price, price_of}

-- a price with a point is read from its two parts
pub at_point : (w : List ℕ) (n : ℕ) → n ≡ point_at w → n < length w → decimal_price (take n w) (drop (n + 1) w) ≡ price_of w
at_point w n e h =
    let there : point_at w < length w = subst (λ k. k < length w) e h in
    ap (λ k. decimal_price (take k w) (drop (k + 1) w)) e ∙ sym (cond-true (ltb (point_at w) (length w)) _ _ (lt-ltb (point_at w) (length w) there))
