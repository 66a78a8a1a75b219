-- How quantities and prices are written. Assumes nothing.
use Rattle.std.specs.Prelude.{ℕ, zero, suc, ◌+◌, ◌/◌, ◌%◌, cond, List, [], ◌∷◌, ◌++◌, nat_lt}

-- the decimal digits of n, the highest first, where k of them are enough: those of a tenth of it, and then its last
abbrev pub digits : ℕ → ℕ → List ℕ
digits zero n = []
digits (suc k) n = cond (nat_lt n 10) ((48 + n) ∷ []) (digits k (n / 10) ++ ((48 + n % 10) ∷ []))

-- a number of 32 bits has at most ten digits
abbrev pub written : ℕ → List ℕ
written n = digits 10 n

-- a price in stotinki is written as leva, a point and two digits
abbrev pub written_price : ℕ → List ℕ
written_price p = written (p / 100) ++ (46 ∷ (48 + p / 10 % 10) ∷ (48 + p % 10) ∷ [])
