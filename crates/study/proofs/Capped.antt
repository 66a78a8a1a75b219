-- A number that stops at a cap goes on as the number itself, up to that cap. Assumes nothing.
use Rattle.std.proofs.Common.{◌≡◌, ℕ, ◌+◌, ◌-◌, ◌*◌, ◌≤◌, min, List, [], ◌∷◌, sym, ap, ◌∙◌, arith}
use Rattle.std.specs.List.{fold}
use Rattle.study.specs.Numbers.{value_after}

abbrev cap : ℕ → ℕ
cap n = min n 1000001

one : (m d : ℕ) → cap (cap m * 10 + d) ≡ cap (m * 10 + d)
one m d = omega arith

pub capped : (m : ℕ) (bs : List ℕ) → cap (value_after (cap m) bs) ≡ cap (value_after m bs)
capped m [] = omega arith
capped m (b ∷ bs) =
    sym (capped (cap m * 10 + (b - 48)) bs) ∙ ap (λ n. cap (value_after n bs)) (one m (b - 48)) ∙ capped (m * 10 + (b - 48)) bs

-- one digit more, as the code adds it
abbrev pub grown : ℕ → ℕ → ℕ
grown n b = cap (min (min (n * 10) 4294967295 + (b - 48)) 4294967295)

below : (n d : ℕ) → cap (min (min (n * 10) 4294967295 + d) 4294967295) ≡ cap (n * 10 + d)
below n d = omega arith

pub folded : (n : ℕ) (bs : List ℕ) → n ≤ 1000001 → fold grown n bs ≡ cap (value_after n bs)
folded n [] h = omega arith
folded n (b ∷ bs) h =
    folded (grown n b) bs (omega arith) ∙ ap (λ k. cap (value_after k bs)) (below n (b - 48)) ∙ capped (n * 10 + (b - 48)) bs
