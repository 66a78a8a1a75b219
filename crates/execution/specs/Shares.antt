-- What of a volume falls to one order. Assumes nothing.
use Rattle.std.specs.Prelude.{ℕ, ◌+◌, ◌-◌, min, cond, List, [], ◌∷◌, ◌==◌}
use Rattle.words.specs.declared.orders.Order.{Order}
use Rattle.ranking.specs.Lists.{total}

-- what is open under a number
abbrev pub open_of : ℕ → List Order → ℕ
open_of n os = total (λ o. cond (o.number == n) o.quantity 0) os

-- what a volume that is taken down the list takes from a number
abbrev pub share : ℕ → ℕ → List Order → ℕ
share n v [] = 0
share n v (x ∷ xs) = cond (x.number == n) (min v x.quantity) 0 + share n (v - x.quantity) xs
