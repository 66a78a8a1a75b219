-- What holds of every side of an auction between calls. Assumes nothing.
use Rattle.std.specs.Prelude.{◌≡◌, ℕ, ◌<◌, ◌≤◌, List, length}
use Rattle.words.specs.declared.orders.Order.{Order}
use Rattle.ranking.specs.Lists.{In}
use Rattle.execution.specs.Laws.{count, Apart}

-- the orders of a side, when the number last given is known: at most 128, none of more than 1,000,000 shares;
-- no number stands twice; neither 0 nor a number that was not given yet stands
abbrev pub Sound : ℕ → List Order → Type 0
Sound last os =
    (length os ≤ 128) × ((o : Order) → In o os → o.quantity ≤ 1000000) × Apart os × ((n : ℕ) → last < n → count n os ≡ 0) × (count 0 os ≡ 0)
