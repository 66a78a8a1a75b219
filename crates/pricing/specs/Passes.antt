-- The auction price by two passes over the limits: the best volume and surplus, and the ends of the prices that have them. Assumes nothing.
use Rattle.std.specs.Prelude.{◌≡◌, ℕ, ◌+◌, ◌-◌, ◌≤◌, min, max, Bool, cond, ◌&&◌, ◌||◌, List, length, Some, None, fold, Option, ◌==◌, nat_lt, slice_index_or}
use Rattle.words.specs.declared.orders.Order.{Order}
use Rattle.words.specs.Orders.{no_order}
use Rattle.pricing.specs.declared.passes.Merit.{Merit}
use Rattle.pricing.specs.declared.passes.Ends.{Ends}
use Rattle.pricing.specs.Sides.{Sides, demand, supply}
use Rattle.pricing.specs.Price.{nearest}

-- few enough that sums fit: a full side and one asked order
pub record Few (os : List Order) : Type 0 where
  pub many : length os ≤ 129
  pub large : (k : ℕ) → (slice_index_or os k no_order).quantity ≤ 1000000

abbrev pub merit_of : ℕ → ℕ → Merit
merit_of d s = record { volume = min d s; gap = (d - s) + (s - d) }

-- more volume, or as much with a smaller surplus
abbrev pub better : Merit → Merit → Merit
better y x = cond (nat_lt y.volume x.volume || (x.volume == y.volume && nat_lt x.gap y.gap)) x y

abbrev pub best_from : Sides → Merit → List ℕ → Merit
best_from s start ps = fold (λ y p. better y (merit_of (demand s p) (supply s p))) start ps

abbrev pub or_higher : Option ℕ → ℕ → Option ℕ
or_higher None p = Some p
or_higher (Some x) p = Some (max x p)

abbrev pub or_lower : Option ℕ → ℕ → Option ℕ
or_lower None p = Some p
or_lower (Some x) p = Some (min x p)

abbrev pub as_good : Merit → ℕ → ℕ → Bool
as_good y d s = min d s == y.volume && (d - s) + (s - d) == y.gap

-- a price counts where it is as good as the best: by the sign of its surplus
abbrev pub widen : Merit → Ends → ℕ → ℕ → ℕ → Ends
widen y e p d s = record {
  above = cond (as_good y d s && nat_lt s d) (or_higher e.above p) e.above;
  below = cond (as_good y d s && nat_lt d s) (or_lower e.below p) e.below;
  low = cond (as_good y d s && d == s) (or_lower e.low p) e.low;
  high = cond (as_good y d s && d == s) (or_higher e.high p) e.high;
}

abbrev pub ends_from : Sides → Merit → Ends → List ℕ → Ends
ends_from s y start ps = fold (λ e p. widen y e p (demand s p) (supply s p)) start ps

abbrev pub from_balanced : Option ℕ → Option ℕ → ℕ → Option ℕ
from_balanced (Some low) (Some high) reference = Some (nearest low high reference)
from_balanced (Some low) None reference = None
from_balanced None (Some high) reference = None
from_balanced None None reference = None

abbrev pub from_ends : Option ℕ → Option ℕ → Option ℕ → ℕ → Option ℕ
from_ends (Some above) (Some below) balanced reference = Some (nearest above below reference)
from_ends (Some above) None balanced reference = Some above
from_ends None (Some below) balanced reference = Some below
from_ends None None balanced reference = balanced

abbrev pub choice : Ends → ℕ → Option ℕ
choice e reference = from_ends e.above e.below (from_balanced e.low e.high reference) reference

abbrev pub nothing : Merit
nothing = record { volume = 0; gap = 0 }

abbrev pub no_ends : Ends
no_ends = record { above = None; below = None; low = None; high = None }

-- the step of a fold over prices that gives what f says
abbrev pub Gives : {A : Type 0} → (A → ℕ → A → Type 0) → (A → ℕ → A) → Type 0
Gives {A} step f = (a : A) (p : ℕ) (r : A) → step a p r → r ≡ f a p
