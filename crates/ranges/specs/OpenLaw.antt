-- What the open set means, in words of prices. Assumes nothing.
use Rattle.std.specs.Prelude.{◌≡◌, ℕ, true}
use Rattle.ranges.specs.declared.open.OpenSet.{OpenSet}
use Rattle.ranges.specs.contracts.open.OpenSetRangeSet.TheImpl.{ghosts}
use Rattle.ranges.specs.Sets.{Ranges}

-- the meaning that the open set shows as a range set
abbrev pub open_meaning : OpenSet → Ranges
open_meaning set = ghosts.meaning set

-- of every anchor: every price is inside
pub record LawOfOpen (m : Ranges) : Type 0 where
  pub inside_static : (anchor price : ℕ) → m.static anchor price ≡ true
  pub inside_dynamic : (anchor price : ℕ) → m.dynamic anchor price ≡ true
  pub inside_extended_static : (anchor price : ℕ) → m.extended_static anchor price ≡ true
  pub inside_extended_dynamic : (anchor price : ℕ) → m.extended_dynamic anchor price ≡ true
