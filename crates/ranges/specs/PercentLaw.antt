-- Of which widths a percent set is made, and what it means, in words of prices. Assumes nothing.
use Rattle.std.specs.Prelude.{◌≡◌, ℕ, ◌*◌, ◌/◌, ◌≤◌, Some, None, Ok, Err, Decides, Result}
use Rattle.words.specs.declared.refusals.Refusal.{Refusal}
use Rattle.words.specs.Codes.{refusal_number}
use Rattle.words.specs.Refused.{first_due}
use Rattle.ranges.specs.declared.percent.PercentSet.{PercentSet}
use Rattle.ranges.specs.contracts.percent.PercentSetRangeSet.TheImpl.{ghosts}
use Rattle.ranges.specs.Sets.{Ranges, distance, Reaches}
use Rattle.ranges.specs.Percent.{make_rows, percent}

-- the meaning that a percent set shows as a range set
abbrev pub percent_meaning : PercentSet → Ranges
percent_meaning set = ghosts.meaning set

-- made where nothing is refused: the set has these widths, and means their ranges
abbrev pub Made : ℕ → ℕ → Result PercentSet Refusal → Type 0
Made static_width dynamic_width (Ok set) =
    (first_due (make_rows static_width dynamic_width) ≡ None)
    × (set.static_width.tenths ≡ static_width)
    × (set.dynamic_width.tenths ≡ dynamic_width)
    × (percent_meaning set ≡ percent static_width dynamic_width)
Made static_width dynamic_width (Err why) = first_due (make_rows static_width dynamic_width) ≡ Some why

-- both are from 1 to 1,000 tenths of a percent
abbrev pub Widths : ℕ → ℕ → Type 0
Widths static_width dynamic_width = (1 ≤ static_width) × (static_width ≤ 1000) × (1 ≤ dynamic_width) × (dynamic_width ≤ 1000)

-- made of all such widths; of any others refused with 8
abbrev pub LawOfMaking : ℕ → ℕ → Result PercentSet Refusal → Type 0
LawOfMaking static_width dynamic_width (Ok set) = Widths static_width dynamic_width
LawOfMaking static_width dynamic_width (Err why) = (refusal_number why ≡ 8) × (Widths static_width dynamic_width → ⊥)

-- Of every anchor and every price: which prices are inside; and how far the last of them is from the anchor, which is the width's part
-- of it, rounded down.
pub record LawOfPercent (static_width dynamic_width : ℕ) (m : Ranges) : Type 0 where
  pub inside_static : (anchor price : ℕ) → Decides (m.static anchor price) (distance price anchor * 1000 ≤ static_width * anchor)
  pub inside_dynamic : (anchor price : ℕ) → Decides (m.dynamic anchor price) (distance price anchor * 1000 ≤ dynamic_width * anchor)
  pub inside_extended_static : (anchor price : ℕ) → Decides (m.extended_static anchor price) (distance price anchor * 2000 ≤ 5 * static_width * anchor)
  pub inside_extended_dynamic : (anchor price : ℕ) → Decides (m.extended_dynamic anchor price) (distance price anchor * 2000 ≤ 5 * dynamic_width * anchor)
  pub last_static : Reaches m.static (λ anchor. static_width * anchor / 1000)
  pub last_dynamic : Reaches m.dynamic (λ anchor. dynamic_width * anchor / 1000)
  pub last_extended_static : Reaches m.extended_static (λ anchor. 5 * static_width * anchor / 2000)
  pub last_extended_dynamic : Reaches m.extended_dynamic (λ anchor. 5 * dynamic_width * anchor / 2000)
