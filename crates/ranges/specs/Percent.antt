-- Ranges that reach a part of their anchor to either side of it (Articles 42 to 44). Assumes nothing.
use Rattle.std.specs.Prelude.{ℕ, ◌*◌, Bool, not, ◌&&◌, List, [], ◌∷◌, nat_le}
use Rattle.words.specs.declared.refusals.Refusal.TheVariants.{ReferenceUnfit}
use Rattle.words.specs.Refused.{Row}
use Rattle.ranges.specs.Sets.{Ranges, distance}

-- a width is from 1 to 1,000 tenths of a percent
abbrev pub is_width : ℕ → Bool
is_width w = nat_le 1 w && nat_le w 1000

-- a percent set is made of two widths
abbrev pub make_rows : ℕ → ℕ → List Row
make_rows static_width dynamic_width = (not (is_width static_width && is_width dynamic_width), ReferenceUnfit) ∷ []

-- at most the width's part of the anchor away from it
abbrev pub within : ℕ → ℕ → ℕ → Bool
within width anchor price = nat_le (distance price anchor * 1000) (width * anchor)

-- at most two and a half times as far
abbrev pub within_extended : ℕ → ℕ → ℕ → Bool
within_extended width anchor price = nat_le (distance price anchor * 2000) (5 * width * anchor)

-- at most so many halves of the width's part of the anchor away from it
abbrev pub within_halves : ℕ → ℕ → ℕ → ℕ → Bool
within_halves halves width anchor price = nat_le (distance price anchor * 2000) (halves * width * anchor)

abbrev pub percent : ℕ → ℕ → Ranges
percent static_width dynamic_width = record {
  static = within static_width;
  dynamic = within dynamic_width;
  extended_static = within_extended static_width;
  extended_dynamic = within_extended dynamic_width;
}
