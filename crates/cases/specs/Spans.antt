-- Price ranges around an anchor, worked by hand. Assumes nothing.
use Rattle.std.specs.Prelude.{◌≡◌, ℕ, ◌+◌, ◌-◌, true, false}
use Rattle.ranges.specs.Sets.{Prices, Ranges}
use Rattle.ranges.specs.Percent.{percent}

-- inside at both ends, and outside one stotinka beyond either
abbrev pub Ends : Prices → ℕ → ℕ → Type 0
Ends prices lowest highest =
    (prices (lowest - 1) ≡ false) × (prices lowest ≡ true) × (prices highest ≡ true) × (prices (highest + 1) ≡ false)

-- 5 % static and 2 % dynamic
abbrev pub five_and_two : Ranges
five_and_two = percent 50 20

pub record WorkedRanges : Type 0 where
  pub static_range : Ends (five_and_two.static 1000) 950 1050
  pub dynamic_range : Ends (five_and_two.dynamic 1000) 980 1020
  pub extended_static_range : Ends (five_and_two.extended_static 1000) 875 1125
  pub extended_dynamic_range : Ends (five_and_two.extended_dynamic 1000) 950 1050
  -- 5 % of 999 are 49.95 stotinki, and two and a half times as much are 124.875
  pub part_of_a_stotinka : Ends (five_and_two.static 999) 950 1048
  pub part_of_a_stotinka_extended : Ends (five_and_two.extended_static 999) 875 1123
  -- less than a stotinka: the anchor alone
  pub narrowest_width : Ends ((percent 1 1).static 450) 450 450
  pub narrowest_width_extended : Ends ((percent 1 1).extended_static 450) 449 451
  -- two and a half times the anchor to either side, which leaves nothing out below
  pub highest_anchor_and_width :
      ((percent 1000 1000).extended_static 1000000 0 ≡ true)
      × ((percent 1000 1000).extended_static 1000000 3500000 ≡ true)
      × ((percent 1000 1000).extended_static 1000000 3500001 ≡ false)
