-- Books with the answers that the rules give them, worked by hand. Quantities stand before their limits. Assumes nothing.
use Rattle.std.specs.Prelude.{◌≡◌, ℕ, [], ◌∷◌, ℤ, pos, negsuc, Some, None}
use Rattle.words.specs.declared.orders.Order.{Order}
use Rattle.words.specs.declared.sides.Side.{Side}
use Rattle.words.specs.declared.sides.Side.TheVariants.{Buy, Sell}
use Rattle.words.specs.declared.tape.Trade.{Trade}
use Rattle.words.specs.declared.terms.Terms.{Terms}
use Rattle.words.specs.declared.terms.Terms.TheVariants.{Limit, Market, MarketToLimit}
use Rattle.words.specs.declared.terms.Condition.TheVariants.{Unconditional}
use Rattle.pricing.specs.declared.outcomes.Outcome.{Outcome}
use Rattle.pricing.specs.Sides.{Sides, sides}
use Rattle.pricing.specs.Outcomes.{outcome_of}
use Rattle.book.specs.Asking.{answer_of}
use Rattle.book.specs.Striking.{trades_of, after_strike}

-- an order of condition none
abbrev pub order : ℕ → Side → ℕ → Terms → Order
order n x q t = record { number = n; side = x; terms = t; condition = Unconditional; quantity = q }

abbrev pub buy : ℕ → ℕ → ℕ → Order
buy n q l = order n Buy q (Limit l)

abbrev pub sell : ℕ → ℕ → ℕ → Order
sell n q l = order n Sell q (Limit l)

abbrev pub trade : ℕ → ℕ → ℕ → ℕ → Trade
trade b s p q = record { buy = b; sell = s; price = p; quantity = q }

abbrev pub no_price : Outcome
no_price = record { price = None; volume = 0; surplus = pos 0 }

abbrev pub at : ℕ → ℕ → ℤ → Outcome
at p v s = record { price = Some p; volume = v; surplus = s }

-- ---- the books

abbrev pub empty : Sides
empty = sides [] []

abbrev pub all_positive : Sides
all_positive = sides (buy 1 100 1002 ∷ buy 2 200 1000 ∷ []) (sell 3 150 998 ∷ sell 4 100 1001 ∷ [])

abbrev pub all_negative : Sides
all_negative = sides (buy 1 100 1002 ∷ []) (sell 2 150 998 ∷ [])

abbrev pub no_surplus : Sides
no_surplus = sides (buy 1 100 1004 ∷ []) (sell 2 100 1000 ∷ [])

abbrev pub two_ended : Sides
two_ended = sides (buy 1 100 1004 ∷ buy 2 50 1000 ∷ []) (sell 3 100 1000 ∷ sell 4 50 1004 ∷ [])

-- no limit stands
abbrev pub market_only : Sides
market_only = sides (order 1 Buy 70 Market ∷ order 2 Buy 50 MarketToLimit ∷ []) (order 3 Sell 100 Market ∷ [])

-- orders without a limit rank first, and by time among themselves; of equal limits the earlier ranks first
abbrev pub ranked : Sides
ranked = sides (buy 1 40 1000 ∷ buy 2 40 1000 ∷ order 3 Buy 30 MarketToLimit ∷ order 4 Buy 30 Market ∷ []) (sell 5 110 1000 ∷ [])

-- ---- the answers

pub record WorkedCases : Type 0 where
  pub empty_book : (reference : ℕ) → outcome_of empty reference ≡ no_price
  pub highest_where_all_are_positive : (reference : ℕ) → outcome_of all_positive reference ≡ at 1000 150 (pos 150)
  pub lowest_where_all_are_negative : (reference : ℕ) → outcome_of all_negative reference ≡ at 998 100 (negsuc 49)
  pub reference_where_nothing_is_left_over : outcome_of no_surplus 1002 ≡ at 1002 100 (pos 0)
  pub lowest_where_the_reference_is_lower : outcome_of no_surplus 990 ≡ at 1000 100 (pos 0)
  pub highest_where_the_reference_is_higher : outcome_of no_surplus 1010 ≡ at 1004 100 (pos 0)
  pub reference_between_the_ends : outcome_of two_ended 1002 ≡ at 1002 100 (pos 0)
  pub reference_below_both : outcome_of two_ended 990 ≡ at 1000 100 (pos 50)
  pub reference_above_both : outcome_of two_ended 1010 ≡ at 1004 100 (negsuc 49)
  pub market_orders_alone : (reference : ℕ) → outcome_of market_only reference ≡ at reference 100 (pos 20)
  pub lines_of_a_call : trades_of all_positive 1000 ≡ trade 1 3 1000 100 ∷ trade 2 3 1000 50 ∷ []
  pub book_after_it : after_strike all_positive 1000 ≡ sides (buy 2 150 1000 ∷ []) (sell 4 100 1001 ∷ [])
  pub rank_then_time : trades_of ranked 1000 ≡ trade 3 5 1000 30 ∷ trade 4 5 1000 30 ∷ trade 1 5 1000 40 ∷ trade 2 5 1000 10 ∷ []
  -- with 60 more at 1,001 the price moves up to 1,001, where 160 trade and 90 stay unsold: the asked order is filled whole behind the buy at 1,002
  pub asked_order_moves_the_price : answer_of all_positive (buy 0 60 1001) 1000 ≡ record { outcome = at 1001 160 (negsuc 89); shares = 60 }
  pub asked_order_gets_nothing : answer_of all_positive (buy 0 60 999) 1000 ≡ record { outcome = at 1000 150 (pos 150); shares = 0 }
