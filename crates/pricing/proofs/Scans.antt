-- The limits of a book, read order by order. Assumes nothing.
use Rattle.std.proofs.Common.{◌≡◌, ℕ, Bool, ◌&&◌, List, [], ◌∷◌, refl, sym, ap, ◌∙◌}
use Rattle.std.specs.List.{filter_map, list_all, cons_option}
use Rattle.std.specs.Option.{is_none}
use Rattle.words.specs.declared.orders.Order.{Order}
use Rattle.words.specs.declared.terms.Terms.{Terms}
use Rattle.words.specs.declared.terms.Terms.TheVariants.{Limit, Market, MarketToLimit}
use Rattle.words.specs.Terms.{limit_of}
use Rattle.pricing.specs.Sides.{limits_of, with_limit}
use Rattle.pricing.specs.Price.{none}

first_limit : (t : Terms) (ls : List ℕ) → with_limit t ls ≡ cons_option (limit_of t) ls
first_limit (Limit l) ls = refl
first_limit Market ls = refl
first_limit MarketToLimit ls = refl

-- the limits of some orders
pub limits_on : (os : List Order) → filter_map (λ o. limit_of o.terms) os ≡ limits_of os
limits_on [] = refl
limits_on (o ∷ os) = ap (cons_option (limit_of o.terms)) (limits_on os) ∙ sym (first_limit o.terms (limits_of os))

no_first : (t : Terms) (ls : List ℕ) (b : Bool) → b ≡ none ls → (is_none (limit_of t) && b) ≡ none (with_limit t ls)
no_first (Limit l) ls b e = refl
no_first Market ls b e = e
no_first MarketToLimit ls b e = e

-- no limit stands where no order has one
pub no_limits : (os : List Order) → list_all (λ o. is_none (limit_of o.terms)) os ≡ none (limits_of os)
no_limits [] = refl
no_limits (o ∷ os) = no_first o.terms (limits_of os) _ (no_limits os)
