-- The auction price, rule by rule (Article 20). Assumes nothing.
use Rattle.std.specs.Prelude.{ℕ, min, max, Bool, true, false, cond, not, ◌&&◌, List, [], ◌∷◌, Some, None, filter, Option, nat_le, nat_lt}
use Rattle.ranking.specs.Lists.{each}
use Rattle.pricing.specs.Sides.{Sides, volume, gap, positive, negative, balanced, limits}

-- those of some prices at which f is largest, and those at which it is smallest
abbrev pub largest : (ℕ → ℕ) → List ℕ → List ℕ
largest f ps = filter (λ p. each (λ q. nat_le (f q) (f p)) ps) ps

abbrev pub smallest : (ℕ → ℕ) → List ℕ → List ℕ
smallest f ps = filter (λ p. each (λ q. nat_le (f p) (f q)) ps) ps

-- the highest and the lowest of some prices
abbrev pub highest_with : ℕ → List ℕ → ℕ
highest_with p [] = p
highest_with p (q ∷ qs) = highest_with (max p q) qs

abbrev pub lowest_with : ℕ → List ℕ → ℕ
lowest_with p [] = p
lowest_with p (q ∷ qs) = lowest_with (min p q) qs

abbrev pub highest : List ℕ → ℕ
highest [] = 0
highest (p ∷ ps) = highest_with p ps

abbrev pub lowest : List ℕ → ℕ
lowest [] = 0
lowest (p ∷ ps) = lowest_with p ps

abbrev pub none : {X : Type 0} → List X → Bool
none [] = true
none (x ∷ xs) = false

-- Candidates: of the limit prices that execute a share, those that execute most, and of these the ones that leave least over.
abbrev pub candidates : Sides → List ℕ
candidates s = smallest (gap s) (largest (volume s) (filter (λ p. nat_lt 0 (volume s p)) (limits s)))

-- The span in which the price is sought where candidates differ in sign, or leave nothing over: from the highest with buyers left over to the lowest with sellers left over, or else from the lowest to the highest.
abbrev pub lower_end : Sides → List ℕ → ℕ
lower_end s cs = cond (each (balanced s) cs) (lowest cs) (highest (filter (positive s) cs))

abbrev pub upper_end : Sides → List ℕ → ℕ
upper_end s cs = cond (each (balanced s) cs) (highest cs) (lowest (filter (negative s) cs))

-- the price from end to end that is nearest to the reference price
abbrev pub nearest : ℕ → ℕ → ℕ → ℕ
nearest low high reference = max low (min high reference)

-- Of candidates: the highest if the surplus of all is positive, the lowest if that of all is negative, otherwise the price between the two ends.
abbrev pub chosen : Sides → ℕ → List ℕ → ℕ
chosen s reference cs =
    cond (each (positive s) cs) (highest cs)
    (cond (each (negative s) cs) (lowest cs)
    (nearest (lower_end s cs) (upper_end s cs) reference))

-- no limit order stands, and others stand on both sides
abbrev pub market_only : Sides → Bool
market_only s = none (limits s) && (not (none s.buys) && not (none s.sells))

-- Without a candidate: the reference price if only orders without a limit meet, else none.
abbrev pub price_of : Sides → ℕ → List ℕ → Option ℕ
price_of s reference [] = cond (market_only s) (Some reference) None
price_of s reference (c ∷ cs) = Some (chosen s reference (c ∷ cs))

abbrev pub auction_price : Sides → ℕ → Option ℕ
auction_price s reference = price_of s reference (candidates s)
