-- How a study is written. Assumes nothing.
use Rattle.std.specs.Prelude.{ℕ, List, [], ◌∷◌, ◌++◌, map, codes}
use Rattle.std.specs.List.{flat_map}
use Rattle.words.specs.declared.orders.Order.{Order}
use Rattle.words.specs.declared.sides.Side.{Side}
use Rattle.words.specs.declared.sides.Side.TheVariants.{Buy, Sell}
use Rattle.words.specs.declared.terms.Terms.{Terms}
use Rattle.words.specs.declared.terms.Terms.TheVariants.{Limit, Market, MarketToLimit}
use Rattle.study.specs.Studies.{Content}
use Rattle.study.specs.Written.{written, written_price}

abbrev pub side_word : Side → List ℕ
side_word Buy = codes "buy"
side_word Sell = codes "sell"

abbrev pub written_terms : Terms → List ℕ
written_terms (Limit p) = codes "at " ++ written_price p
written_terms Market = codes "market"
written_terms MarketToLimit = codes "market-to-limit"

-- the side, the quantity and the terms, a space between them
abbrev pub written_order : Order → List ℕ
written_order o = side_word o.side ++ (32 ∷ (written o.quantity ++ (32 ∷ written_terms o.terms)))

abbrev pub written_ask : Order → List ℕ
written_ask o = codes "ask " ++ written_order o

abbrev pub written_reference : ℕ → List ℕ
written_reference p = codes "reference " ++ written_price p

-- the reference, the orders, and what is asked
abbrev pub study_lines : Content → List (List ℕ)
study_lines s = written_reference s.reference ∷ (map written_order s.orders ++ map written_ask s.asks)

-- each line with a line feed after it
abbrev pub written_study : Content → List ℕ
written_study s = flat_map (λ l. l ++ (10 ∷ [])) (study_lines s)
