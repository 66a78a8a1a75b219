-- What the kind of an order and its limit allow. Assumes nothing.
use Rattle.std.specs.Prelude.{ℕ, Bool, true, cond, ◌&&◌, Some, None, Ok, Err, Option, Result, ◌==◌, nat_le}
use Rattle.words.specs.declared.sides.Side.{Side}
use Rattle.words.specs.declared.sides.Side.TheVariants.{Buy, Sell}
use Rattle.words.specs.declared.terms.Kind.{Kind}
use Rattle.words.specs.declared.terms.Kind.TheVariants as kinds
use Rattle.words.specs.declared.terms.Terms.{Terms}
use Rattle.words.specs.declared.terms.Terms.TheVariants.{Limit, Market, MarketToLimit}
use Rattle.words.specs.declared.refusals.Refusal.{Refusal}
use Rattle.words.specs.declared.refusals.Refusal.TheVariants.{PriceUnfit}

-- a price is from 1 to 1,000,000 stotinki
abbrev pub is_price : ℕ → Bool
is_price p = nat_le 1 p && nat_le p 1000000

-- a quantity is from 1 to 1,000,000 shares
abbrev pub is_quantity : ℕ → Bool
is_quantity q = nat_le 1 q && nat_le q 1000000

abbrev pub kind_of : Terms → Kind
kind_of (Limit l) = kinds.Limit
kind_of Market = kinds.Market
kind_of MarketToLimit = kinds.MarketToLimit

-- only a limit order has a limit
abbrev pub limit_of : Terms → Option ℕ
limit_of (Limit l) = Some l
limit_of Market = None
limit_of MarketToLimit = None

-- the price field of an order: 0 where it has no limit
abbrev pub price_in : Terms → ℕ
price_in (Limit l) = l
price_in Market = 0
price_in MarketToLimit = 0

-- a limit order has a price in its price field, the others have 0 there
abbrev pub price_fits : Kind → ℕ → Bool
price_fits kinds.Limit p = is_price p
price_fits kinds.Market p = p == 0
price_fits kinds.MarketToLimit p = p == 0

abbrev pub terms_for : Kind → ℕ → Terms
terms_for kinds.Limit p = Limit p
terms_for kinds.Market p = Market
terms_for kinds.MarketToLimit p = MarketToLimit

-- the terms that a kind and a price field make
abbrev pub terms_from : Kind → ℕ → Result Terms Refusal
terms_from k p = cond (price_fits k p) (Ok (terms_for k p)) (Err PriceUnfit)

-- a buy's limit allows every price up to it, a sell's every price from it on
abbrev pub allows : Side → ℕ → ℕ → Bool
allows Buy limit p = nat_le p limit
allows Sell limit p = nat_le limit p

-- an order without a limit can trade at every price
abbrev pub may_trade : Side → ℕ → Terms → Bool
may_trade x p (Limit l) = allows x l p
may_trade x p Market = true
may_trade x p MarketToLimit = true
