use Rattle.std.proofs.Common.{sym, ap, ◌∙◌}
use Rattle.pricing.proofs.Prices.{law_of_price, price_replied}
use Rattle.pricing.proofs.standing.Standing.outcome.Goals as goal

pub returns-clause-law_of_price : goal.returns-clause-law_of_price
returns-clause-law_of_price c =
    let s = c.args.self.now in
    law_of_price s c.args.reference _ (sym (ap (λ o. o.price) c.outcome_at.ensures ∙ price_replied s _ ∙ c.auction_price.ensures))
