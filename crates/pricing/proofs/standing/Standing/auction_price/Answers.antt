use Rattle.std.proofs.Common.{cond, Some, None, ap, ◌∙◌, arith}
use Rattle.pricing.specs.Passes.{choice}
use Rattle.pricing.proofs.Passing.{passes_find, passes_miss, then_some_is}
use Rattle.pricing.proofs.standing.Standing.auction_price.Goals as goal

pub returns-then-best-gt0 : goal.returns-then-best-gt0
returns-then-best-gt0 c =
    c.choose.ensures ∙ ap (λ e. choice e c.args.reference) c.ends.ensures
    ∙ passes_find c.args.self.now c.args.reference c.best-best.result c.best-best.ensures c.if-best-gt0.true

pub returns : goal.returns
returns c =
    c.then_some.ensures ∙ then_some_is c.is_market_only.result c.args.reference ∙ ap (λ u. cond u (Some c.args.reference) None) c.is_market_only.ensures
    ∙ passes_miss c.args.self.now c.args.reference c.best-best.result c.best-best.ensures (omega arith)
