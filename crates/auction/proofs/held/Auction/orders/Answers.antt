use Rattle.std.proofs.Common.{sym, subst}
use Rattle.pricing.specs.Passes.{Few}
use Rattle.auction.proofs.Sounds.{few}
use Rattle.auction.proofs.held.Auction.orders.Goals as goal

pub returns-in-Buy-clause-few : goal.returns-in-Buy-clause-few
returns-in-Buy-clause-few c = subst Few (sym c.as_slice.ensures.value) (few _ _ c.args.self.now.buys_sound)

pub returns-in-Sell-clause-few : goal.returns-in-Sell-clause-few
returns-in-Sell-clause-few c = subst Few (sym c.as_slice-in-Sell.ensures.value) (few _ _ c.args.self.now.sells_sound)
