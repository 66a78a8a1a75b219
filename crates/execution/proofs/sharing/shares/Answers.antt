use Rattle.std.proofs.Common.{◌≡◌, ℕ, List, sym, ◌∙◌, rules}
use Rattle.words.specs.declared.orders.Order.{Order}
use Rattle.words.specs.declared.sides.Side.{Side}
use Rattle.words.specs.declared.sides.Side.TheVariants.{Buy, Sell}
use Rattle.pricing.specs.Sides.{Sides, volume}
use Rattle.execution.specs.Execution.{ready, executed}
use Rattle.execution.specs.Laws.{standing}
use Rattle.execution.specs.Settling.{traded}
use Rattle.execution.specs.Shares.{share}
use Rattle.execution.proofs.Executes.{traded_share}
use Rattle.execution.proofs.Taken.{few_fit}
use Rattle.execution.proofs.sharing.shares.Goals as goal

so : (x y : Side) (s : Sides) (os : List Order) (p n v r : ℕ) → x ≡ y → os ≡ standing y s → v ≡ volume s p → r ≡ share n v (ready x p os) → r ≡ traded x n (executed s p)
so x y s os p n v r same all e h =
    h ∙ (λ i. share n (e i) (ready x p ((all ∙ (λ j. standing (sym same j) s)) i))) ∙ sym (traded_share s p x n)

pub share_on-requires : goal.share_on-requires
share_on-requires c = (search (rules, c.buys-buys.ensures.few), few_fit c.args.side c.args.price _ c.buys-buys.ensures.few)

pub share_on-requires-in-Sell : goal.share_on-requires-in-Sell
share_on-requires-in-Sell c = (search (rules, c.sells-sells.ensures.few), few_fit c.args.side c.args.price _ c.sells-sells.ensures.few)

pub returns-in-Buy : goal.returns-in-Buy
returns-in-Buy c = so c.args.side Buy c.args.standing.now _ c.args.price c.args.number _ _ c.in-Buy.is c.buys-buys.ensures.value c.volume-volume.ensures c.share_on.ensures.value

pub returns-in-Sell : goal.returns-in-Sell
returns-in-Sell c = so c.args.side Sell c.args.standing.now _ c.args.price c.args.number _ _ c.in-Sell.is c.sells-sells.ensures.value c.volume-volume.ensures c.share_on-in-Sell.ensures.value
