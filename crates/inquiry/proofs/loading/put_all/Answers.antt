use Rattle.std.proofs.Common.{IsOk, subst}
use Rattle.std.proofs.lemmas.Bool.{false≢true}
use Rattle.auction.specs.States.{view}
use Rattle.inquiry.proofs.Loaded.{one_more, one_taken}
use Rattle.inquiry.proofs.loading.put_all.Goals as goal

pub loop-order-preserved : goal.loop-order-preserved
loop-order-preserved c fit empty =
    one_more c.args.auction.now.reference c.args.orders.now c.loop-order.order-index fit c.loop-order-test.true (view c.loop-order.auction) _ _ _ c.from.ensures (c.loop-order.invariant fit empty) c.enter.ensures

pub returns-in_err-enter : goal.returns-in_err-enter
returns-in_err-enter c fit empty =
    let taken = one_taken c.args.auction.now.reference c.args.orders.now c.loop-order.order-index fit c.loop-order-test.true (view c.loop-order.auction) _ _ _ c.from.ensures (c.loop-order.invariant fit empty) c.enter.ensures in
    absurd (false≢true (subst IsOk c.in_err-enter.was taken))
