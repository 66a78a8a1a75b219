use Rattle.std.proofs.Common.{◌≡◌, [], take}
use Rattle.auction.specs.States.{view}
use Rattle.inquiry.specs.Loading.{holding, FitOrders}
use Rattle.inquiry.proofs.loading.put_all.Given as goal

-- so far every order has entered
abbrev pub invariant-loop-order : goal.invariant-loop-order
invariant-loop-order l =
    let reference = l.initial.auction.reference in
    FitOrders l.orders → view l.initial.auction ≡ holding reference [] → view l.auction ≡ holding reference (take l.order-index l.orders)
