use Rattle.std.proofs.Common.{arith}
use Rattle.std.proofs.lemmas.List.{at_drop_more}
use Rattle.words.specs.Orders.{no_order}
use Rattle.execution.specs.Shares.{open_of}
use Rattle.execution.proofs.Taken.{open_under}
use Rattle.execution.proofs.sharing.open_of.Goals as goal

pub overflow_add-sum : goal.overflow_add-sum
overflow_add-sum c =
    let more = at_drop_more (open_of c.args.number) c.args.orders.now c.loop-order.order-index no_order c.loop-order-test.true in
    omega (arith, open_under c.args.number c.args.orders.now, c.part_under-sum.ensures, c.requires)
