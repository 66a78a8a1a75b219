use Rattle.std.proofs.Common.{get_or, set, ap, ◌∙◌, arith}
use Rattle.std.proofs.lemmas.List.Edits.{map_over_more}
use Rattle.std.proofs.lemmas.List.{get_or_default}
use Rattle.words.specs.Orders.{no_order}
use Rattle.execution.specs.Settling.{left_by}
use Rattle.execution.proofs.settling.lower_all.Goals as goal

pub loop-order-preserved : goal.loop-order-preserved
loop-order-preserved c =
    let l = c.loop-order in
    let i = l.order-index in
    let x = get_or l.orders i no_order in
    ap (set l.orders i) c.left_of.ensures
    ∙ map_over_more (left_by c.args.side c.args.lines.now) c.args.orders.now l.orders i x c.loop-order-test.true l.invariant (get_or_default l.orders i no_order x (omega arith))
