use Rattle.std.proofs.Common.{◌≡◌, ◌++◌, map, take, drop}
use Rattle.execution.specs.Settling.{left_by}
use Rattle.execution.proofs.settling.lower_all.Given as goal

abbrev pub invariant-loop-order : goal.invariant-loop-order
invariant-loop-order l = l.orders ≡ map (left_by l.side l.lines) (take l.order-index l.initial.orders) ++ drop l.order-index l.initial.orders
