use Rattle.std.proofs.Common.{◌≡◌, ◌+◌, drop}
use Rattle.execution.specs.Shares.{open_of}
use Rattle.execution.proofs.sharing.open_of.Given as goal

abbrev pub invariant-loop-order : goal.invariant-loop-order
invariant-loop-order l = l.sum + open_of l.number (drop l.order-index l.orders) ≡ open_of l.number l.orders
