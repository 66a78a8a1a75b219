use Rattle.std.proofs.Common.{◌≡◌, ◌+◌, ◌*◌, ◌≤◌, drop}
use Rattle.pricing.specs.Sides.{open_at}
use Rattle.pricing.proofs.demands.open_at.Given as goal

abbrev pub invariant-loop-order : goal.invariant-loop-order
invariant-loop-order l = (l.sum + open_at l.side l.price (drop l.order-index l.orders) ≡ open_at l.side l.price l.orders) × (l.sum ≤ 1000000 * l.order-index)
