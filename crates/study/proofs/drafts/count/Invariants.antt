use Rattle.std.proofs.Common.{◌≡◌, ◌≤◌, take}
use Rattle.study.specs.Studies.{count_on}
use Rattle.study.proofs.drafts.count.Given as goal

abbrev pub invariant-loop-order : goal.invariant-loop-order
invariant-loop-order l = (l.n ≡ count_on l.side (take l.order-index l.orders)) × (l.n ≤ l.order-index)
