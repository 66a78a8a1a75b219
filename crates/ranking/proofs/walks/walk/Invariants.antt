use Rattle.std.proofs.Common.{◌≡◌, ◌-◌, ◌++◌, take, drop}
use Rattle.ranking.specs.Lists.{total}
use Rattle.ranking.specs.Walks.{walked}
use Rattle.ranking.proofs.walks.walk.Given as goal

abbrev pub invariant-loop-e : goal.invariant-loop-e
invariant-loop-e g l =
    let o = g.T.Open in
    (take l.e-index l.entries ++ walked o.left o.lowered l.rest (drop l.e-index l.entries) ≡ walked o.left o.lowered l.volume l.initial.entries)
    × (l.rest - total o.left (drop l.e-index l.entries) ≡ l.volume - total o.left l.initial.entries)
