use Rattle.std.proofs.Common.{sym, ◌∙◌}
use Rattle.std.proofs.lemmas.List.{set-get_or}
use Rattle.ranking.proofs.Walking.{walk_used}
use Rattle.ranking.proofs.walks.walk.Goals as goal

pub returns-then-rest-eq0-clause-after : goal.returns-then-rest-eq0-clause-after
returns-then-rest-eq0-clause-after g c =
    let o = g.T.Open in
    let l = c.loop-e in
    set-get_or _ _ _ ∙ sym (walk_used o.left o.lowered g.met.T.Open.by_nothing l.entries l.e-index l.rest c.if-rest-eq0.true) ∙ l.invariant.0
