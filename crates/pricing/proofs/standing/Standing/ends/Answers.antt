use Rattle.std.proofs.Common.{◌≡◌, ap, ◌∙◌, rules}
use Rattle.pricing.specs.Sides.{limits, demand, supply}
use Rattle.pricing.specs.Passes.{widen, ends_from, no_ends}
use Rattle.pricing.proofs.standing.Standing.ends.Goals as goal

pub returns : goal.returns
returns c =
    let s = c.args.self.now in
    let none : c.default.result ≡ no_ends = search rules in
    c.fold_limits.ensures (λ e p. widen c.args.best e p (demand s p) (supply s p)) (λ e p r h. search rules)
    ∙ ap (λ e. ends_from s c.args.best e (limits s)) none
