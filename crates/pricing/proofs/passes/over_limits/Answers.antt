use Rattle.std.proofs.Common.{fold, ap, ◌∙◌, rules, of_calls}
use Rattle.std.specs.Slice.Iter.{iter_rest}
use Rattle.std.proofs.lemmas.Iterator.{YieldsList-from_slice}
use Rattle.std.proofs.lemmas.Iterator.Consumers.{YieldsList-from_filter_map, fold_from_yields_List}
use Rattle.words.specs.Terms.{limit_of}
use Rattle.pricing.proofs.Scans.{limits_on}
use Rattle.pricing.proofs.passes.over_limits.Goals as goal

pub returns : goal.returns
returns g c f h =
    fold_from_yields_List _ f _ _ c.fold.ensures.ran
    (YieldsList-from_filter_map _ (λ o. limit_of o.terms) (YieldsList-from_slice c.args.orders.now (ap iter_rest c.filter_map.ensures.source ∙ c.iter.ensures.rest)) c.filter_map.ensures.closure (λ x r q k. search rules))
    (λ a x b q k. search (rules, of_calls, h a x b, g.met.F.Fn, k))
    ∙ ap (fold f c.args.start) (limits_on c.args.orders.now)
