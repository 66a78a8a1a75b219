use Rattle.std.proofs.Common.{◌∙◌, rules}
use Rattle.std.proofs.lemmas.Iterator.{YieldsList-from_slice}
use Rattle.std.proofs.lemmas.Iterator.Search.{all_from_yields_List}
use Rattle.std.specs.Option.{is_none}
use Rattle.words.specs.Terms.{limit_of}
use Rattle.pricing.proofs.Scans.{no_limits}
use Rattle.pricing.proofs.passes.no_limit.Goals as goal

pub returns : goal.returns
returns c =
    all_from_yields_List (λ o. is_none (limit_of o.terms)) _ _ _ c.all.ensures.ran (YieldsList-from_slice c.args.orders.now c.iter.ensures.rest) (λ x b q k. search rules)
    ∙ no_limits c.args.orders.now
