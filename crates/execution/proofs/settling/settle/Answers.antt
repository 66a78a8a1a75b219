use Rattle.std.proofs.Common.{filter, map, ap, ◌∙◌, rules}
use Rattle.std.proofs.lemmas.Fn.{filter_same}
use Rattle.std.proofs.lemmas.List.{with_items_is}
use Rattle.execution.specs.Settling.{stands, left_by}
use Rattle.execution.proofs.settling.settle.Goals as goal

pub returns-clause-items : goal.returns-clause-items
returns-clause-items c =
    filter_same _ stands _ (λ x b f' k. search rules) _ _ c.retain.ensures.filtered
    ∙ ap (filter stands) (with_items_is c.args.orders.now c.lower_all.new.orders (search rules) ∙ c.lower_all.ensures ∙ ap (map (left_by c.args.side c.args.lines.now)) c.as_mut_slice.ensures.value)
