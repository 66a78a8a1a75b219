use Rattle.std.proofs.Common.{ap, ◌∙◌, arith}
use Rattle.ranking.specs.Lists.{total}
use Rattle.execution.proofs.Sided.{ready_total}
use Rattle.execution.proofs.sharing.share_on.Goals as goal

pub take_share-requires : goal.take_share-requires
take_share-requires c =
    let same = c.as_mut_slice.ensures.value ∙ c.rank_ready.ensures.items in
    omega (arith, ap (total (λ o. o.quantity)) same, ready_total c.args.side c.args.price (λ o. o.quantity) c.args.orders.now, c.requires.1)
