use Rattle.std.proofs.Common.{vec_items, arith}
use Rattle.study.proofs.Entering.{next_small}
use Rattle.study.proofs.drafts.Draft.numbered.Goals as goal

pub overflow_cast-number : goal.overflow_cast-number
overflow_cast-number c =
    let draft = c.args.self.now in
    let small = next_small (vec_items draft.orders) _ c.len.result draft.sound.few draft.orders.ok.0 c.len.ensures in
    omega (arith, small)
