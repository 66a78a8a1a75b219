use Rattle.std.proofs.Common.{cond, ap, ◌∙◌, ◌-◌, ◌==◌, rules}
use Rattle.std.proofs.lemmas.Iterator.{YieldsList-from_slice}
use Rattle.std.proofs.lemmas.Iterator.Consumers.{fold_from_yields_List}
use Rattle.words.specs.Orders.{resized}
use Rattle.execution.specs.Settling.{named_by}
use Rattle.execution.proofs.Settled.{taken_off}
use Rattle.execution.proofs.settling.left_of.Goals as goal

pub returns : goal.returns
returns c =
    let o = c.args.order in
    ap (resized o)
    (fold_from_yields_List _ (λ left l. left - cond (named_by c.args.side l == o.number) l.quantity 0) _ _ c.fold-left.ensures.ran (YieldsList-from_slice c.args.lines.now c.iter.ensures.rest) (λ a x b q k. search rules)
    ∙ taken_off (λ l. cond (named_by c.args.side l == o.number) l.quantity 0) o.quantity c.args.lines.now)
