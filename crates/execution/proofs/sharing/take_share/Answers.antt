use Rattle.std.proofs.Common.{ap, arith}
use Rattle.ranking.specs.Lists.{total}
use Rattle.execution.specs.Shares.{open_of}
use Rattle.execution.proofs.Taken.{taken_share, taken_less}
use Rattle.execution.proofs.sharing.take_share.Goals as goal

pub open_of-requires : goal.open_of-requires
open_of-requires c = omega (arith, ap (total (λ o. o.quantity)) c.walk.ensures.after, taken_less c.args.volume c.args.ranked.now, c.requires)

pub overflow_sub-result : goal.overflow_sub-result
overflow_sub-result c = omega (arith, c.open_of-had.ensures, c.open_of.ensures, ap (open_of c.args.number) c.walk.ensures.after, taken_share c.args.number c.args.volume c.args.ranked.now)

pub returns : goal.returns
returns c = omega (arith, c.open_of-had.ensures, c.open_of.ensures, ap (open_of c.args.number) c.walk.ensures.after, taken_share c.args.number c.args.volume c.args.ranked.now)
