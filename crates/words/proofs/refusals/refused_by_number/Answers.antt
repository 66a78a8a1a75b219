use Rattle.words.proofs.Refusing.{rightly}
use Rattle.words.proofs.refusals.refused_by_number.Goals as goal

pub returns : goal.returns
returns c = rightly 0
