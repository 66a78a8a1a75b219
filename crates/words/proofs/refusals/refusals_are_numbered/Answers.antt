use Rattle.std.proofs.Common.{refl}
use Rattle.words.proofs.Numbers.{leads_back, leads_only}
use Rattle.words.proofs.refusals.refusals_are_numbered.Goals as goal

pub returns : goal.returns
returns c = record { refusals_back = leads_back; refusals_only = leads_only; numbers = refl }
