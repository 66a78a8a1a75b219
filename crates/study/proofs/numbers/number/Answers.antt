use Rattle.std.proofs.Common.{◌≡◌, ◌∙◌, arith, rules}
use Rattle.std.specs.List.{fold}
use Rattle.std.proofs.iter.runs.Made.{chains}
use Rattle.study.proofs.Capped.{grown, folded}
use Rattle.study.proofs.numbers.number.Goals as goal

pub returns : goal.returns
returns c =
    let sum : c.fold.result ≡ fold grown 0 c.args.digits.now = search (rules, chains) in
    sum ∙ folded 0 c.args.digits.now (omega arith)
