use Rattle.std.proofs.Common.{◌<◌, length, sym, ◌∙◌, arith, false-eqb}
use Rattle.study.proofs.Lines.{cut_last, cut_more}
use Rattle.study.proofs.reading.next_line.Goals as goal

pub returns-in-Some : goal.returns-in-Some
returns-in-Some c =
    let some : 0 < length c.args.text.now = omega (arith, false-eqb _ 0 c.if-is_empty.ensures) in
    cut_more c.args.text.now c.in-Some.end some (sym c.find.ensures ∙ c.in-Some.is)

pub returns-in-None : goal.returns-in-None
returns-in-None c =
    let some : 0 < length c.args.text.now = omega (arith, false-eqb _ 0 c.if-is_empty.ensures) in
    cut_last c.args.text.now some (sym c.find.ensures ∙ c.in-None.is)
