use Rattle.std.proofs.Common.{◌^◌, ◌<◌, subst, arith}
use Rattle.std.specs.Fmt.{HasWritten}
use Rattle.study.proofs.Writing.{printed_price}
use Rattle.study.proofs.numbers.LevaDisplay.fmt.Goals as goal

pub returns-clause-writes : goal.returns-clause-writes
returns-clause-writes g c =
    let p = c.args.self.now.0 in
    let small : p < 2 ^ 32 = omega arith in
    λ plain ok. subst (λ bs. HasWritten g.W.Write.write_str_gives c.args.f.now bs c.write.new.self) (printed_price p small) (rw c.laid_out.ensures at (c.write.ensures.writes plain ok))
