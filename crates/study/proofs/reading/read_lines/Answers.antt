use Rattle.std.proofs.Common.{arith}
use Rattle.study.proofs.Lines.{lines_le}
use Rattle.study.proofs.reading.read_lines.Goals as goal

pub overflow_add-count : goal.overflow_add-count
overflow_add-count c = omega (arith, c.loop-line.invariant.1, lines_le c.args.text.now)
