use Rattle.std.proofs.Common.{◌≡◌, ◌+◌, length}
use Rattle.study.specs.Studies.{lines_of, lines_read}
use Rattle.study.specs.Views.{view}
use Rattle.study.proofs.reading.read_lines.Given as goal

-- the lines that are left, read after those before them, give what the whole gives
abbrev pub invariant-loop-line : goal.invariant-loop-line
invariant-loop-line l =
    (lines_read l.count (view l.draft) (lines_of l.line-iterator.0.now) ≡ lines_read 0 (view l.initial.draft) (lines_of l.text))
    × (l.count + length (lines_of l.line-iterator.0.now) ≡ length (lines_of l.text))
