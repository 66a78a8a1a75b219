use Rattle.std.proofs.Common.{sym, ap, ◌∙◌}
use Rattle.study.specs.Wording.{cut}
use Rattle.study.proofs.Cutting.{no_word, a_word}
use Rattle.study.proofs.wording.next_word.Goals as goal

pub returns-in_err-text : goal.returns-in_err-text
returns-in_err-text c = no_word c.args.line.now (sym c.word_start.ensures ∙ c.in_err-text.was) ∙ ap cut (sym c.from_residual.ensures)

pub returns : goal.returns
returns c =
    a_word c.args.line.now c.split_at.result.0.now c.split_at.result.1.now c.in_ok-text.field-0 c.word_len.result
    (sym c.word_start.ensures ∙ c.in_ok-text.was) c.word_len.ensures.value c.split_at.ensures.front c.split_at.ensures.back
