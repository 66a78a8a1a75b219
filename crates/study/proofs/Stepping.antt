-- One line more of a text. Assumes nothing.
use Rattle.std.proofs.Common.{◌≡◌, ℕ, ◌+◌, List, ◌∷◌, Ok, sym, ap, ◌∙◌}
use Rattle.study.specs.Statements.{and_then}
use Rattle.study.specs.Studies.{Reading, line_step, lines_read}

pub read_more : (n : ℕ) (s t : Reading) (ls rest : List (List ℕ)) (l : List ℕ) → ls ≡ l ∷ rest → line_step (n + 1) s l ≡ Ok t → lines_read (n + 1) t rest ≡ lines_read n s ls
read_more n s t ls rest l e step = sym (ap (lines_read n s) e ∙ ap (λ r. and_then r (λ u. lines_read (n + 1) u rest)) step)
