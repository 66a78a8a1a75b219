-- A text cut after its first line: the line and the lines of the rest are the lines of the text. Assumes nothing.
use Rattle.std.proofs.Common.{◌≡◌, ℕ, ◌+◌, ◌-◌, ◌<◌, ◌≤◌, Some, None, Bool, true, false, cond, not, eqb, List, [], ◌∷◌, length, take, drop, sym, refl, ap, ◌∙◌, one-add, arith}
use Rattle.std.specs.List.{prefix_len, position}
use Rattle.std.proofs.lemmas.List.{take_rest, take_all, drop_all, drop-drop}
use Rattle.std.proofs.lemmas.Bool.{cond-true, cond-false}
use Rattle.study.specs.Bytes.{is_line}
use Rattle.study.proofs.Places.{placed, missing}
use Rattle.study.specs.Studies.{onto, lines_of}

-- where the first line ends
abbrev until : List ℕ → ℕ
until t = prefix_len is_line t

only : (t : Bool) (b : ℕ) → eqb b 10 ≡ t → lines_of (b ∷ []) ≡ take (cond (not t) 1 0) (b ∷ []) ∷ lines_of (drop 1 (drop (cond (not t) 1 0) (b ∷ [])))
only true b e = cond-true (eqb b 10) _ _ e
only false b e = cond-false (eqb b 10) _ _ e

longer : (t : Bool) (b : ℕ) (bs : List ℕ) → eqb b 10 ≡ t → lines_of bs ≡ take (until bs) bs ∷ lines_of (drop 1 (drop (until bs) bs))
    → lines_of (b ∷ bs) ≡ take (cond (not t) (1 + until bs) 0) (b ∷ bs) ∷ lines_of (drop 1 (drop (cond (not t) (1 + until bs) 0) (b ∷ bs)))
longer true b bs e h = cond-true (eqb b 10) _ _ e
longer false b bs e h =
    cond-false (eqb b 10) _ _ e ∙ ap (onto b) h ∙ ap (λ k. take k (b ∷ bs) ∷ lines_of (drop 1 (drop k (b ∷ bs)))) (sym (one-add (until bs)))

first_line : (t : List ℕ) → 0 < length t → lines_of t ≡ take (until t) t ∷ lines_of (drop 1 (drop (until t) t))
first_line [] h = absurd (omega arith)
first_line (b ∷ []) h = only (eqb b 10) b refl
first_line (b ∷ (c ∷ cs)) h = longer (eqb b 10) b (c ∷ cs) refl (first_line (c ∷ cs) (omega arith))

-- where the text has no line feed
pub cut_last : (t : List ℕ) → 0 < length t → position (λ b. eqb b 10) t ≡ None → lines_of t ≡ t ∷ []
cut_last t some e =
    first_line t some ∙ ap (λ k. take k t ∷ lines_of (drop 1 (drop k t))) (missing (λ b. eqb b 10) t e)
    ∙ ap (λ v. v ∷ lines_of (drop 1 (drop (length t) t))) (take_all (length t) t (omega arith))
    ∙ ap (λ v. t ∷ lines_of (drop 1 v)) (drop_all (length t) t (omega arith))

-- and where it has one at n
pub cut_more : (t : List ℕ) (n : ℕ) → 0 < length t → position (λ b. eqb b 10) t ≡ Some n → lines_of t ≡ take n t ∷ lines_of (take (length t - (n + 1)) (drop (n + 1) t))
cut_more t n some e =
    first_line t some ∙ ap (λ k. take k t ∷ lines_of (drop 1 (drop k t))) (sym (placed (λ b. eqb b 10) t n e))
    ∙ ap (λ v. take n t ∷ lines_of v) (drop-drop 1 n t ∙ sym (take_rest t (n + 1)))

longer_by : (b : ℕ) (ls : List (List ℕ)) → length (onto b ls) ≤ length ls + 1
longer_by b [] = omega arith
longer_by b (l ∷ ls) = omega arith

more_lines : (t : Bool) (b : ℕ) (ls : List (List ℕ)) → length (cond t ([] ∷ ls) (onto b ls)) ≤ length ls + 1
more_lines true b ls = omega arith
more_lines false b ls = longer_by b ls

-- there are no more lines than bytes
pub lines_le : (t : List ℕ) → length (lines_of t) ≤ length t
lines_le [] = omega arith
lines_le (b ∷ bs) = omega (arith, lines_le bs, more_lines (eqb b 10) b (lines_of bs))
