-- A line cut after its first word: the word and the words of the rest are the words of the line. Assumes nothing.
use Rattle.std.proofs.Common.{◌≡◌, ℕ, ◌+◌, ◌-◌, ◌<◌, Some, None, Bool, true, false, cond, not, List, [], ◌∷◌, ◌++◌, length, take, drop, sym, refl, ap, ◌∙◌, append_assoc, append-nil, one-add, arith}
use Rattle.std.specs.List.{prefix_len, position, position_or_len}
use Rattle.std.proofs.lemmas.List.{length-take-le, take_rest, drop_all}
use Rattle.std.proofs.lemmas.List.Sums.{prefix_len-drop_yes, prefix_len-le-length}
use Rattle.std.proofs.lemmas.List.Quantifiers.{position-Some}
use Rattle.std.proofs.lemmas.Bool.{cond-true, cond-false}
use Rattle.study.specs.Bytes.{is_white, is_word}
use Rattle.study.proofs.Places.{placed, missing}
use Rattle.study.specs.Wording.{closed, words_after, words_of}

abbrev pub gap : List ℕ → ℕ
gap l = position_or_len is_word l

abbrev pub size : List ℕ → ℕ
size l = prefix_len is_word l

-- white space at the front is no word
skip_one : (t : Bool) (b : ℕ) (bs : List ℕ) → is_white b ≡ t → words_of bs ≡ words_of (drop (gap bs) bs) → words_of (b ∷ bs) ≡ words_of (drop (cond (not (not t)) (1 + gap bs) 0) (b ∷ bs))
skip_one true b bs e h = cond-true (is_white b) _ _ e ∙ h ∙ ap (λ k. words_of (drop k (b ∷ bs))) (sym (one-add (gap bs)))
skip_one false b bs e h = refl

skip : (l : List ℕ) → words_of l ≡ words_of (drop (gap l) l)
skip [] = refl
skip (b ∷ bs) = skip_one (is_white b) b bs refl (skip bs)

-- a word goes on to the next white space
grow_one : (t : Bool) (w : List ℕ) (b : ℕ) (bs : List ℕ) → is_white b ≡ t
    → words_after (w ++ (b ∷ [])) bs ≡ closed ((w ++ (b ∷ [])) ++ take (size bs) bs) (words_of (drop (size bs) bs))
    → words_after w (b ∷ bs) ≡ closed (w ++ take (cond (not t) (1 + size bs) 0) (b ∷ bs)) (words_of (drop (cond (not t) (1 + size bs) 0) (b ∷ bs)))
grow_one true w b bs e h =
    cond-true (is_white b) _ _ e ∙ ap (λ v. closed v (words_of bs)) (sym (append-nil w)) ∙ ap (closed (w ++ [])) (sym (cond-true (is_white b) _ _ e))
grow_one false w b bs e h =
    cond-false (is_white b) _ _ e ∙ h ∙ ap (λ v. closed v (words_of (drop (size bs) bs))) (append_assoc w (b ∷ []) (take (size bs) bs))
    ∙ ap (λ k. closed (w ++ take k (b ∷ bs)) (words_of (drop k (b ∷ bs)))) (sym (one-add (size bs)))

pub grow : (w l : List ℕ) → words_after w l ≡ closed (w ++ take (size l) l) (words_of (drop (size l) l))
grow w [] = ap (λ v. closed v []) (sym (append-nil w))
grow w (b ∷ bs) = grow_one (is_white b) w b bs refl (grow (w ++ (b ∷ [])) bs)

pub closed_some : (w : List ℕ) (ws : List (List ℕ)) → 0 < length w → closed w ws ≡ w ∷ ws
closed_some [] ws h = absurd (omega arith)
closed_some (b ∷ bs) ws h = refl

-- where every byte is white, there is no word
pub no_word : (l : List ℕ) → position is_word l ≡ None → words_of l ≡ []
no_word l e = skip l ∙ ap words_of (ap (λ k. drop k l) (missing is_word l e) ∙ drop_all (length l) l (omega arith))

-- the cut as the code makes it: at the place n of the first word, and m bytes after it
pub a_word : (l w r : List ℕ) (n m : ℕ) → position is_word l ≡ Some n → m ≡ size (take (length l - n) (drop n l)) → w ≡ take m (take (length l - n) (drop n l)) → r ≡ drop m (take (length l - n) (drop n l)) → words_of l ≡ w ∷ words_of r
a_word l w r n m e em ew er =
    let t = drop n l in
    let rest : take (length l - n) t ≡ t = take_rest l n in
    let em : m ≡ size t = em ∙ ap size rest in
    let at = position-Some is_word l n 0 e in
    let more = prefix_len-drop_yes is_word l n 0 at.0 at.1 in
    let long : length (take m t) ≡ m = length-take-le m t (omega (arith, prefix_len-le-length is_word t)) in
    let there : 0 < length (take m t) = omega arith in
    skip l ∙ ap (λ k. words_of (drop k l)) (sym (placed is_word l n e)) ∙ grow [] t ∙ ap (λ k. closed (take k t) (words_of (drop k t))) (sym em)
    ∙ closed_some (take m t) (words_of (drop m t)) there
    ∙ ap (λ v. v ∷ words_of (drop m t)) (sym (ew ∙ ap (take m) rest)) ∙ ap (λ v. w ∷ words_of v) (sym (er ∙ ap (drop m) rest))
