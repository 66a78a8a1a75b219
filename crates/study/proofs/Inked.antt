-- Words and lines of the bytes that a study is written in. Assumes nothing.
use Rattle.std.proofs.Common.{◌≡◌, ℕ, ◌<◌, Bool, true, false, cond, not, ◌&&◌, eqb, leb, List, [], ◌∷◌, ◌++◌, length, take, drop, Err, Result, refl, ap, ◌∙◌, append_assoc, arith}
use Rattle.std.specs.List.{prefix_len, flat_map}
use Rattle.std.proofs.lemmas.List.{take_at, drop_at, take_all, drop_all}
use Rattle.std.proofs.lemmas.List.Elements.{All-weaker}
use Rattle.std.proofs.lemmas.List.Folds.{prefix_len-append, list_all-append}
use Rattle.std.proofs.lemmas.List.Sums.{prefix_len_is, AllPass-from_list_all, list_all-from_AllPass}
use Rattle.std.proofs.lemmas.Bool.{cond-true, cond-false, and_parts, and_from, not-true}
use Rattle.std.proofs.lemmas.Bool.Decides.{nat_tests}
use Rattle.study.specs.declared.faults.Reason.{Reason}
use Rattle.study.specs.declared.faults.Reason.TheVariants.{NotText}
use Rattle.study.specs.declared.statements.Line.{Line as Says}
use Rattle.study.specs.Bytes.{all, is_word, is_statement, is_line, is_plain, is_comment, is_digit}
use Rattle.study.specs.Wording.{closed, words_of}
use Rattle.study.specs.Statements.{statement_of, line_of}
use Rattle.study.specs.Studies.{onto, lines_of}
use Rattle.study.proofs.Cutting.{size, grow, closed_some}

-- what words are written in, and what lines are
abbrev pub ink : ℕ → Bool
ink b = leb 33 b && (leb b 126 && not (eqb b 35))

abbrev pub clean : ℕ → Bool
clean b = leb 32 b && (leb b 126 && not (eqb b 35))

pub all_weaker : {X : Type 0} (p q : X → Bool) → ((x : X) → p x ≡ true → q x ≡ true) → (xs : List X) → all p xs ≡ true → all q xs ≡ true
all_weaker p q h xs a = list_all-from_AllPass q xs (All-weaker (λ x. p x ≡ true) (λ x. q x ≡ true) h xs (AllPass-from_list_all p xs a))

pub all_append : {X : Type 0} (p : X → Bool) (xs ys : List X) → all p xs ≡ true → all p ys ≡ true → all p (xs ++ ys) ≡ true
all_append p xs ys a b = list_all-append p xs ys ∙ and_from (all p xs) (all p ys) a b

digit_ink : (b : ℕ) → is_digit b ≡ true → ink b ≡ true
digit_ink b h = grind (arith, nat_tests)

ink_clean : (b : ℕ) → ink b ≡ true → clean b ≡ true
ink_clean b h = grind (arith, nat_tests)

ink_word : (b : ℕ) → ink b ≡ true → is_word b ≡ true
ink_word b h = grind (arith, nat_tests)

clean_line : (b : ℕ) → clean b ≡ true → is_line b ≡ true
clean_line b h = grind (arith, nat_tests)

clean_plain : (b : ℕ) → clean b ≡ true → is_plain b ≡ true
clean_plain b h = grind (arith, nat_tests)

clean_statement : (b : ℕ) → clean b ≡ true → is_statement b ≡ true
clean_statement b h = grind (arith, nat_tests)

pub digits_inked : (w : List ℕ) → all is_digit w ≡ true → all ink w ≡ true
digits_inked w h = all_weaker is_digit ink digit_ink w h

pub inked_clean : (w : List ℕ) → all ink w ≡ true → all clean w ≡ true
inked_clean w h = all_weaker ink clean ink_clean w h

-- a run goes to the end, or to the first that does not pass
run_all : (p : ℕ → Bool) (xs : List ℕ) → all p xs ≡ true → prefix_len p xs ≡ length xs
run_all p xs a = prefix_len_is p xs (length xs) 0 (omega arith) (λ k h. AllPass-from_list_all p xs a k 0 h) (λ h. absurd (omega arith))

run_to : (p : ℕ → Bool) (xs : List ℕ) (b : ℕ) (ys : List ℕ) → all p xs ≡ true → p b ≡ false → prefix_len p (xs ++ (b ∷ ys)) ≡ length xs
run_to p xs b ys a h =
    let whole = run_all p xs a in
    let none : prefix_len p (b ∷ ys) ≡ 0 = cond-false (p b) _ _ h in
    let more = prefix_len-append p xs (b ∷ ys) in
    grind (arith, nat_tests)

-- the first word of a line, and the only one
pub word_first : (w rest : List ℕ) → 0 < length w → all ink w ≡ true → words_of (w ++ (32 ∷ rest)) ≡ w ∷ words_of rest
word_first w rest some h =
    let l : List ℕ = w ++ (32 ∷ rest) in
    let n : size l ≡ length w = run_to is_word w 32 rest (all_weaker ink is_word ink_word w h) refl in
    grow [] l ∙ ap (λ k. closed (take k l) (words_of (drop k l))) n
    ∙ ap (λ v. closed v (words_of (drop (length w) l))) (take_at w (32 ∷ rest) (length w) refl)
    ∙ ap (λ v. closed w (words_of v)) (drop_at w (32 ∷ rest) (length w) refl)
    ∙ closed_some w (words_of rest) some

pub word_last : (w : List ℕ) → 0 < length w → all ink w ≡ true → words_of w ≡ w ∷ []
word_last w some h =
    let n : size w ≡ length w = run_all is_word w (all_weaker ink is_word ink_word w h) in
    grow [] w ∙ ap (λ k. closed (take k w) (words_of (drop k w))) n
    ∙ ap (λ v. closed v (words_of (drop (length w) w))) (take_all (length w) w (omega arith))
    ∙ ap (λ v. closed w (words_of v)) (drop_all (length w) w (omega arith))
    ∙ closed_some w [] some

-- a line with no comment is its statement
abbrev parted : List ℕ → List ℕ → Result Says Reason
parted a b = cond (all is_plain a && all is_comment b) (statement_of (words_of a)) (Err NotText)

pub clean_says : (l : List ℕ) → all clean l ≡ true → line_of l ≡ statement_of (words_of l)
clean_says l h =
    let n : prefix_len is_statement l ≡ length l = run_all is_statement l (all_weaker clean is_statement clean_statement l h) in
    ap (λ k. parted (take k l) (drop k l)) n
    ∙ ap (λ v. parted v (drop (length l) l)) (take_all (length l) l (omega arith))
    ∙ ap (parted l) (drop_all (length l) l (omega arith))
    ∙ cond-true (all is_plain l && true) _ _ (and_from (all is_plain l) true (all_weaker clean is_plain clean_plain l h) refl)

-- lines written one after the other are those lines
line_then : (l rest : List ℕ) → all is_line l ≡ true → lines_of (l ++ (10 ∷ rest)) ≡ l ∷ lines_of rest
line_then [] rest h = refl
line_then (b ∷ bs) rest h =
    let both = and_parts (is_line b) (all is_line bs) h in
    cond-false (eqb b 10) _ _ (not-true (eqb b 10) both.0) ∙ ap (onto b) (line_then bs rest both.1)

pub lines_back : (ls : List (List ℕ)) → all (all clean) ls ≡ true → lines_of (flat_map (λ l. l ++ (10 ∷ [])) ls) ≡ ls
lines_back [] h = refl
lines_back (l ∷ ls) h =
    let both = and_parts (all clean l) (all (all clean) ls) h in
    ap lines_of (append_assoc l (10 ∷ []) (flat_map (λ m. m ++ (10 ∷ [])) ls))
    ∙ line_then l (flat_map (λ m. m ++ (10 ∷ [])) ls) (all_weaker clean is_line clean_line l both.0)
    ∙ ap (λ ms. l ∷ ms) (lines_back ls both.1)
