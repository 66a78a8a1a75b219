-- Each number of a refusal leads back to it, and no other number does. Assumes nothing.
use Rattle.std.proofs.Common.{◌≡◌, ℕ, Bool, true, false, cond, eqb, List, [], ◌∷◌, Some, None, Option, sym, refl, ap, ◌∙◌, arith}
use Rattle.std.proofs.lemmas.Bool.{eqb-true}
use Rattle.words.specs.declared.refusals.Refusal.{Refusal}
use Rattle.words.specs.Codes.{refusal_number, refusals, numbered, refusal_at}

pub leads_back : (x : Refusal) → refusal_at (refusal_number x) ≡ Some x
leads_back x = grind arith

abbrev number_or : ℕ → Option Refusal → ℕ
number_or n (Some x) = refusal_number x
number_or n None = n

-- what is found in a list under a number has it
found_has : (n : ℕ) (xs : List Refusal) → number_or n (numbered n xs) ≡ n
found_has n [] = refl
found_has n (y ∷ ys) = go (eqb n (refusal_number y)) refl (found_has n ys)
  where
    go : (b : Bool) → eqb n (refusal_number y) ≡ b → number_or n (numbered n ys) ≡ n → number_or n (cond b (Some y) (numbered n ys)) ≡ n
    go true e h = sym (eqb-true n (refusal_number y) e)
    go false e h = h

pub leads_only : (n : ℕ) (x : Refusal) → refusal_at n ≡ Some x → n ≡ refusal_number x
leads_only n x h = sym (found_has n refusals) ∙ ap (number_or n) h
