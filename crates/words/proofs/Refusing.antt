-- Where the rows of a table stand in the order of their numbers, the first that is due has the smallest number of all that are due. Assumes nothing.
use Rattle.std.proofs.Common.{◌≡◌, ℕ, ◌<◌, Bool, true, false, cond, ltb, List, [], ◌∷◌, Some, None, Option, refl, ap, inl, inr, ⊎_elim, arith}
use Rattle.std.proofs.lemmas.Bool.{and_parts, ltb-true, both_ways}
use Rattle.words.specs.declared.refusals.Refusal.{Refusal}
use Rattle.words.specs.Codes.{refusal_number}
use Rattle.words.specs.Refused.{Row, first_due, Due, rising, RefusedRightly}

due_above : (n : ℕ) (rs : List Row) → rising n rs ≡ true → (why : Refusal) → Due rs why → n < refusal_number why
due_above n [] h why d = absurd d
due_above n (r ∷ rs) h why (inl d) = let p = and_parts (ltb n (refusal_number r.1)) (rising (refusal_number r.1) rs) h in omega (arith, ltb-true _ _ p.0, ap refusal_number d.1)
due_above n (r ∷ rs) h why (inr d) =
    let p = and_parts (ltb n (refusal_number r.1)) (rising (refusal_number r.1) rs) h in
    omega (arith, ltb-true _ _ p.0, due_above (refusal_number r.1) rs p.1 why d)

-- a row in front that is not due changes nothing
passed : (r : Row) (rs : List Row) → r.0 ≡ false → (x : Option Refusal) → RefusedRightly rs x → RefusedRightly (r ∷ rs) x
passed r rs e None h = λ why d. ⊎_elim (λ k. both_ways _ e k.0) (λ k. h why k) d
passed r rs e (Some w) h = (inr h.0, λ o d. ⊎_elim (λ k. absurd (both_ways _ e k.0)) (λ k. h.1 o k) d)

pub rightly : (n : ℕ) (rs : List Row) → rising n rs ≡ true → RefusedRightly rs (first_due rs)
rightly n [] h = λ why d. d
rightly n (r ∷ rs) h = go r.0 refl
    (rightly (refusal_number r.1) rs (and_parts (ltb n (refusal_number r.1)) (rising (refusal_number r.1) rs) h).1)
  where
    rest : rising (refusal_number r.1) rs ≡ true
    rest = (and_parts (ltb n (refusal_number r.1)) (rising (refusal_number r.1) rs) h).1

    go : (b : Bool) → r.0 ≡ b → RefusedRightly rs (first_due rs) → RefusedRightly (r ∷ rs) (cond b (Some r.1) (first_due rs))
    go true e k =
        (inl (e, refl), λ o d. ⊎_elim (λ j. omega (arith, ap refusal_number j.1)) (λ j. omega (arith, due_above (refusal_number r.1) rs rest o j)) d)
    go false e k = passed r rs e (first_due rs) k
