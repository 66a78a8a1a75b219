-- A call has a table of refusals, in the order of their numbers: the first row whose test holds is what it is refused for. Assumes nothing.
use Rattle.std.specs.Prelude.{◌≡◌, ℕ, ◌≤◌, Bool, true, cond, ◌&&◌, ◌⊎◌, List, [], ◌∷◌, Some, None, Option, nat_lt}
use Rattle.words.specs.declared.refusals.Refusal.{Refusal}
use Rattle.words.specs.Codes.{refusal_number}

-- whether a refusal is due, and which
abbrev pub Row : Type 0
Row = Bool × Refusal

abbrev pub first_due : List Row → Option Refusal
first_due [] = None
first_due (r ∷ rs) = cond r.0 (Some r.1) (first_due rs)

-- one of the rows is due for that reason
abbrev pub Due : List Row → Refusal → Type 0
Due [] why = ⊥
Due (r ∷ rs) why = ((r.0 ≡ true) × (r.1 ≡ why)) ⊎ Due rs why

-- the rows stand in the order of their numbers, all above n
abbrev pub rising : ℕ → List Row → Bool
rising n [] = true
rising n (r ∷ rs) = nat_lt n (refusal_number r.1) && rising (refusal_number r.1) rs

-- refused for what is due with the smallest number of all that is due; not refused only where nothing is due
abbrev pub RefusedRightly : List Row → Option Refusal → Type 0
RefusedRightly rs None = (why : Refusal) → Due rs why → ⊥
RefusedRightly rs (Some why) = Due rs why × ((other : Refusal) → Due rs other → refusal_number why ≤ refusal_number other)
