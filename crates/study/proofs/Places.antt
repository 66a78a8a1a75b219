-- The place of the first element that passes, or the end. Assumes nothing.
use Rattle.std.proofs.Common.{◌≡◌, ℕ, ◌≤◌, Bool, cond, not, ltb, List, length, Some, None, sym, arith}
use Rattle.std.specs.List.{position, position_or_len}
use Rattle.std.proofs.lemmas.Option.{cond_some}
use Rattle.std.proofs.lemmas.Bool.Decides.{nat_tests}
use Rattle.std.proofs.lemmas.List.Sums.{prefix_len-le-length}

pub placed : {X : Type 0} (p : X → Bool) (xs : List X) (n : ℕ) → position p xs ≡ Some n → n ≡ position_or_len p xs
placed p xs n e = sym (cond_some (ltb (position_or_len p xs) (length xs)) (position_or_len p xs) n e).1

no_place : (k n : ℕ) → k ≤ n → cond (ltb k n) (Some k) None ≡ None → k ≡ n
no_place k n h e = grind (arith, nat_tests)

pub missing : {X : Type 0} (p : X → Bool) (xs : List X) → position p xs ≡ None → position_or_len p xs ≡ length xs
missing p xs e = no_place (position_or_len p xs) (length xs) (prefix_len-le-length (λ x. not (p x)) xs) e
