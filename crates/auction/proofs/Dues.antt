-- What is due of an order by itself is due before all else. Assumes nothing.
use Rattle.std.proofs.Common.{◌≡◌, ℕ, Bool, true, false, cond, not, List, [], Some, None, Ok, Err, Option, Result, sym, ap, arith, ◌∷◌, length, nat_le}
use Rattle.words.specs.declared.refusals.Refusal.{Refusal}
use Rattle.words.specs.declared.refusals.Refusal.TheVariants.{PriceUnfit, QuantityUnfit, SideFull, NumbersUsedUp}
use Rattle.words.specs.declared.orders.Order.{Order}
use Rattle.words.specs.declared.terms.Kind.{Kind}
use Rattle.words.specs.Refused.{Row, first_due}
use Rattle.words.specs.Terms.{price_fits, is_quantity}
use Rattle.words.specs.declared.sides.Side.{Side}
use Rattle.execution.specs.Laws.{standing}
use Rattle.auction.specs.States.{State}
use Rattle.auction.specs.Calls.{order_rows, order_by, enter_rows}

abbrev why_of : Refusal → Result Order Refusal → Refusal
why_of x (Ok o) = x
why_of x (Err why) = why

still : (a b : Bool) (x y why : Refusal) (o : Order) (more : Option Refusal) → Err why ≡ order_by o (cond a (Some x) (cond b (Some y) None)) → cond a (Some x) (cond b (Some y) more) ≡ Some why
still true b x y why o more e = ap (λ r. Some (why_of x r)) (sym e)
still false true x y why o more e = ap (λ r. Some (why_of x r)) (sym e)
still false false x y why o more e = let z : ◌≡◌ {A = ℕ} 0 1 = cc in absurd (omega arith)

-- what an order is refused for by itself it is refused for first
pub order_refused : (o : Order) (kind : Kind) (price quantity : ℕ) (why : Refusal) (more : List Row) → Err why ≡ order_by o (first_due (order_rows kind price quantity [])) → first_due (order_rows kind price quantity more) ≡ Some why
order_refused o kind price quantity why more e = still (not (price_fits kind price)) (not (is_quantity quantity)) PriceUnfit QuantityUnfit why o (first_due more) e

pub enter_refused : (s : State) (side : Side) (o : Order) (kind : Kind) (price quantity : ℕ) (why : Refusal) → Err why ≡ order_by o (first_due (order_rows kind price quantity [])) → first_due (enter_rows s side kind price quantity) ≡ Some why
enter_refused s side o kind price quantity why e =
    order_refused o kind price quantity why ((nat_le 128 (length (standing side s.sides)), SideFull) ∷ (nat_le 60000 s.last, NumbersUsedUp) ∷ []) e
