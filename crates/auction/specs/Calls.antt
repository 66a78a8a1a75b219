-- The calls of an auction: what is refused, and what each granted call replies and changes. Assumes nothing.
use Rattle.std.specs.Prelude.{◌≡◌, ℕ, ◌+◌, not, List, [], ◌∷◌, length, Some, None, Ok, Err, Option, Result, nat_le, nat_lt}
use Rattle.words.specs.declared.orders.Order.{Order}
use Rattle.words.specs.declared.refusals.Refusal.{Refusal}
use Rattle.words.specs.declared.refusals.Refusal.TheVariants.{PriceUnfit, QuantityUnfit, TapeShort, ReferenceUnfit, SideFull, NumbersUsedUp}
use Rattle.words.specs.declared.sides.Side.{Side}
use Rattle.words.specs.declared.tape.Trade.{Trade}
use Rattle.words.specs.declared.terms.Kind.{Kind}
use Rattle.words.specs.declared.terms.Condition.TheVariants.{Unconditional}
use Rattle.words.specs.Refused.{Row, first_due}
use Rattle.words.specs.Terms.{is_price, is_quantity, price_fits, terms_for}
use Rattle.pricing.specs.Sides.{sides}
use Rattle.execution.specs.Execution.{written}
use Rattle.execution.specs.Laws.{standing}
use Rattle.book.specs.declared.asking.Answer.{Answer}
use Rattle.book.specs.declared.striking.Struck.{Struck}
use Rattle.book.specs.Asking.{answer_of}
use Rattle.book.specs.Books.{joined}
use Rattle.book.specs.Striking.{trades_of, after_strike, struck_of}
use Rattle.auction.specs.declared.held.Auction.{Auction}
use Rattle.auction.specs.declared.held.calls.MakeError.{MakeError}
use Rattle.auction.specs.declared.held.calls.MakeError.TheVariants.{Refused, NoMemory}
use Rattle.auction.specs.States.{State, view}

-- ---- making

abbrev pub made_with : ℕ → State
made_with reference = record { reference = reference; last = 0; sides = sides [] [] }

abbrev pub make_rows : ℕ → List Row
make_rows reference = (not (is_price reference), ReferenceUnfit) ∷ []

-- made where nothing is refused and there is memory
abbrev pub Made : ℕ → Result Auction MakeError → Type 0
Made reference (Ok a) = (first_due (make_rows reference) ≡ None) × (view a ≡ made_with reference)
Made reference (Err (Refused why)) = first_due (make_rows reference) ≡ Some why
Made reference (Err NoMemory) = first_due (make_rows reference) ≡ None

-- ---- an order that a call brings

-- of condition none
abbrev pub order_of : ℕ → Side → Kind → ℕ → ℕ → Order
order_of number side kind price quantity =
    record { number = number; side = side; terms = terms_for kind price; condition = Unconditional; quantity = quantity }

-- what is wrong with it by itself
abbrev pub order_rows : Kind → ℕ → ℕ → List Row → List Row
order_rows kind price quantity more =
    (not (price_fits kind price), PriceUnfit) ∷
    (not (is_quantity quantity), QuantityUnfit) ∷ more

abbrev pub order_by : Order → Option Refusal → Result Order Refusal
order_by o (Some why) = Err why
order_by o None = Ok o

-- ---- enter: the order stands, last in time, under the next number

abbrev pub enter_rows : State → Side → Kind → ℕ → ℕ → List Row
enter_rows s side kind price quantity =
    order_rows kind price quantity (
    (nat_le 128 (length (standing side s.sides)), SideFull) ∷
    (nat_le 60000 s.last, NumbersUsedUp) ∷ [])

abbrev pub entered : State → Order → State
entered s o = record { reference = s.reference; last = s.last + 1; sides = joined s.sides o }

abbrev pub enter_by : State → Side → Kind → ℕ → ℕ → Option Refusal → State × Result ℕ Refusal
enter_by s side kind price quantity (Some why) = (s, Err why)
enter_by s side kind price quantity None = (entered s (order_of (s.last + 1) side kind price quantity), Ok (s.last + 1))

abbrev pub enter_step : State → Side → Kind → ℕ → ℕ → State × Result ℕ Refusal
enter_step s side kind price quantity = enter_by s side kind price quantity (first_due (enter_rows s side kind price quantity))

-- ---- ask: nothing changes. The asked order has number 0, which no order is given.

abbrev pub ask_by : State → Side → Kind → ℕ → ℕ → Option Refusal → Result Answer Refusal
ask_by s side kind price quantity (Some why) = Err why
ask_by s side kind price quantity None = Ok (answer_of s.sides (order_of 0 side kind price quantity) s.reference)

abbrev pub ask_reply : State → Side → Kind → ℕ → ℕ → Result Answer Refusal
ask_reply s side kind price quantity = ask_by s side kind price quantity (first_due (order_rows kind price quantity []))

-- ---- preview: the same with the trades, on a lent tape

abbrev pub tape_row : List Trade → List Row
tape_row tape = (nat_lt (length tape) 256, TapeShort) ∷ []

abbrev pub preview_by : State → Side → Kind → ℕ → ℕ → List Trade → Option Refusal → List Trade × Result Struck Refusal
preview_by s side kind price quantity tape (Some why) = (tape, Err why)
preview_by s side kind price quantity tape None =
    let with_order = joined s.sides (order_of 0 side kind price quantity) in
    (written (trades_of with_order s.reference) tape, Ok (struck_of with_order s.reference))

abbrev pub preview_reply : State → Side → Kind → ℕ → ℕ → List Trade → List Trade × Result Struck Refusal
preview_reply s side kind price quantity tape = preview_by s side kind price quantity tape (first_due (order_rows kind price quantity (tape_row tape)))

-- ---- strike: the trades go on the lent tape, and the book is settled by them

abbrev pub strike_by : State → List Trade → Option Refusal → State × List Trade × Result Struck Refusal
strike_by s tape (Some why) = (s, tape, Err why)
strike_by s tape None = (
  record { reference = s.reference; last = s.last; sides = after_strike s.sides s.reference },
  written (trades_of s.sides s.reference) tape,
  Ok (struck_of s.sides s.reference),
)

abbrev pub strike_step : State → List Trade → State × List Trade × Result Struck Refusal
strike_step s tape = strike_by s tape (first_due (tape_row tape))
