-- What a whole text says. Assumes nothing.
use Rattle.std.specs.Prelude.{ℕ, ◌+◌, ◌≤◌, Bool, true, false, cond, ◌&&◌, List, [], ◌∷◌, ◌++◌, length, Some, None, Ok, Err, count_by, Option, Result, ◌==◌, nat_lt}
use Rattle.words.specs.declared.orders.Order.{Order}
use Rattle.words.specs.declared.sides.Side.{Side}
use Rattle.words.specs.declared.sides.Side.TheVariants.{Buy, Sell}
use Rattle.study.specs.declared.faults.Fault.{Fault}
use Rattle.study.specs.declared.faults.Reason.{Reason}
use Rattle.study.specs.declared.faults.Reason.TheVariants.{SideFull, ReferenceTwice, ReferenceMissing, NothingThere}
use Rattle.study.specs.declared.statements.Line.{Line}
use Rattle.study.specs.declared.statements.Line.TheVariants.{Blank, Reference, Entry, Ask}
use Rattle.study.specs.Statements.{and_then, line_of}

-- what the lines so far have said
pub record Reading : Type 0 where
  pub reference : Option ℕ
  pub orders : List Order
  pub asks : List Order

-- what a whole study says
pub record Content : Type 0 where
  pub reference : ℕ
  pub orders : List Order
  pub asks : List Order

-- before the first line
abbrev pub start : Reading
start = record { reference = None; orders = []; asks = [] }

abbrev pub same_side : Side → Side → Bool
same_side Buy Buy = true
same_side Buy Sell = false
same_side Sell Buy = false
same_side Sell Sell = true

-- how many of the orders are on the side
abbrev pub count_on : Side → List Order → ℕ
count_on x os = count_by (λ o. same_side x o.side) os

-- a side holds at most 128 orders
pub record Few (os : List Order) : Type 0 where
  pub buys : count_on Buy os ≤ 128
  pub sells : count_on Sell os ≤ 128

abbrev pub fault : ℕ → Reason → Fault
fault n e = record { line = n; reason = e }

abbrev pub numbered : Order → ℕ → Order
numbered o n = record { number = n; side = o.side; terms = o.terms; condition = o.condition; quantity = o.quantity }

-- the reference is given once
abbrev pub reference_step : ℕ → Reading → ℕ → Result Reading Fault
reference_step n s p = elim s.reference [ Some q ↦ Err (fault n ReferenceTwice) | None ↦ Ok (record { reference = Some p; orders = s.orders; asks = s.asks }) ]

-- an order with the next number over both sides, if its side has room
abbrev pub next_order : Reading → Order → Result Order Reason
next_order s o = cond (nat_lt (count_on o.side s.orders) 128) (Ok (numbered o (length s.orders + 1))) (Err SideFull)

-- an order has the next number over both sides, if its side has room
abbrev pub enter_step : ℕ → Reading → Order → Result Reading Fault
enter_step n s o =
    cond (nat_lt (count_on o.side s.orders) 128)
    (Ok (record { reference = s.reference; orders = s.orders ++ (numbered o (length s.orders + 1) ∷ []); asks = s.asks }))
    (Err (fault n SideFull))

-- an asked order has no number and takes no room
abbrev pub ask_step : Reading → Order → Result Reading Fault
ask_step s o = Ok (record { reference = s.reference; orders = s.orders; asks = s.asks ++ (o ∷ []) })

-- what line n, read as x, adds
abbrev pub taken : ℕ → Reading → Line → Result Reading Fault
taken n s Blank = Ok s
taken n s (Reference p) = reference_step n s p
taken n s (Entry o) = enter_step n s o
taken n s (Ask o) = ask_step s o

abbrev pub line_step : ℕ → Reading → List ℕ → Result Reading Fault
line_step n s l = elim (line_of l) [ Ok x ↦ taken n s x | Err e ↦ Err (fault n e) ]

-- the lines one after the other, the first with the number n + 1, up to the first fault
abbrev pub lines_read : ℕ → Reading → List (List ℕ) → Result Reading Fault
lines_read n s [] = Ok s
lines_read n s (l ∷ ls) = and_then (line_step (n + 1) s l) (λ t. lines_read (n + 1) t ls)

-- after the last of n lines: there was a reference
abbrev pub finished : ℕ → Reading → Result Content Fault
finished n s =
    elim s.reference [
      | Some p ↦ Ok (record { reference = p; orders = s.orders; asks = s.asks })
      | None ↦ cond (length s.orders == 0 && length s.asks == 0) (Err (fault n NothingThere)) (Err (fault n ReferenceMissing))
    ]

-- a byte at the front of the first line
abbrev pub onto : ℕ → List (List ℕ) → List (List ℕ)
onto b [] = (b ∷ []) ∷ []
onto b (l ∷ ls) = (b ∷ l) ∷ ls

-- the lines of a text: each ends with a line feed, which the last may lack
abbrev pub lines_of : List ℕ → List (List ℕ)
lines_of [] = []
lines_of (b ∷ bs) = cond (b == 10) ([] ∷ lines_of bs) (onto b (lines_of bs))

-- what a text says, or its first fault
abbrev pub study_of : List ℕ → Result Content Fault
study_of t = and_then (lines_read 0 start (lines_of t)) (finished (length (lines_of t)))
