-- An order changed in its open quantity alone, and as it was brought. Assumes nothing.
use Rattle.std.specs.Prelude.{ℕ, ◌-◌}
use Rattle.words.specs.declared.orders.Order.{Order}
use Rattle.words.specs.declared.orders.Ticket.{Ticket}
use Rattle.words.specs.Terms.{kind_of, price_in}
use Rattle.words.specs.declared.sides.Side.TheVariants.{Buy}
use Rattle.words.specs.declared.terms.Terms.TheVariants.{Limit}
use Rattle.words.specs.declared.terms.Condition.TheVariants.{Unconditional}

abbrev pub resized : Order → ℕ → Order
resized o q = record { number = o.number; side = o.side; terms = o.terms; condition = o.condition; quantity = q }

-- what is left of it after a quantity has traded
abbrev pub lowered : Order → ℕ → Order
lowered o q = resized o (o.quantity - q)

-- what stands past the end of a list of orders
abbrev pub no_order : Order
no_order = record { number = 0; side = Buy; terms = Limit 0; condition = Unconditional; quantity = 0 }

-- an order as it was brought
abbrev pub ticket_of : Order → Ticket
ticket_of o = record { side = o.side; kind = kind_of o.terms; price = price_in o.terms; quantity = o.quantity }
