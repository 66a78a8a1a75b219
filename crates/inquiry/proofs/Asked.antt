-- An order that a study may ask about is the one that its ticket brings. Assumes nothing.
use Rattle.std.proofs.Common.{◌≡◌, ◌&&◌, sym, ap, ◌∙◌}
use Rattle.std.proofs.lemmas.Bool.{and_parts}
use Rattle.words.specs.declared.orders.Order.{Order}
use Rattle.words.specs.declared.orders.Ticket.{Ticket}
use Rattle.words.specs.Orders.{ticket_of}
use Rattle.words.specs.Terms.{is_quantity}
use Rattle.auction.specs.Calls.{order_of}
use Rattle.study.specs.Sound.{fit_terms, is_unconditional}
use Rattle.inquiry.specs.Questions.{Askable}
use Rattle.inquiry.proofs.Loaded.{terms_are, condition_is}

pub asked_is : (o : Order) (t : Ticket) → Askable o → t ≡ ticket_of o → order_of 0 t.side t.kind t.price t.quantity ≡ o
asked_is o t h e =
    let outer = and_parts (is_quantity o.quantity) (fit_terms o.terms && is_unconditional o.condition) h.fit in
    let inner = and_parts (fit_terms o.terms) (is_unconditional o.condition) outer.1 in
    let n : 0 ≡ o.number = sym h.unnumbered in
    let w = terms_are o.terms in
    let c = condition_is o.condition inner.1 in
    ap (λ (t : Ticket). order_of 0 t.side t.kind t.price t.quantity) e ∙ (λ j. record { number = n j; side = o.side; terms = w j; condition = c j; quantity = o.quantity })
