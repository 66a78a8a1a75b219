use Rattle.std.proofs.Common.{◌≡◌, ◌+◌, ◌<◌, length, Err, sym, ap, ◌∙◌, subst, arith, rules}
use Rattle.execution.specs.Laws.{standing}
use Rattle.book.specs.Books.{standing_of, joined}
use Rattle.auction.specs.Calls.{enter_by}
use Rattle.auction.specs.States.{view}
use Rattle.auction.proofs.Dues.{enter_refused}
use Rattle.auction.proofs.Sounds.{sound_joined, kept_by_sound}
use Rattle.auction.proofs.held.Auction.enter.Goals as goal

pub invariant_of-self : goal.invariant_of-self
invariant_of-self c =
    let a = c.args.self.now in
    let o = c.in_ok-order.order in
    let s = standing_of a.book in
    let fit = c.in_ok-order.ensures.fit in
    let at : o.side ≡ c.args.ticket.side = ap (λ z. z.side) fit.0 in
    let room : length (standing o.side s) < 128 = subst (λ x. length (standing x s) < 128) (sym at) (omega (arith, ap length c.orders.ensures.standing)) in
    let both = sound_joined a.last o.side s o a.buys_sound a.sells_sound room (ap (λ z. z.number) fit.0) (omega (arith, fit.1, ap (λ z. z.quantity) fit.0)) in
    kept_by_sound (a.last + 1) a c.enter.new.self (joined s o) c.enter.ensures.standing both.0 both.1 c.enter.ensures.rest.capacity c.enter.ensures.rest.asked (omega arith)

pub returns-in_err-order : goal.returns-in_err-order
returns-in_err-order c =
    let t = c.args.ticket in
    let s = view c.args.self.now in
    let why = c.in_err-order.field-0.0 in
    let replied : c.from_residual.result ≡ Err why = search rules in
    let due = enter_refused s t.side _ t.kind t.price t.quantity why (sym c.in_err-order.was ∙ c.order_with.ensures.value) in
    (λ i. (s, replied i)) ∙ ap (enter_by s t.side t.kind t.price t.quantity) (sym due)
