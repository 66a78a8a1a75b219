use Rattle.std.proofs.Common.{◌≡◌, Err, sym, ap, ◌∙◌, subst, arith, rules}
use Rattle.book.specs.Books.{standing_of, joined}
use Rattle.auction.specs.Calls.{preview_by, tape_row}
use Rattle.auction.specs.Laws.{LawOfCall}
use Rattle.auction.specs.States.{view}
use Rattle.auction.proofs.Dues.{order_refused}
use Rattle.auction.proofs.Sounds.{few_joined, apart_joined, empty_again, Kept, kept}
use Rattle.auction.proofs.Trades.{call_law}
use Rattle.auction.proofs.held.Auction.preview.Goals as goal

pub preview-struck-requires-clause-fits : goal.preview-struck-requires-clause-fits
preview-struck-requires-clause-fits c =
    let a = c.args.self.now in
    let o = c.in_ok-order.order in
    let fit = c.in_ok-order.ensures.fit in
    let three = few_joined a.last o.side (standing_of a.book) o a.buys_sound a.sells_sound (omega (arith, fit.1, ap (λ z. z.quantity) fit.0)) in
    record { buys = omega (arith, a.buys_sound.0, a.book.buys.ok.0); sells = omega (arith, a.sells_sound.0, a.book.sells.ok.0); few_buys = three.0; few_sells = three.1 }

pub invariant_of-self : goal.invariant_of-self
invariant_of-self c =
    let a = c.args.self.now in
    subst (Kept a.last) (sym (c.preview-struck.ensures.after ∙ empty_again a.book a.clear)) (kept a)

pub returns-clause-law_of_call : goal.returns-clause-law_of_call
returns-clause-law_of_call c =
    let a = c.args.self.now in
    let s = standing_of a.book in
    let o = c.in_ok-order.order in
    let fit = c.in_ok-order.ensures.fit in
    let e = c.preview-struck.ensures in
    let apart = apart_joined a.last o.side s o a.buys_sound a.sells_sound (ap (λ z. z.number) fit.0) in
    let three = few_joined a.last o.side s o a.buys_sound a.sells_sound (omega (arith, fit.1, ap (λ z. z.quantity) fit.0)) in
    subst (λ z. LawOfCall (joined s z) a.reference c.preview-struck.result c.preview-struck.new.tape) fit.0 (call_law (joined s o) a.reference c.preview-struck.result c.args.tape.now c.preview-struck.new.tape apart.0 apart.1 three.2 e.value e.lines e.law_of_price)

pub returns-in_err-order-clause-reply : goal.returns-in_err-order-clause-reply
returns-in_err-order-clause-reply c =
    let t = c.args.ticket in
    let tape = c.args.tape.now in
    let why = c.in_err-order.field-0.0 in
    let replied : c.from_residual.result ≡ Err why = search rules in
    let due = order_refused _ t.kind t.price t.quantity why (tape_row tape) (sym c.in_err-order.was ∙ c.order_with.ensures.value) in
    (λ i. (tape, replied i)) ∙ ap (preview_by (view c.args.self.now) t.side t.kind t.price t.quantity tape) (sym due)
