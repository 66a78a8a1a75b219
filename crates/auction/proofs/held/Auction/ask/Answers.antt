use Rattle.std.proofs.Common.{sym, ap, ◌∙◌, subst, arith}
use Rattle.book.specs.Books.{standing_of, joined}
use Rattle.auction.specs.Laws.{LawOfAnswer}
use Rattle.auction.proofs.Sounds.{few_joined, apart_joined, in_joined, empty_again, Kept, kept}
use Rattle.auction.proofs.Trades.{answer_law}
use Rattle.auction.proofs.held.Auction.ask.Goals as goal

pub ask-requires : goal.ask-requires
ask-requires c =
    let a = c.args.self.now in
    let o = c.in_ok-order.order in
    let fit = c.in_ok-order.ensures.fit in
    let three = few_joined a.last o.side (standing_of a.book) o a.buys_sound a.sells_sound (omega (arith, fit.1, ap (λ z. z.quantity) fit.0)) in
    record { buys = omega (arith, a.buys_sound.0, a.book.buys.ok.0); sells = omega (arith, a.sells_sound.0, a.book.sells.ok.0); few_buys = three.0; few_sells = three.1 }

pub invariant_of-self : goal.invariant_of-self
invariant_of-self c =
    let a = c.args.self.now in
    subst (Kept a.last) (sym (c.ask.ensures.after ∙ empty_again a.book a.clear)) (kept a)

pub returns-clause-law_of_answer : goal.returns-clause-law_of_answer
returns-clause-law_of_answer c =
    let a = c.args.self.now in
    let s = standing_of a.book in
    let o = c.in_ok-order.order in
    let is = c.in_ok-order.ensures.fit.0 in
    let apart = apart_joined a.last o.side s o a.buys_sound a.sells_sound (ap (λ z. z.number) is) in
    subst (λ z. LawOfAnswer (joined s z) z a.reference c.ask.result) is (answer_law (joined s o) a.reference o c.ask.result apart.0 apart.1 (in_joined o.side s o) c.ask.ensures.value c.ask.ensures.law_of_price)
