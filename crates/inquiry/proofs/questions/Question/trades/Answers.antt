use Rattle.std.proofs.Common.{IfOk, subst}
use Rattle.auction.specs.Calls.{order_of}
use Rattle.auction.specs.Laws.{LawOfCall}
use Rattle.auction.specs.States.{view}
use Rattle.book.specs.Books.{joined}
use Rattle.inquiry.proofs.Asked.{asked_is}
use Rattle.inquiry.proofs.questions.Question.trades.Goals as goal

pub returns-clause-law_of_call : goal.returns-clause-law_of_call
returns-clause-law_of_call c =
    let s = view c.args.auction.now in
    let t = c.from.result in
    let law = subst (λ r. IfOk r (λ k. LawOfCall (joined s.sides (order_of 0 t.side t.kind t.price t.quantity)) s.reference k c.preview.new.tape)) c.unwrap.ensures c.preview.ensures.law_of_call in
    subst (λ o. LawOfCall (joined s.sides o) s.reference c.unwrap.result c.preview.new.tape) (asked_is c.args.self.order t c.args.self.askable c.from.ensures) law
