use Rattle.std.proofs.Common.{sym, refl, ap, ◌∙◌, ap₂}
use Rattle.execution.specs.Execution.{written}
use Rattle.pricing.specs.Sides.{sides}
use Rattle.book.specs.Books.{standing_of}
use Rattle.book.specs.Striking.{trades_of, struck_of}
use Rattle.book.proofs.Struck.{struck_after}
use Rattle.book.proofs.table.Book.strike.Goals as goal

pub returns-then-is_some-clause-standing : goal.returns-then-is_some-clause-standing
returns-then-is_some-clause-standing c =
    let reference = c.args.reference in
    let seen = c.new-standing.ensures ∙ ap₂ sides c.as_slice.ensures.value c.as_slice-2.ensures.value in
    let value = c.strike_orders-struck.ensures.value ∙ ap (λ s. struck_of s reference) seen in
    let lines = c.strike_orders-struck.ensures.lines ∙ ap (λ s. written (trades_of s reference) c.args.tape.now) seen in
    struck_after (standing_of c.args.self.now) _ reference c.strike_orders-struck.result c.args.tape.now c.strike_orders-struck.new.tape _ value lines refl (sym c.if-is_some.ensures) c.settle_by.ensures.standing
