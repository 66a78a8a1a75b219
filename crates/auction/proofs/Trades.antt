-- The trades of a sound book's call are lawful. Assumes nothing.
use Rattle.std.proofs.Common.{◌≡◌, ℕ, ◌+◌, ◌≤◌, List, length, Some, None, Option, sym, refl, ap, ◌∙◌, subst, arith}
use Rattle.words.specs.declared.orders.Order.{Order}
use Rattle.words.specs.declared.sides.Side.{Side}
use Rattle.words.specs.declared.tape.Trade.{Trade}
use Rattle.pricing.specs.Laws.{LawOfPrice}
use Rattle.pricing.specs.Price.{auction_price}
use Rattle.pricing.specs.Sides.{Sides}
use Rattle.pricing.proofs.Prices.{price_replied}
use Rattle.ranking.specs.Lists.{In}
use Rattle.execution.specs.Execution.{written}
use Rattle.execution.specs.Laws.{Apart, standing}
use Rattle.execution.specs.Settling.{traded}
use Rattle.execution.proofs.Executes.{execution, short}
use Rattle.execution.proofs.Writing.{written_front}
use Rattle.book.specs.declared.striking.Struck.{Struck}
use Rattle.book.specs.declared.asking.Answer.{Answer}
use Rattle.book.specs.Asking.{answer_in}
use Rattle.book.specs.Striking.{trades_at, trades_of, struck_of}
use Rattle.auction.specs.Laws.{LawOfTrades, LawOfCall, LawOfAnswer}

trades_law : (s : Sides) → Apart s.buys → Apart s.sells → (x : Option ℕ) → LawOfTrades s x (trades_at s x)
trades_law s h k None = refl
trades_law s h k (Some p) = execution s p h k

lines_few : (s : Sides) → length s.buys + length s.sells ≤ 257 → (x : Option ℕ) → length (trades_at s x) ≤ 256
lines_few s h None = omega arith
lines_few s h (Some p) = omega (arith, short s p)

pub call_law : (s : Sides) (reference : ℕ) (r : Struck) (before after : List Trade) → Apart s.buys → Apart s.sells → length s.buys + length s.sells ≤ 257
    → r ≡ struck_of s reference → after ≡ written (trades_of s reference) before → LawOfPrice s reference r.outcome.price → LawOfCall s reference r after
call_law s reference r before after h k few e lines law =
    let found : auction_price s reference ≡ r.outcome.price = sym (ap (λ z. z.outcome.price) e ∙ price_replied s (auction_price s reference)) in
    let many : r.lines ≡ length (trades_of s reference) = ap (λ z. z.lines) e in
    let first = sym (written_front before after (trades_of s reference) r.lines many lines) in
    record {
      price_law = law;
      trades_law = subst (LawOfTrades s r.outcome.price) first (subst (λ x. LawOfTrades s x (trades_of s reference)) found (trades_law s h k (auction_price s reference)));
      few_lines = omega (arith, many, lines_few s few (auction_price s reference));
    }

shares_within : (x : Side) (s : Sides) (o : Order) → Apart s.buys → Apart s.sells → In o (standing x s) → (z : Option ℕ) → traded x o.number (trades_at s z) ≤ o.quantity
shares_within x s o h k m None = omega arith
shares_within x s o h k m (Some p) = (execution s p h k).within_quantity x o m

pub answer_law : (s : Sides) (reference : ℕ) (o : Order) (a : Answer) → Apart s.buys → Apart s.sells → In o (standing o.side s)
    → a ≡ answer_in s o reference → LawOfPrice s reference a.outcome.price → LawOfAnswer s o reference a
answer_law s reference o a h k m e law = record { price_law = law; within_quantity = omega (arith, ap (λ z. z.shares) e, shares_within o.side s o h k m (auction_price s reference)) }
