-- A strike that has a price leaves the settled book. Assumes nothing.
use Rattle.std.proofs.Common.{◌≡◌, ℕ, true, List, take, is_some, Some, None, Option, sym, refl, ap, ◌∙◌}
use Rattle.std.proofs.lemmas.Bool.{false≢true}
use Rattle.words.specs.declared.tape.Trade.{Trade}
use Rattle.pricing.specs.Sides.{Sides}
use Rattle.pricing.specs.Price.{auction_price}
use Rattle.pricing.specs.Outcomes.{outcome_at}
use Rattle.execution.specs.Execution.{written}
use Rattle.execution.specs.Settling.{after_trades}
use Rattle.execution.proofs.Writing.{written_front}
use Rattle.book.specs.declared.striking.Struck.{Struck}
use Rattle.book.specs.Striking.{trades_at, trades_of, after_at, after_strike, struck_of}

after_some : (s : Sides) (x : Option ℕ) → is_some (outcome_at s x).price ≡ true → after_trades (trades_at s x) s ≡ after_at s x
after_some s None e = absurd (false≢true e)
after_some s (Some p) e = refl

pub struck_after : (s after : Sides) (reference : ℕ) (r : Struck) (tape tape' front : List Trade)
    → r ≡ struck_of s reference → tape' ≡ written (trades_of s reference) tape → front ≡ take r.lines tape'
    → is_some r.outcome.price ≡ true → after ≡ after_trades front s → after ≡ after_strike s reference
struck_after s after reference r tape tape' front e f g h k =
    let lines : front ≡ trades_of s reference = g ∙ written_front tape tape' (trades_of s reference) r.lines (ap (λ z. z.lines) e) f in
    k ∙ ap (λ ls. after_trades ls s) lines ∙ after_some s (auction_price s reference) (sym (ap (λ z. is_some z.outcome.price) e) ∙ h)
