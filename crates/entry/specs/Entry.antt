-- Which orders enter, by kind, by condition, and by what the phase is. Assumes nothing.
use Rattle.std.specs.Prelude.{Bool, true, false, cond, Some, None, Option, Ok, Err, Result}
use Rattle.words.specs.declared.phases.PhaseKind.{PhaseKind}
use Rattle.words.specs.declared.phases.PhaseKind.TheVariants.{Call, Continuous}
use Rattle.words.specs.declared.refusals.Refusal.{Refusal}
use Rattle.words.specs.declared.refusals.Refusal.TheVariants.{PairNeverEnters, PairNotOfPhase}
use Rattle.words.specs.declared.terms.Kind.{Kind}
use Rattle.words.specs.declared.terms.Kind.TheVariants.{Limit, Market, MarketToLimit}
use Rattle.words.specs.declared.terms.Condition.{Condition}
use Rattle.words.specs.declared.terms.Condition.TheVariants.{Unconditional, ImmediateOrCancel, FillOrKill, BookOrCancel}

-- a limit order may have any condition, a market order any but book-or-cancel, a market-to-limit order none
abbrev pub may_have : Kind → Condition → Bool
may_have k Unconditional = true
may_have Limit ImmediateOrCancel = true
may_have Limit FillOrKill = true
may_have Limit BookOrCancel = true
may_have Market ImmediateOrCancel = true
may_have Market FillOrKill = true
may_have Market BookOrCancel = false
may_have MarketToLimit ImmediateOrCancel = false
may_have MarketToLimit FillOrKill = false
may_have MarketToLimit BookOrCancel = false

-- a call takes orders without a condition, continuous trading takes all
abbrev pub takes : PhaseKind → Condition → Bool
takes Call Unconditional = true
takes Call ImmediateOrCancel = false
takes Call FillOrKill = false
takes Call BookOrCancel = false
takes Continuous c = true

-- what an order meets: it enters, or it is refused as a pair that never enters, or for the phase alone
abbrev pub entry_of : Kind → Condition → PhaseKind → Result (Unit {0}) Refusal
entry_of k c p = cond (may_have k c) (cond (takes p c) (Ok tt) (Err PairNotOfPhase)) (Err PairNeverEnters)

-- what an order that does not enter is refused for
abbrev pub entry_refusal : Result (Unit {0}) Refusal → Option Refusal
entry_refusal (Ok _) = None
entry_refusal (Err why) = Some why
