-- The numbers and the table of entry, written out. Assumes nothing.
use Rattle.std.specs.Prelude.{◌≡◌, ℕ, List, [], ◌∷◌, map, Some, None, Option}
use Rattle.words.specs.declared.phases.Phase.TheVariants.{OpeningCall, Continuous, InterruptionCall, ClosingCall, Ended}
use Rattle.words.specs.declared.phases.PhaseKind.TheVariants as phase_kinds
use Rattle.words.specs.declared.phases.Stage.TheVariants as stages
use Rattle.words.specs.declared.phases.StrikeResult.TheVariants as results
use Rattle.words.specs.declared.refusals.Refusal.{Refusal}
use Rattle.words.specs.declared.refusals.Refusal.TheVariants.{PriceUnfit, QuantityUnfit, CodeUnknown, PairNeverEnters, MemberUnfit, TimeUnfit, TapeShort, ReferenceUnfit, VersionUnknown, LetterUnknown, LengthUnfit, RecordCutShort, MakingMisplaced, ClientReferenceUnfit, OfferUnfit, BidPriceUnfit, BidMoneyUnfit, TimeRunsBack, CallNotOfPhase, PairNotOfPhase, OrderNotStanding, SideFull, NoLimitOpposite, WouldTrade, NotFilledWhole, AmendedPriceUnfit, StrikeTooEarly, NumbersUsedUp, SaleFull, BidNotOwn}
use Rattle.words.specs.declared.terms.Kind.{Kind}
use Rattle.words.specs.declared.terms.Kind.TheVariants.{Limit, Market, MarketToLimit}
use Rattle.words.specs.declared.terms.Condition.{Condition}
use Rattle.words.specs.declared.terms.Condition.TheVariants.{Unconditional, ImmediateOrCancel, FillOrKill, BookOrCancel}
use Rattle.words.specs.Codes.{phase_code, stage_code, strike_result_code, refusal_number}
use Rattle.words.specs.Phases.{phase_kind}
use Rattle.entry.specs.Entry.{entry_of, entry_refusal}

-- the number of a refusal, and 0 for none
abbrev pub refused_with : Option Refusal → ℕ
refused_with None = 0
refused_with (Some why) = refusal_number why

-- what a pair is refused with in a call and in continuous trading
abbrev pub pair : Kind → Condition → List ℕ
pair k c =
    refused_with (entry_refusal (entry_of k c phase_kinds.Call)) ∷
    refused_with (entry_refusal (entry_of k c phase_kinds.Continuous)) ∷ []

-- and a kind with each condition: none, immediate-or-cancel, fill-or-kill, book-or-cancel
abbrev pub row : Kind → List (List ℕ)
row k = map (pair k) (Unconditional ∷ ImmediateOrCancel ∷ FillOrKill ∷ BookOrCancel ∷ [])

abbrev pub always : List ℕ
always = 0 ∷ 0 ∷ []

abbrev pub continuous_only : List ℕ
continuous_only = 22 ∷ 0 ∷ []

abbrev pub never : List ℕ
never = 4 ∷ 4 ∷ []

pub record WorkedNumbers : Type 0 where
  pub limit_orders_enter : row Limit ≡ always ∷ continuous_only ∷ continuous_only ∷ continuous_only ∷ []
  pub market_orders_enter : row Market ≡ always ∷ continuous_only ∷ continuous_only ∷ never ∷ []
  pub market_to_limit_orders_enter : row MarketToLimit ≡ always ∷ never ∷ never ∷ never ∷ []
  pub phases : map phase_code (OpeningCall ∷ Continuous ∷ InterruptionCall ∷ ClosingCall ∷ Ended ∷ []) ≡ 1 ∷ 2 ∷ 3 ∷ 4 ∷ 5 ∷ []
  pub kinds_of_phases :
      map phase_kind (OpeningCall ∷ Continuous ∷ InterruptionCall ∷ ClosingCall ∷ Ended ∷ [])
      ≡ Some phase_kinds.Call ∷ Some phase_kinds.Continuous ∷ Some phase_kinds.Call ∷ Some phase_kinds.Call ∷ None ∷ []
  pub stages_of_a_call : map stage_code (stages.First ∷ stages.Extended ∷ stages.Held ∷ []) ≡ 1 ∷ 2 ∷ 3 ∷ []
  pub results_of_a_strike : map strike_result_code (results.Executed ∷ results.NoPrice ∷ results.Extended ∷ results.Held ∷ []) ≡ 1 ∷ 2 ∷ 3 ∷ 4 ∷ []
  pub refused_for_what_is_brought :
      map refusal_number (
      PriceUnfit ∷ QuantityUnfit ∷ CodeUnknown ∷ PairNeverEnters ∷ MemberUnfit ∷ TimeUnfit ∷ TapeShort ∷ ReferenceUnfit ∷
      VersionUnknown ∷ LetterUnknown ∷ LengthUnfit ∷ RecordCutShort ∷ MakingMisplaced ∷ ClientReferenceUnfit ∷
      OfferUnfit ∷ BidPriceUnfit ∷ BidMoneyUnfit ∷ [])
      ≡ 1 ∷ 2 ∷ 3 ∷ 4 ∷ 5 ∷ 6 ∷ 7 ∷ 8 ∷ 9 ∷ 10 ∷ 11 ∷ 12 ∷ 13 ∷ 14 ∷ 15 ∷ 16 ∷ 17 ∷ []
  pub refused_for_how_things_stand :
      map refusal_number (
      TimeRunsBack ∷ CallNotOfPhase ∷ PairNotOfPhase ∷ OrderNotStanding ∷ SideFull ∷ NoLimitOpposite ∷ WouldTrade ∷
      NotFilledWhole ∷ AmendedPriceUnfit ∷ StrikeTooEarly ∷ NumbersUsedUp ∷ SaleFull ∷ BidNotOwn ∷ [])
      ≡ 20 ∷ 21 ∷ 22 ∷ 23 ∷ 24 ∷ 25 ∷ 26 ∷ 27 ∷ 28 ∷ 29 ∷ 30 ∷ 31 ∷ 32 ∷ []
