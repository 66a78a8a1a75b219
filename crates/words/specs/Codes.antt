-- The numbers of the market's enums: each value is given its number here, once. Assumes nothing.
use Rattle.std.specs.Prelude.{◌≡◌, ℕ, zero, suc, ◌+◌, cond, List, [], ◌∷◌, ◌++◌, map, Some, None, Option, ◌==◌}
use Rattle.words.specs.declared.sides.Side.{Side}
use Rattle.words.specs.declared.sides.Side.TheVariants.{Buy, Sell}
use Rattle.words.specs.declared.terms.Kind.{Kind}
use Rattle.words.specs.declared.terms.Kind.TheVariants as kinds
use Rattle.words.specs.declared.terms.Condition.{Condition}
use Rattle.words.specs.declared.terms.Condition.TheVariants.{Unconditional, ImmediateOrCancel, FillOrKill, BookOrCancel}
use Rattle.words.specs.declared.phases.Phase.{Phase}
use Rattle.words.specs.declared.phases.Phase.TheVariants.{OpeningCall, Continuous, InterruptionCall, ClosingCall, Ended}
use Rattle.words.specs.declared.phases.Stage.{Stage}
use Rattle.words.specs.declared.phases.Stage.TheVariants as stages
use Rattle.words.specs.declared.phases.StrikeResult.{StrikeResult}
use Rattle.words.specs.declared.phases.StrikeResult.TheVariants as results
use Rattle.words.specs.declared.refusals.Refusal.{Refusal}
use Rattle.words.specs.declared.refusals.Refusal.TheVariants.{PriceUnfit, QuantityUnfit, CodeUnknown, PairNeverEnters, MemberUnfit, TimeUnfit, TapeShort, ReferenceUnfit, VersionUnknown, LetterUnknown, LengthUnfit, RecordCutShort, MakingMisplaced, ClientReferenceUnfit, OfferUnfit, BidPriceUnfit, BidMoneyUnfit, TimeRunsBack, CallNotOfPhase, PairNotOfPhase, OrderNotStanding, SideFull, NoLimitOpposite, WouldTrade, NotFilledWhole, AmendedPriceUnfit, StrikeTooEarly, NumbersUsedUp, SaleFull, BidNotOwn}

-- the sides
abbrev pub side_code : Side → ℕ
side_code Buy = 1
side_code Sell = 2

-- the kinds of order
abbrev pub kind_code : Kind → ℕ
kind_code kinds.Limit = 1
kind_code kinds.Market = 2
kind_code kinds.MarketToLimit = 3

-- the conditions of execution
abbrev pub condition_code : Condition → ℕ
condition_code Unconditional = 0
condition_code ImmediateOrCancel = 1
condition_code FillOrKill = 2
condition_code BookOrCancel = 3

-- the phases of a day
abbrev pub phase_code : Phase → ℕ
phase_code OpeningCall = 1
phase_code Continuous = 2
phase_code InterruptionCall = 3
phase_code ClosingCall = 4
phase_code Ended = 5

-- the stages of a call
abbrev pub stage_code : Stage → ℕ
stage_code stages.First = 1
stage_code stages.Extended = 2
stage_code stages.Held = 3

-- how a strike or a release ends
abbrev pub strike_result_code : StrikeResult → ℕ
strike_result_code results.Executed = 1
strike_result_code results.NoPrice = 2
strike_result_code results.Extended = 3
strike_result_code results.Held = 4

-- the refusals: 1 to 17 for what is brought, 20 to 32 for how things stand
abbrev pub refusal_number : Refusal → ℕ
refusal_number PriceUnfit = 1
refusal_number QuantityUnfit = 2
refusal_number CodeUnknown = 3
refusal_number PairNeverEnters = 4
refusal_number MemberUnfit = 5
refusal_number TimeUnfit = 6
refusal_number TapeShort = 7
refusal_number ReferenceUnfit = 8
refusal_number VersionUnknown = 9
refusal_number LetterUnknown = 10
refusal_number LengthUnfit = 11
refusal_number RecordCutShort = 12
refusal_number MakingMisplaced = 13
refusal_number ClientReferenceUnfit = 14
refusal_number OfferUnfit = 15
refusal_number BidPriceUnfit = 16
refusal_number BidMoneyUnfit = 17
refusal_number TimeRunsBack = 20
refusal_number CallNotOfPhase = 21
refusal_number PairNotOfPhase = 22
refusal_number OrderNotStanding = 23
refusal_number SideFull = 24
refusal_number NoLimitOpposite = 25
refusal_number WouldTrade = 26
refusal_number NotFilledWhole = 27
refusal_number AmendedPriceUnfit = 28
refusal_number StrikeTooEarly = 29
refusal_number NumbersUsedUp = 30
refusal_number SaleFull = 31
refusal_number BidNotOwn = 32

-- a code is read as the value that has it, if one has
abbrev pub side_at : ℕ → Option Side
side_at n = cond (n == side_code Buy) (Some Buy) (cond (n == side_code Sell) (Some Sell) None)

abbrev pub kind_at : ℕ → Option Kind
kind_at n =
    cond (n == kind_code kinds.Limit) (Some kinds.Limit)
    (cond (n == kind_code kinds.Market) (Some kinds.Market)
    (cond (n == kind_code kinds.MarketToLimit) (Some kinds.MarketToLimit) None))

abbrev pub condition_at : ℕ → Option Condition
condition_at n =
    cond (n == condition_code Unconditional) (Some Unconditional)
    (cond (n == condition_code ImmediateOrCancel) (Some ImmediateOrCancel)
    (cond (n == condition_code FillOrKill) (Some FillOrKill)
    (cond (n == condition_code BookOrCancel) (Some BookOrCancel) None)))

-- each code leads back to its value, and no other number does
pub record CodesAgree : Type 0 where
  pub sides : (x : Side) → side_at (side_code x) ≡ Some x
  pub sides_only : (n : ℕ) (x : Side) → side_at n ≡ Some x → n ≡ side_code x
  pub kinds_back : (x : Kind) → kind_at (kind_code x) ≡ Some x
  pub kinds_only : (n : ℕ) (x : Kind) → kind_at n ≡ Some x → n ≡ kind_code x
  pub conditions : (x : Condition) → condition_at (condition_code x) ≡ Some x
  pub conditions_only : (n : ℕ) (x : Condition) → condition_at n ≡ Some x → n ≡ condition_code x

-- every refusal, in the order of the numbers
abbrev pub refusals : List Refusal
refusals =
    PriceUnfit ∷ QuantityUnfit ∷ CodeUnknown ∷ PairNeverEnters ∷ MemberUnfit ∷
    TimeUnfit ∷ TapeShort ∷ ReferenceUnfit ∷ VersionUnknown ∷ LetterUnknown ∷
    LengthUnfit ∷ RecordCutShort ∷ MakingMisplaced ∷ ClientReferenceUnfit ∷ OfferUnfit ∷
    BidPriceUnfit ∷ BidMoneyUnfit ∷ TimeRunsBack ∷ CallNotOfPhase ∷ PairNotOfPhase ∷
    OrderNotStanding ∷ SideFull ∷ NoLimitOpposite ∷ WouldTrade ∷ NotFilledWhole ∷
    AmendedPriceUnfit ∷ StrikeTooEarly ∷ NumbersUsedUp ∷ SaleFull ∷ BidNotOwn ∷ []

-- a number is read as the refusal that has it, if one has
abbrev pub numbered : ℕ → List Refusal → Option Refusal
numbered n [] = None
numbered n (x ∷ xs) = cond (n == refusal_number x) (Some x) (numbered n xs)

abbrev pub refusal_at : ℕ → Option Refusal
refusal_at n = numbered n refusals

-- `many` numbers from n on
abbrev pub counted : ℕ → ℕ → List ℕ
counted n zero = []
counted n (suc many) = n ∷ counted (n + 1) many

-- each number leads back to its refusal, and no other number does
pub record RefusalsNumbered : Type 0 where
  pub refusals_back : (x : Refusal) → refusal_at (refusal_number x) ≡ Some x
  pub refusals_only : (n : ℕ) (x : Refusal) → refusal_at n ≡ Some x → n ≡ refusal_number x
  pub numbers : map refusal_number refusals ≡ counted 1 17 ++ counted 20 13
