-- The phases of a trading day. Assumes nothing.
use Rattle.std.specs.Prelude.{Some, None, Option}
use Rattle.words.specs.declared.phases.Phase.{Phase}
use Rattle.words.specs.declared.phases.Phase.TheVariants as phases
use Rattle.words.specs.declared.phases.PhaseKind.{PhaseKind}
use Rattle.words.specs.declared.phases.PhaseKind.TheVariants.{Call, Continuous}

-- three phases are calls, one is continuous trading, and the ended day is neither
abbrev pub phase_kind : Phase → Option PhaseKind
phase_kind phases.OpeningCall = Some Call
phase_kind phases.Continuous = Some Continuous
phase_kind phases.InterruptionCall = Some Call
phase_kind phases.ClosingCall = Some Call
phase_kind phases.Ended = None
