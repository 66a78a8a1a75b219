-- When a study is answered, and when it is refused. Assumes nothing.
use Rattle.std.specs.Prelude.{◌≡◌, Ok, Err, Result, ◌≢◌}
use Rattle.study.specs.declared.faults.Fault.{Fault}
use Rattle.study.specs.Studies.{Content}
use Rattle.study.specs.declared.faults.StudyError.{StudyError}
use Rattle.study.specs.declared.faults.StudyError.TheVariants as errors

-- a text with a fault gets that fault and no answer, a text without one gets no fault; memory may be wanting either way
abbrev pub Answers : {A : Type 0} → Result Content Fault → Result A StudyError → Type 0
Answers c (Ok answer) = (f : Fault) → c ≢ Err f
Answers c (Err (errors.Fault f)) = c ≡ Err f
Answers c (Err errors.NoMemory) = Unit {0}
