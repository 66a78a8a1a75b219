-- The phrases that faults are shown by. Assumes nothing.
use Rattle.std.specs.Prelude.{ℕ, List, ◌++◌, codes, decimal, max}
use Rattle.study.specs.declared.faults.Fault.{Fault}
use Rattle.study.specs.declared.faults.Reason.{Reason}
use Rattle.study.specs.declared.faults.StudyError.{StudyError}
use Rattle.study.specs.declared.faults.StudyError.TheVariants as errors
use Rattle.study.specs.declared.faults.Reason.TheVariants.{NotText, UnknownWord, MissingWord, WordsAfter, PriceMalformed, PriceDecimals, PriceRange, QuantityMalformed, QuantityRange, SideFull, ReferenceTwice, ReferenceMissing, NothingThere}

abbrev pub phrase : Reason → List ℕ
phrase NotText = codes "a byte that is not text"
phrase UnknownWord = codes "a word that is not known here"
phrase MissingWord = codes "the statement ends too early"
phrase WordsAfter = codes "something follows the end of the statement"
phrase PriceMalformed = codes "a price is digits, or digits, a point and digits"
phrase PriceDecimals = codes "a price has at most two decimals"
phrase PriceRange = codes "a price is from 0.01 to 10000.00"
phrase QuantityMalformed = codes "a quantity is digits only"
phrase QuantityRange = codes "a quantity is from 1 to 1000000"
phrase SideFull = codes "a side has at most 128 orders"
phrase ReferenceTwice = codes "the reference is given twice"
phrase ReferenceMissing = codes "the study has no reference"
phrase NothingThere = codes "the study has no statement"

-- the line and the phrase; the last line of an empty text is shown as line 1
abbrev pub fault_text : Fault → List ℕ
fault_text x = codes "line " ++ (decimal (max x.line 1) ++ (codes ": " ++ phrase x.reason))

abbrev pub error_text : StudyError → List ℕ
error_text (errors.Fault x) = fault_text x
error_text errors.NoMemory = codes "there is not enough memory"
