-- What the code's values say, in the words of the definitions. Assumes nothing.
use Rattle.std.specs.Prelude.{◌≡◌, ℕ, List, [], ◌∷◌, Some, None, Ok, Err, vec_items, Option, Result}
use Rattle.std.specs.Borrow.{Bor}
use Rattle.study.specs.declared.drafts.Draft.{Draft}
use Rattle.study.specs.declared.studies.Study.{Study}
use Rattle.study.specs.declared.faults.Fault.{Fault}
use Rattle.study.specs.declared.faults.StudyError.{StudyError}
use Rattle.study.specs.declared.faults.StudyError.TheVariants as errors
use Rattle.study.specs.Studies.{Reading, Content, lines_of}

abbrev pub view : Draft → Reading
view d = record { reference = d.reference; orders = vec_items d.orders; asks = vec_items d.asks }

abbrev pub content : Study → Content
content s = record { reference = s.reference; orders = vec_items s.orders; asks = vec_items s.asks }

-- an answer is the one defined, with s for what a success leaves; want of memory says nothing
abbrev pub Agrees : {A B : Type 0} → Result A StudyError → (A → B) → Result B Fault → Type 0
Agrees (Ok x) s e = e ≡ Ok (s x)
Agrees (Err (errors.Fault f)) s e = e ≡ Err f
Agrees (Err errors.NoMemory) s e = Unit {0}

-- the lines that a first line and what follows it stand for
abbrev pub cut_line : Option (Bor (List ℕ) × Bor (List ℕ)) → List (List ℕ)
cut_line None = []
cut_line (Some x) = x.0.now ∷ lines_of x.1.now
