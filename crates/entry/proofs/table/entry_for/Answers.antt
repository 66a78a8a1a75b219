use Rattle.std.proofs.Common.{◌≡◌, ℕ, ◌-◌, [], slice_index_or, Ok, arith}
use Rattle.words.specs.declared.phases.PhaseKind.{PhaseKind}
use Rattle.words.specs.declared.phases.PhaseKind.TheVariants.{Call, Continuous}
use Rattle.words.specs.declared.terms.Kind.{Kind}
use Rattle.words.specs.declared.terms.Condition.{Condition}
use Rattle.words.specs.Codes.{kind_code, condition_code}
use Rattle.entry.specs.declared.table.TheConstants.{TABLE}
use Rattle.entry.specs.Entry.{entry_of}
use Rattle.entry.proofs.table.entry_for.Goals as goal

abbrev column_of : PhaseKind → ℕ
column_of Call = 0
column_of Continuous = 1

-- the table has the rule's answer in each of its cells
in_each_cell :
    (k : Kind) (c : Condition) (p : PhaseKind) (row place column : ℕ) →
    row ≡ kind_code k - 1 →
    place ≡ condition_code c →
    column ≡ column_of p →
    slice_index_or (slice_index_or (slice_index_or TABLE row []) place []) column (Ok tt) ≡ entry_of k c p
in_each_cell k c p row place column e f g = grind arith

pub returns : goal.returns
returns c = in_each_cell c.args.kind c.args.condition c.args.phase_kind _ _ _ (grind arith) (grind arith) (grind arith)
