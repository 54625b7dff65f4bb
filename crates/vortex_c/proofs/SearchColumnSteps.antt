-- What a status says of columns that are not written.
use Rattle.std.proofs.Common.{◌≡◌, ◌≢◌, ◌∙◌, ◌⊎◌, inl, inr, ℕ, List, arith, refl, subst, sym}
use Rattle.column_keys.specs.declared.buffers.ColumnBuffers.{ColumnBuffers}
use Rattle.record_columns.specs.Refused.{AreCountsIfSmall, IsRefusal, StayIfOther}
use Rattle.record_columns.specs.Rows.{matching_in}
use Rattle.record_columns.specs.declared.errors.ColumnsError.{ColumnsError}
use Rattle.record_columns.specs.declared.errors.ColumnsError.TheVariants.{BufferTooSmall, Record, UnknownColumn, WrongLength}
use Rattle.record_rows.specs.declared.schema.Schema.{Schema}
use Rattle.vortex_filter.specs.Formula.{Formula}
use Rattle.zone_index.specs.declared.errors.RecordError.TheVariants as faults
use Rattle.vortex_c.specs.EncodingAnswers.{HasAnswer}
use Rattle.vortex_c.specs.SearchColumns.{AreCountsIn, fault_of_columns, rows_told, status_of_columns}
use Rattle.vortex_c.specs.declared.search_faults.SearchFault.{SearchFault}
use Rattle.vortex_c.specs.declared.status.TheConstants.{BUFFER_TOO_SMALL, GIVEN}

-- nothing is given
pub none_given : (e : ColumnsError) → status_of_columns e ≢ GIVEN
none_given WrongLength h = omega (arith, h)
none_given (UnknownColumn which) h = omega (arith, h)
none_given (Record (faults.Refused refusal)) h = omega (arith, h)
none_given (Record faults.Memory) h = omega (arith, h)
none_given (BufferTooSmall rows) h = omega (arith, h)

-- where a buffer is too short, the counts are told
pub counts_told : (s : Schema) (f : Formula) (place : ℕ) (text wanted : List ℕ) (old new : List ColumnBuffers) (e : ColumnsError) (before rows : ℕ) → status_of_columns e ≡ BUFFER_TOO_SMALL → rows ≡ rows_told e before
    → IsRefusal s f place text wanted new e → AreCountsIfSmall s (matching_in s f text) wanted old new e → AreCountsIn s f text wanted old new rows
counts_told s f place text wanted old new WrongLength before rows h told refused counts = absurd (omega (arith, h))
counts_told s f place text wanted old new (UnknownColumn which) before rows h told refused counts = absurd (omega (arith, h))
counts_told s f place text wanted old new (Record (faults.Refused refusal)) before rows h told refused counts = absurd (omega (arith, h))
counts_told s f place text wanted old new (Record faults.Memory) before rows h told refused counts = absurd (omega (arith, h))
counts_told s f place text wanted old new (BufferTooSmall count) before rows h told refused counts = record { count = told ∙ refused.1.count; columns = counts }

-- else nothing is written
pub else_kept : (old new : List ColumnBuffers) (e : ColumnsError) (before rows : ℕ) → rows ≡ rows_told e before → StayIfOther old new e → (HasAnswer (status_of_columns e)) ⊎ ((new ≡ old) × (rows ≡ before))
else_kept old new WrongLength before rows told kept = inr (kept, told)
else_kept old new (UnknownColumn which) before rows told kept = inr (kept, told)
else_kept old new (Record (faults.Refused refusal)) before rows told kept = inr (kept, told)
else_kept old new (Record faults.Memory) before rows told kept = inr (kept, told)
else_kept old new (BufferTooSmall count) before rows told kept = inl (inr refl)

-- and no mistake is told where there is an answer
pub fault_kept : (wanted : ℕ) (e : ColumnsError) (before : SearchFault) → HasAnswer (status_of_columns e) → fault_of_columns wanted e before ≡ before
fault_kept wanted WrongLength before (inl h) = absurd (omega (arith, h))
fault_kept wanted WrongLength before (inr h) = absurd (omega (arith, h))
fault_kept wanted (UnknownColumn which) before (inl h) = absurd (omega (arith, h))
fault_kept wanted (UnknownColumn which) before (inr h) = absurd (omega (arith, h))
fault_kept wanted (Record (faults.Refused refusal)) before (inl h) = absurd (omega (arith, h))
fault_kept wanted (Record (faults.Refused refusal)) before (inr h) = absurd (omega (arith, h))
fault_kept wanted (Record faults.Memory) before h = refl
fault_kept wanted (BufferTooSmall count) before h = refl

-- what holds of a matcher holds of what is sought
pub of_sought : (P : Schema → Formula → Type 0) (s t : Schema) (f g : Formula) → s ≡ t → f ≡ g → P s f → P t g
of_sought P s t f g schema filter h = subst (λ (x : Formula). P t x) filter (subst (λ (x : Schema). P x f) schema h)
