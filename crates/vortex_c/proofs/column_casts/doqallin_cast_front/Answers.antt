-- Of the refusals only that of a row without an integer has the status NONE.
use Rattle.std.proofs.Common.{◌≡◌, ◌∙◌, ℕ, List, arith, subst, sym}
use Rattle.arrow_columns.specs.declared.columns.Column.{Column}
use Rattle.arrow_columns.specs.declared.errors.ColumnError.{ColumnError}
use Rattle.arrow_columns.specs.declared.errors.ColumnError.TheVariants.{BadOffsets, NotAValue, NotUtf8, TooManyRows, TooShort, UnknownKind}
use Rattle.vortex_c.specs.ColumnCasts.{IsFrontCast, IsLeft, fault_of_cast, status_of_cast}
use Rattle.vortex_c.specs.ColumnErrors.{status_of_column}
use Rattle.vortex_c.specs.declared.column_casts.CastRefusal.{CastRefusal}
use Rattle.vortex_c.specs.declared.column_casts.CastRefusal.TheVariants.{NotAKind, NotIntegers, TooSmall, Unreadable, Without}
use Rattle.vortex_c.specs.declared.fault.Fault.{Fault}
use Rattle.vortex_c.specs.declared.status.TheConstants.{NONE}
use Rattle.vortex_c.proofs.column_casts.doqallin_cast_front.Goals as goal

not-of-column : (fault : ColumnError) → status_of_column fault ≡ NONE → ⊥
not-of-column UnknownKind is = omega (arith, is)
not-of-column TooManyRows is = omega (arith, is)
not-of-column (TooShort buffer) is = omega (arith, is)
not-of-column (BadOffsets row) is = omega (arith, is)
not-of-column (NotUtf8 row) is = omega (arith, is)
not-of-column (NotAValue row) is = omega (arith, is)

front-left : (column : Column) (to : ℕ) (old new : List ℕ) (before : Fault) (r : CastRefusal) → IsLeft column to old new r → status_of_cast r ≡ NONE → IsFrontCast column to (fault_of_cast before r).place new
front-left column to old new before NotAKind left is = absurd (omega (arith, is))
front-left column to old new before NotIntegers left is = absurd (omega (arith, is))
front-left column to old new before (Unreadable fault) left is = absurd (not-of-column fault is)
front-left column to old new before TooSmall left is = absurd (omega (arith, is))
front-left column to old new before (Without row) left is = left.0

pub returns-in-Err-clause-front : goal.returns-in-Err-clause-front
returns-in-Err-clause-front c = λ is.
    subst (λ (after : Fault). IsFrontCast c.args.column.now c.args.to after.place c.cast_front.new.buffer) (sym c.tell.ensures)
    (front-left c.args.column.now c.args.to c.args.buffer.now c.cast_front.new.buffer c.args.fault.now c.in-Err.refusal c.in-Err.ensures.left (sym c.status_of_refusal.ensures.status ∙ is))
