-- What a cast of a column of integers comes to.
use Rattle.std.specs.Prelude.{◌≡◌, ◌≢◌, ℕ, ◌*◌, ◌<◌, ◌≤◌, List, drop, length, take, Some, None}
use Rattle.arrow_columns.specs.Casts.{AreCastTo, IsFirstWithout}
use Rattle.arrow_columns.specs.Columns.{IsIntegerColumn, integer_cells, with_start}
use Rattle.arrow_columns.specs.Errors.{IsIntegerError}
use Rattle.arrow_columns.specs.Integers.{width_of}
use Rattle.arrow_columns.specs.Columns.{kind_in}
use Rattle.arrow_columns.specs.Kinds.{integer_kind_at}
use Rattle.arrow_columns.specs.declared.columns.Column.{Column}
use Rattle.arrow_columns.specs.declared.kinds.IntegerKind.{IntegerKind}
use Rattle.arrow_columns.specs.declared.kinds.Kind.TheVariants.{Integer}
use Rattle.vortex_c.specs.ColumnErrors.{place_in_column, status_of_column}
use Rattle.vortex_c.specs.declared.column_casts.CastRefusal.{CastRefusal}
use Rattle.vortex_c.specs.declared.column_casts.CastRefusal.TheVariants.{NotAKind, NotIntegers, TooSmall, Unreadable, Without}
use Rattle.vortex_c.specs.declared.fault.Fault.{Fault}
use Rattle.vortex_c.specs.declared.status.TheConstants.{NONE, BUFFER_TOO_SMALL, UNKNOWN_KIND}

-- the column is one of integers of this kind, and the code is that of the other kind
pub record AreKinds (column : Column) (to : ℕ) (from into : IntegerKind) : Type 0 where
  pub from_is : kind_in column ≡ Some (Integer from)
  pub into_is : integer_kind_at to ≡ Some into

-- the buffer begins with the integers of the column in the kind with this code: 0 for a null
pub record IsColumnCast (column : Column) (to : ℕ) (buffer : List ℕ) : Type 0 where
  pub from : IntegerKind
  pub into : IntegerKind
  pub kinds : AreKinds column to from into
  pub is_column : IsIntegerColumn from (with_start column)
  pub fits : column.length * width_of into ≤ length buffer
  pub cast : AreCastTo into (integer_cells from column) buffer

-- the buffer begins with the integers of the first so many rows of the column in the kind with this code
pub record IsFrontCast (column : Column) (to count : ℕ) (buffer : List ℕ) : Type 0 where
  pub from : IntegerKind
  pub into : IntegerKind
  pub kinds : AreKinds column to from into
  pub is_column : IsIntegerColumn from (with_start column)
  pub cast : AreCastTo into (take count (integer_cells from column)) buffer

-- why a column is not cast to a buffer of so many bytes: no two reasons hold at once
abbrev pub IsCastRefusal : Column → ℕ → ℕ → CastRefusal → Type 0
IsCastRefusal column to size NotAKind = integer_kind_at to ≡ None
IsCastRefusal column to size NotIntegers = (integer_kind_at to ≢ None) × ((from : IntegerKind) → kind_in column ≢ Some (Integer from))
IsCastRefusal column to size (Unreadable fault) = (from into : IntegerKind) × AreKinds column to from into × IsIntegerError from (with_start column) fault
IsCastRefusal column to size TooSmall = (from into : IntegerKind) × AreKinds column to from into × IsIntegerColumn from (with_start column) × (size < column.length * width_of into)
IsCastRefusal column to size (Without row) = (from into : IntegerKind) × AreKinds column to from into × IsIntegerColumn from (with_start column)
    × (column.length * width_of into ≤ size) × IsFirstWithout into (integer_cells from column) row

-- its status
abbrev pub status_of_cast : CastRefusal → ℕ
status_of_cast NotAKind = UNKNOWN_KIND
status_of_cast NotIntegers = UNKNOWN_KIND
status_of_cast (Unreadable fault) = status_of_column fault
status_of_cast TooSmall = BUFFER_TOO_SMALL
status_of_cast (Without row) = NONE

-- where the mistake is then, if it was there before: column 1 is the kind that is asked for
abbrev pub fault_of_cast : Fault → CastRefusal → Fault
fault_of_cast before NotAKind = record { column = 1; place = 0 }
fault_of_cast before NotIntegers = record { column = 0; place = 0 }
fault_of_cast before (Unreadable fault) = record { column = 0; place = place_in_column fault }
fault_of_cast before TooSmall = before
fault_of_cast before (Without row) = record { column = 0; place = row }

-- the call with this status refused for such a reason, and told where
abbrev pub SaysWhyNoCast : Column → ℕ → ℕ → Fault → Fault → ℕ → Type 0
SaysWhyNoCast column to size before after status = (r : CastRefusal) × IsCastRefusal column to size r × (status ≡ status_of_cast r) × (after ≡ fault_of_cast before r)

-- a buffer after such a cast of the front: it has the rows before the first without a value, and else it is as it was
abbrev pub IsLeft : Column → ℕ → List ℕ → List ℕ → CastRefusal → Type 0
IsLeft column to old new NotAKind = new ≡ old
IsLeft column to old new NotIntegers = new ≡ old
IsLeft column to old new (Unreadable fault) = new ≡ old
IsLeft column to old new TooSmall = new ≡ old
IsLeft column to old new (Without row) =
    IsFrontCast column to row new × ((kind : IntegerKind) → integer_kind_at to ≡ Some kind → drop (row * width_of kind) new ≡ drop (row * width_of kind) old)
