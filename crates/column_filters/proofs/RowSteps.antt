-- Steps of the mask of columns.
use Rattle.std.proofs.Common.{◌≡◌, ℕ, ◌≤◌, List, length, sym, subst, ap, ◌∙◌, arith, take}
use Rattle.std.specs.Prelude.{Err, IfErr, IsErr, IsErrAnd, Ok, Result}
use Rattle.std.proofs.lemmas.List.{take_all}
use Rattle.arrow_columns.specs.Bitmaps.{bitmap_length}
use Rattle.arrow_columns.specs.declared.columns.Column.{Column}
use Rattle.arrow_columns.specs.declared.tested_rows.Rows.{Rows}
use Rattle.vortex_dtype.specs.TypeTree.{TypeTree}
use Rattle.vortex_filter.specs.Formula.{Formula, is_match}
use Rattle.vortex_filter.specs.Named.{NamedColumnsDecide}
use Rattle.vortex_filter.specs.Truths.{is_true}
use Rattle.column_kernels.specs.Masks.{IsMask, matching}
use Rattle.column_kernels.specs.Words.{HaveRowsTo, HaveTexts, cells_of_row}
use Rattle.column_filters.specs.Tables.{AreReadFrom, HaveRows, IsMaskError, IsTableError, cells_of_columns}
use Rattle.column_filters.specs.declared.errors.MaskError.{MaskError}
use Rattle.column_filters.specs.declared.errors.MaskError.TheVariants.{BufferTooSmall, OutOfMemory, TypesDiffer, Unreadable, WrongCount, WrongLength}

-- columns of so many rows have them all
pub rows-to : (columns : List Rows) (count : ℕ) → HaveRows columns count → HaveRowsTo count columns
rows-to columns count all i d h = let one = all i d h in omega (arith, one.0)

-- and strings that are UTF-8
pub texts-of : (columns : List Rows) (count : ℕ) → HaveRows columns count → HaveTexts columns
texts-of columns count all i d h = (all i d h).1

-- the mask of what was read is that of the columns
pub mask-along : NamedColumnsDecide → (f : Formula) (columns : List Column) (count : ℕ) (table given : List Rows) (mask : List ℕ) → given ≡ table → AreReadFrom f columns count (length columns) table → IsMask (matching f (cells_of_row given)) count mask
    → IsMask (matching f (cells_of_columns columns)) count mask
mask-along decide f columns count table given mask same read is = record {
  rows = λ row l.
      is.rows row l ∙ ap (λ xs. is_match f (cells_of_row xs row)) same ∙ ap is_true (decide f (cells_of_row table row) (cells_of_columns (take (length columns) columns) row) (read.cells row))
      ∙ ap (λ xs. is_match f (cells_of_columns xs row)) (take_all (length columns) columns (omega arith));
  zeros = is.zeros;
}

-- why there is no mask

pub mask-fault : (f : Formula) (columns : List Column) (types : List TypeTree) (count size : ℕ) (e : MaskError) → bitmap_length count ≤ size → IsTableError f columns types count e → IsMaskError f columns types count size e
mask-fault f columns types count size OutOfMemory room h = (room, h)
mask-fault f columns types count size WrongCount room h = (room, h)
mask-fault f columns types count size (Unreadable column fault) room h = (room, h)
mask-fault f columns types count size (TypesDiffer column) room h = (room, h)
mask-fault f columns types count size (WrongLength column) room h = (room, h)
mask-fault f columns types count size BufferTooSmall room h = absurd h

pub mask-refused : (f : Formula) (columns : List Column) (types : List TypeTree) (count size : ℕ) (r : Result Unit MaskError) (e : MaskError) → IsErr r × IsErrAnd r (λ g. g ≡ e) → bitmap_length count ≤ size → IsTableError f columns types count e → IfErr r (IsMaskError f columns types count size)
mask-refused f columns types count size (Ok u) e h room k = tt
mask-refused f columns types count size (Err g) e h room k = subst (IsMaskError f columns types count size) (sym h.1) (mask-fault f columns types count size e room k)
