-- What is written of columns, merged and read stays right.
use Rattle.std.specs.Prelude.{ℕ, List, ◌++◌}
use Rattle.arrow_columns.specs.declared.columns.Column.{Column}
use Rattle.arrow_columns.specs.declared.kinds.Kind.{Kind}
use Rattle.column_cells.specs.Types.{type_of_column, type_of_kind}
use Rattle.vortex_dtype.specs.TypeTree.{TypeTree}
use Rattle.vortex_cells.specs.Cells.{Cell}
use Rattle.vortex_statistics.specs.Statistics.{AreRight, Known}
use Rattle.column_statistics.specs.Cells.{cells_of_column}
use Rattle.column_statistics.specs.Encodings.{IsColumnEncoding, IsEncodingAs, IsMergedEncoding}

-- the bytes are the encoding of statistics of the type, and what these say is so of the cells
pub record AreRightBytes (t : TypeTree) (bytes : List ℕ) (cells : List Cell) : Type 0 where
  pub statistics : Known
  pub is_encoding : IsEncodingAs t bytes statistics
  pub right : AreRight statistics cells

-- What is written of a column is right for its cells. What is merged of two pieces is right for the cells of both, one after
-- the other, if each is right for its own. And whatever is read of right bytes, as of their type, is right.
pub record EncodingsStayRight : Type 0 where
  pub written : (column : Column) (n : ℕ) (bytes : List ℕ) → IsColumnEncoding column n bytes → AreRightBytes (type_of_column column) bytes (cells_of_column column)
  pub merged : (kind : Kind) (one other bytes : List ℕ) (cells others : List Cell)
      → AreRightBytes (type_of_kind kind) one cells → AreRightBytes (type_of_kind kind) other others → IsMergedEncoding kind one other bytes → AreRightBytes (type_of_kind kind) bytes (cells ++ others)
  pub read : (t : TypeTree) (bytes : List ℕ) (cells : List Cell) (s : Known) → AreRightBytes t bytes cells → IsEncodingAs t bytes s → AreRight s cells
