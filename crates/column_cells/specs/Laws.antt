-- The law of the cells of columns.
use Rattle.std.specs.Prelude.{◌≡◌, ℕ, ◌<◌, IsUtf8, length, slice_index_or}
use Rattle.arrow_columns.specs.Checked.{AreRowsOf}
use Rattle.arrow_columns.specs.Spans.{AreBytes}
use Rattle.arrow_columns.specs.declared.columns.Column.{Column}
use Rattle.arrow_columns.specs.declared.tested_rows.Rows.{Rows}
use Rattle.vortex_dtype.specs.TypeTree.{TypeTree}
use Rattle.vortex_value.specs.Validity.{Valid}
use Rattle.vortex_value.specs.Values.Content.{Content, content, string, text}
use Rattle.vortex_value.specs.Values.RawTree.{RawTree}
use Rattle.column_cells.specs.Contents.{contents_of_column}
use Rattle.column_cells.specs.Types.{type_of_column}

-- a string is UTF-8, and it and bytes are of bytes
abbrev pub HasBytes : Content → Type 0
HasBytes (text bytes) = AreBytes bytes × IsUtf8 bytes
HasBytes (string bytes) = AreBytes bytes
HasBytes _ = Unit {0}

-- the content is that of a valid value of the type
pub record IsOfType (t : TypeTree) (c : Content) : Type 0 where
  pub value : RawTree
  pub valid : Valid t value
  pub is : content value ≡ c
  pub bytes : HasBytes c

-- The contents of a column that can be read are those of valid values of its type.
abbrev pub ContentsAreOfType : Type 0
ContentsAreOfType = (column : Column) (rows : Rows) (row : ℕ) (d : Content) → AreRowsOf column rows → AreBytes column.values.now → row < length (contents_of_column column) → IsOfType (type_of_column column) (slice_index_or (contents_of_column column) row d)
