-- The cell of a word in the row of its record.
use Rattle.std.proofs.Common.{◌≡◌, ℕ, zero, suc, ℤ, Bool, true, false, List, [], ◌∷◌, Option, Some, None, refl, sym, ap, ◌∙◌, is_some, slice_get}
use Rattle.std.specs.Option.{option_map}
use Rattle.csv_records.specs.Rows.{Field}
use Rattle.logical_types.specs.Words.{Writes}
use Rattle.logical_types.specs.declared.logical.LogicalType.{LogicalType}
use Rattle.record_rows.specs.Cells.{column_type, stored_content}
use Rattle.record_rows.specs.Readings.{Reading, is_null_field}
use Rattle.record_rows.specs.Rows.{fitted}
use Rattle.record_rows.specs.declared.schema.ColumnType.{ColumnType}
use Rattle.record_rows.specs.declared.schema.Kind.{Kind}
use Rattle.record_rows.specs.declared.schema.Kind.TheVariants as kinds
use Rattle.record_rows.specs.declared.schema.Schema.{Schema}
use Rattle.record_search.specs.Contents.{cell_before, cells_of, field_content, only_row, or_null, word_content}
use Rattle.record_search.specs.Searched.{row_under}
use Rattle.vortex_cells.specs.Cells.{Cell}
use Rattle.vortex_filter.specs.Formula.{cell_at}
use Rattle.vortex_filter.proofs.LiteralTypes.{WordsSay}
use Rattle.vortex_value.specs.Values.Content.{Content}
use Rattle.compared_words.specs.Compared.{HasWord}

-- ---- the field that stands in a column

fits_there : (b : Bool) (columns : List ColumnType) (fields : List Field) (k : ℕ) (column : ColumnType) (f : Field)
    → slice_get columns k ≡ Some column → slice_get fields k ≡ Some f → slice_get (fitted b columns fields) k ≡ Some f
fits_there false columns fields k column f c e = e
fits_there true [] fields k column f c e = absurd cc
fits_there true (d ∷ ds) [] k column f c e = absurd cc
fits_there true (d ∷ ds) (g ∷ gs) zero column f c e = e
fits_there true (d ∷ ds) (g ∷ gs) (suc k) column f c e = fits_there true ds gs k column f c e

-- ---- the cell of a field

cell_is : (column : ColumnType) (c : Content) → Cell
cell_is column c = record { typed = column_type column; content = c }

first_cell : (column : ColumnType) (o : Option Content) (rest : Option (List Cell)) (row : List Cell) (c : Content)
    → cell_before column o rest ≡ Some row → o ≡ Some c → cell_at row 0 ≡ record { typed = column_type column; content = c }
first_cell column None rest row c e h = absurd cc
first_cell column (Some d) None row c e h = absurd cc
first_cell column (Some d) (Some cells) row c e h =
    let same : record { typed = column_type column; content = d } ∷ cells ≡ row = cc in
    let content : d ≡ c = cc in
    sym (ap (λ (r : List Cell). cell_at r 0) same) ∙ ap (λ (x : Content). record { typed = column_type column; content = x }) content

later_cell : (column : ColumnType) (o : Option Content) (rest : Option (List Cell)) (row : List Cell)
    → cell_before column o rest ≡ Some row → (cells : List Cell) × (rest ≡ Some cells) × ((k : ℕ) → cell_at row (suc k) ≡ cell_at cells k)
later_cell column None rest row e = absurd cc
later_cell column (Some d) None row e = absurd cc
later_cell column (Some d) (Some cells) row e =
    let same : record { typed = column_type column; content = d } ∷ cells ≡ row = cc in
    (cells, refl, λ k. sym (ap (λ (r : List Cell). cell_at r (suc k)) same))

cell_there : (reading : Reading) (columns : List ColumnType) (fields : List Field) (row : List Cell) (k : ℕ) (column : ColumnType) (f : Field) (c : Content)
    → cells_of reading columns fields ≡ Some row → slice_get columns k ≡ Some column → slice_get fields k ≡ Some f → field_content reading column f ≡ Some c
    → cell_at row k ≡ record { typed = column_type column; content = c }
cell_there reading [] fields row k column f c e d g h = absurd cc
cell_there reading (x ∷ xs) [] row k column f c e d g h = absurd cc
cell_there reading (x ∷ xs) (y ∷ ys) row zero column f c e d g h =
    let a : x ≡ column = cc in
    let b : y ≡ f = cc in
    let first = first_cell x (field_content reading x y) (cells_of reading xs ys) row c e (ap (λ (z : ColumnType). field_content reading z y) a ∙ ap (field_content reading column) b ∙ h) in
    first ∙ ap (λ (z : ColumnType). record { typed = column_type z; content = c }) a
cell_there reading (x ∷ xs) (y ∷ ys) row (suc k) column f c e d g h =
    let later = later_cell x (field_content reading x y) (cells_of reading xs ys) row e in
    later.2 k ∙ cell_there reading xs ys later.0 k column f c later.1 d g h

-- ---- the content of a word

module _ (say : WordsSay) (reading : Reading) (column : ColumnType) (f : Field) (l : LogicalType) (word : List ℕ) (y : ℤ) where
  word_is : column.kind ≡ kinds.Logical l → f.text ≡ word → Writes l word y → word_content column.kind f.text ≡ Some (stored_content l y)
  word_is kind text w =
      ap (λ (k : Kind). word_content k f.text) kind ∙ ap (word_content (kinds.Logical l)) text ∙ ap (option_map (stored_content l)) ((say l word y).1 w)

  content_is : column.kind ≡ kinds.Logical l → f.text ≡ word → is_null_field reading column.nullability f ≡ false → Writes l word y → field_content reading column f ≡ Some (stored_content l y)
  content_is kind text value w = rw value (ap (or_null reading.is_lenient column.nullability) (word_is kind text w))

-- ---- the row of a record

some_row : (o : Option (List Cell)) → is_some o ≡ true → (row : List Cell) × (o ≡ Some row)
some_row None e = absurd cc
some_row (Some row) e = (row, refl)

-- the row of the record, with the cell of the word
pub word_cell : WordsSay → (s : Schema) (k : ℕ) (l : LogicalType) (line word : List ℕ) (y : ℤ) → (h : HasWord s k l line word) → Writes l word y
    → (row : List Cell) × (row_under s line ≡ Some row) × (cell_at row k ≡ record { typed = column_type h.column; content = stored_content l y })
word_cell say s k l line word y h w =
    let row = some_row (row_under s line) h.row in
    let cells : cells_of s.reading s.columns.items (fitted s.reading.is_lenient s.columns.items h.fields) ≡ Some row.0 =
    sym (ap (only_row s.reading s.columns.items) h.read) ∙ row.1 in
    let there = fits_there s.reading.is_lenient s.columns.items h.fields k h.column h.field h.declared h.there in (
      row.0,
      row.1,
      cell_there s.reading s.columns.items (fitted s.reading.is_lenient s.columns.items h.fields) row.0 k h.column h.field (stored_content l y) cells h.declared there
          (content_is say s.reading h.column h.field l word y h.kind h.text h.value w),
    )
