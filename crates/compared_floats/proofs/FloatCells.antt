-- The cells of floats in columns, and the scalars of floats.
use Rattle.std.proofs.Common.{◌≡◌, ◌<◌, ◌+◌, ◌∙◌, ℕ, ℤ, List, [], true, Option, Some, None, ap, get_or, length, map, refl, slice_get, subst, sym, codes}
use Rattle.std.proofs.Math.ListN.{get_or-map}
use Rattle.std.proofs.lemmas.List.{length-map}
use Rattle.std.proofs.lemmas.List.FromFn.{length-map-range_with_len}
use Rattle.std.proofs.lemmas.Option.{get_or_from_slice_get}
use Rattle.std.specs.Float.{Format, binary32, binary64}
use Rattle.std.specs.List.{range_with_len}
use Rattle.arrow_columns.specs.Bitmaps.{is_valid}
use Rattle.arrow_columns.specs.Cells.{cell_at}
use Rattle.arrow_columns.specs.Columns.{kind_in, logical_cells}
use Rattle.arrow_columns.specs.Integers.{item_at, number_of, width_of_item}
use Rattle.arrow_columns.specs.Formats.{items_of}
use Rattle.arrow_columns.specs.declared.columns.Column.{Column}
use Rattle.arrow_columns.specs.declared.formats.Format.{Format as ColumnFormat}
use Rattle.arrow_columns.specs.declared.formats.Format.TheVariants as formats
use Rattle.arrow_columns.specs.declared.kinds.Kind.{Kind}
use Rattle.arrow_columns.specs.declared.kinds.Kind.TheVariants.{Logical}
use Rattle.arrow_columns.proofs.CellLists.{cell_got}
use Rattle.column_cells.specs.Contents.{content_or_null, contents_at, contents_of_column, stored_content, value_contents}
use Rattle.column_cells.specs.Types.{type_at, type_of_column, type_of_format}
use Rattle.float_storage.specs.Storage.{storage_of_bits}
use Rattle.logical_scalars.specs.Stored.{Holds, IsOfLogicalType, storage_tree}
use Rattle.logical_types.specs.declared.extensions.StorageType.TheVariants as storages
use Rattle.logical_types.specs.declared.logical.LogicalType.TheVariants.{Float32, Float64}
use Rattle.vortex_dtype.specs.TypeTree.{Same, TypeTree, extension_type}
use Rattle.vortex_dtype.specs.declared.nullability.Nullability.{Nullability}
use Rattle.vortex_dtype.specs.declared.nullability.Nullability.TheVariants.{NonNullable, Nullable}
use Rattle.vortex_value.specs.Values.Content.{Content, content, null, whole}
use Rattle.vortex_value.specs.Values.Scalars.{scalar_content}
use Rattle.vortex_value.specs.declared.scalars.Scalar.{Scalar}
use Rattle.compared_floats.specs.Compared.{bits_in, kind_of, logical_of}

-- how columns have such floats
abbrev format_of : Format → ColumnFormat
format_of binary32 = formats.Float32
format_of binary64 = formats.Float64

kind_is : (f : Format) → kind_of f ≡ Logical (format_of f)
kind_is binary32 = refl
kind_is binary64 = refl

-- ---- the cell of a row

number_is : (f : Format) (column : Column) (row : ℕ) → number_of (items_of (format_of f)) (item_at (width_of_item (items_of (format_of f))) column.values.now (column.offset + row)) ≡ storage_of_bits f (bits_in f column row)
number_is binary32 column row = refl
number_is binary64 column row = refl

whole_is : (f : Format) (z : ℤ) → stored_content (format_of f) z ≡ whole z
whole_is binary32 z = refl
whole_is binary64 z = refl

contents_are : (f : Format) (column : Column) → kind_in column ≡ Some (kind_of f) → contents_of_column column ≡ value_contents (format_of f) column
contents_are f column e = ap (λ (o : Option Kind). contents_at o column) (e ∙ ap Some (kind_is f))

-- as many contents as rows
pub rows_are : (f : Format) (column : Column) → kind_in column ≡ Some (kind_of f) → length (contents_of_column column) ≡ column.length
rows_are f column e =
    let g = items_of (format_of f) in
    let cell : ℕ → Option ℤ = cell_at column.validity.now (λ i. number_of g (item_at (width_of_item g) column.values.now i)) in
    ap length (contents_are f column e)
    ∙ length-map (map cell (range_with_len column.offset column.length)) (content_or_null (stored_content (format_of f)))
    ∙ length-map-range_with_len cell column.offset column.length

valid_cell : {X : Type 0} (validity : List ℕ) (value : ℕ → X) (i : ℕ) → is_valid validity i ≡ true → cell_at validity value i ≡ Some (value i)
valid_cell validity value i e = rw e

pub content_there : (f : Format) (column : Column) (row bits : ℕ) → kind_in column ≡ Some (kind_of f) → row < column.length → is_valid column.validity.now (column.offset + row) ≡ true → bits_in f column row ≡ bits
    → get_or (contents_of_column column) row null ≡ whole (storage_of_bits f bits)
content_there f column row bits kind within valid is =
    let g = items_of (format_of f) in
    let value : ℕ → ℤ = λ i. number_of g (item_at (width_of_item g) column.values.now i) in
    let cells = logical_cells (format_of f) column in
    let at : slice_get cells row ≡ Some (Some (value (column.offset + row))) =
    cell_got (cell_at column.validity.now value) column.offset column.length row (Some (value (column.offset + row))) within (valid_cell column.validity.now value (column.offset + row) valid) in
    let got : get_or cells row None ≡ Some (value (column.offset + row)) = get_or_from_slice_get cells row (Some (value (column.offset + row))) None at in
    ap (λ (xs : List Content). get_or xs row null) (contents_are f column kind)
    ∙ get_or-map (content_or_null (stored_content (format_of f))) cells row None
    ∙ ap (content_or_null (stored_content (format_of f))) got
    ∙ ap (stored_content (format_of f)) (number_is f column row)
    ∙ whole_is f (storage_of_bits f (bits_in f column row))
    ∙ ap (λ (b : ℕ). whole (storage_of_bits f b)) is

-- ---- types

tree_of : Format → Nullability → TypeTree
tree_of binary32 n = extension_type (codes "doqallin.f32") [] (storage_tree storages.I32 n)
tree_of binary64 n = extension_type (codes "doqallin.f64") [] (storage_tree storages.I64 n)

column_tree : (f : Format) (column : Column) → kind_in column ≡ Some (kind_of f) → type_of_column column ≡ tree_of f Nullable
unfolding tree_of
column_tree f column e = ap type_at (e ∙ ap Some (kind_is f)) ∙ by f
  where
    by : (g : Format) → type_of_format (format_of g) ≡ tree_of g Nullable
    by binary32 = refl
    by binary64 = refl

scalar_tree : (f : Format) (t : TypeTree) → (h : IsOfLogicalType t (logical_of f)) → t ≡ tree_of f h.nullability
unfolding tree_of
scalar_tree binary32 t h = h.typed ∙ rw (h.is.named, h.is.described, h.is.stored)
scalar_tree binary64 t h = h.typed ∙ rw (h.is.named, h.is.described, h.is.stored)

all_same : (f : Format) (n : Nullability) → Same (tree_of f Nullable) (tree_of f n)
unfolding tree_of
all_same binary32 NonNullable = refl
all_same binary32 Nullable = refl
all_same binary64 NonNullable = refl
all_same binary64 Nullable = refl

-- a scalar of such floats has the column's type
pub types_same : (f : Format) (column : Column) (t : TypeTree) → kind_in column ≡ Some (kind_of f) → IsOfLogicalType t (logical_of f) → Same (type_of_column column) t
types_same f column t e h =
    subst (λ (u : TypeTree). Same u t) (sym (column_tree f column e))
    (subst (λ (u : TypeTree). Same (tree_of f Nullable) u) (sym (scalar_tree f t h)) (all_same f h.nullability))

pub literal_content : (f : Format) (z : ℤ) (x : Scalar) → Holds (logical_of f) z x → scalar_content x ≡ whole z
literal_content binary32 z x h = ap content h.value
literal_content binary64 z x h = ap content h.value
