-- The cells that the keys give are those of the columns, by the law.
use Rattle.std.proofs.Common.{◌≡◌, ◌∙◌, ℕ, ◌+◌, ◌<◌, List, [], ◌∷◌, ap, length, map, get_or, refl, subst, arith, Option, None, Result, Ok, Err, OnOk, Some}
use Rattle.std.proofs.lemmas.List.{length-map}
use Rattle.arrow_columns.specs.Columns.{kind_in, rows_in}
use Rattle.arrow_columns.specs.declared.columns.Column.{Column}
use Rattle.arrow_columns.specs.declared.kinds.Kind.{Kind}
use Rattle.column_cells.specs.Contents.{contents_of_column}
use Rattle.column_cells.specs.Types.{type_of_column}
use Rattle.vortex_dtype.specs.TypeOf.{as_type_trees}
use Rattle.vortex_dtype.specs.TypeTree.{TypeTree}
use Rattle.vortex_value.specs.Values.Content.{Content}
use Rattle.column_items.specs.Codes.{kind_of_code}
use Rattle.column_items.specs.declared.codes.KindCode.{KindCode}
use Rattle.column_keys.specs.Keys.{AreRowKeys}
use Rattle.column_keys.specs.Cells.{AreCellsOf}
use Rattle.column_keys.specs.Tables.{contents_in, options_in}
use Rattle.column_keys.specs.Answers.{AreColumnsOfKeys}
use Rattle.column_keys.specs.Laws.{IsTable, TablesComeBack}
use Rattle.column_keys.specs.Read.{IsWritten}
use Rattle.column_keys.specs.Types.{types_of_kinds}
use Rattle.column_keys.specs.declared.buffers.ColumnBuffers.{ColumnBuffers}
use Rattle.column_keys.specs.declared.errors.KeysError.{KeysError}
use Rattle.law_callers.proofs.columns_of_keys.read_table_back.Goals as goal

-- the types of kinds are those of the columns
same-types : (table : List Column) → types_of_kinds (map kind_in table) ≡ map type_of_column table
same-types [] = refl
same-types (column ∷ table) = ap (λ (types : List TypeTree). type_of_column column ∷ types) (same-types table)

came-back : TablesComeBack → (found : List (Option Kind)) (options bytes offsets : List ℕ) (old new : List ColumnBuffers) → AreColumnsOfKeys found options bytes offsets old new → (table : List Column) (which : ℕ) (d : ColumnBuffers) (e : Column)
    → found ≡ map kind_in table → IsTable table options → AreRowKeys (map options_in options) (contents_in table) (rows_in table) offsets bytes → length offsets ≡ rows_in table + 1 → which < length table
    → (kind : Kind) × (get_or found which None ≡ Some kind) × IsWritten kind (contents_of_column (get_or table which e)) (get_or old which d) (get_or new which d)
came-back law found options bytes offsets old new it table which d e kinds is keys ends there =
    let within : which < length found = omega (arith, there, ap length kinds, length-map table kind_in) in
    let types : types_of_kinds found ≡ map type_of_column table = ap types_of_kinds kinds ∙ same-types table in
    let one = it.each which d within in
    let cells : AreCellsOf (map options_in options) (as_type_trees (map type_of_column table)) which bytes offsets one.cells = subst (λ (ts : List TypeTree). AreCellsOf (map options_in options) (as_type_trees ts) which bytes offsets one.cells) types one.has.cells_are in
    let same : one.cells ≡ contents_of_column (get_or table which e) = (law table options offsets bytes which e is keys ends there).1 one.cells cells in
    (one.kind, one.has.kind_is, subst (λ (cells : List Content). IsWritten one.kind cells (get_or old which d) (get_or new which d)) same one.written)

read-back : TablesComeBack → (codes : List KindCode) (options bytes offsets : List ℕ) (old new : List ColumnBuffers) (r : Result Unit KeysError) → OnOk r (AreColumnsOfKeys (map kind_of_code codes) options bytes offsets old new)
    → OnOk r ((table : List Column) (which : ℕ) (d : ColumnBuffers) (e : Column) → map kind_of_code codes ≡ map kind_in table → IsTable table options → AreRowKeys (map options_in options) (contents_in table) (rows_in table) offsets bytes
    → length offsets ≡ rows_in table + 1 → which < length table
    → (kind : Kind) × (get_or (map kind_of_code codes) which None ≡ Some kind) × IsWritten kind (contents_of_column (get_or table which e)) (get_or old which d) (get_or new which d))
read-back law codes options bytes offsets old new (Ok u) it = λ table which d e kinds is keys ends there. came-back law (map kind_of_code codes) options bytes offsets old new it table which d e kinds is keys ends there
read-back law codes options bytes offsets old new (Err e) it = tt

pub returns : goal.returns
returns c =
    read-back c.tables_come_back.ensures c.args.kinds.now c.args.options.now c.args.bytes.now c.args.offsets.now c.args.columns.now c.columns_of_typed_keys.new.columns c.columns_of_typed_keys.result c.columns_of_typed_keys.ensures.columns
