-- The law of floats that are compared.
use Rattle.std.proofs.Common.{◌≡◌, ◌<◌, ◌∙◌, Bool, true, false, Some, ap, arith, refl, subst, sym}
use Rattle.std.specs.Ordering.{int_cmp}
use Rattle.arrow_columns.specs.Columns.{rows_in}
use Rattle.column_cells.specs.Types.{type_of_column}
use Rattle.filter_pruning.specs.Searching.{ZonesAreSearched}
use Rattle.float_storage.specs.Storage.{storage_of_bits}
use Rattle.float_storage.proofs.Order.{order_bits}
use Rattle.vortex_cells.specs.Cells.{Cell, cell_of, is_null_cell, is_null_content}
use Rattle.vortex_dtype.specs.TypeTree.{Same}
use Rattle.vortex_filter.specs.Formula.{Formula, cell_at, comparison, truth}
use Rattle.vortex_filter.specs.Operators.{holds}
use Rattle.vortex_filter.specs.Positions.{ComparisonsStand, exactly, standing}
use Rattle.vortex_filter.specs.Truths.{is_true, truth_of}
use Rattle.vortex_value.specs.Order.{order}
use Rattle.vortex_value.specs.Values.Content.{Content, whole}
use Rattle.vortex_value.specs.Values.Scalars.{scalar_content, scalar_type}
use Rattle.compared_floats.specs.Compared.{FloatsAreCompared}
use Rattle.compared_floats.proofs.FloatCells.{content_there, literal_content, rows_are, types_same}
use Rattle.compared_floats.proofs.ZoneRows.{cell_in, cell_of_row, cells_in, unmatched}

not_held : (b : Bool) → is_true (truth_of b) ≡ false → b ≡ false
not_held true h = absurd cc
not_held false h = refl

module _ (searched : ZonesAreSearched) (stand : ComparisonsStand) where
  pub compared : FloatsAreCompared
  compared f columns k row op literal bits number left held there =
      let column = there.column in
      let filter : Formula = comparison k op (cell_of literal) in
      let cells = cells_in columns row in
      let y = storage_of_bits f bits in
      let z = storage_of_bits f number in
      let long : row < rows_in columns = omega (arith, there.within, sym (rows_are f column there.kind) ∙ left.are.even k column there.there) in
      let untrue : is_true (truth filter cells) ≡ false = unmatched searched columns filter row left long in
      let cell : cell_at cells k ≡ cell_in row column = cell_of_row columns k row column there.there in
      let held_content : (cell_at cells k).content ≡ whole y = ap (λ (x : Cell). x.content) cell ∙ content_there f column row bits there.kind there.within there.value there.is in
      let typed : (cell_at cells k).typed ≡ type_of_column column = ap (λ (x : Cell). x.typed) cell in
      let same : Same (type_of_column column) (scalar_type literal) = types_same f column (scalar_type literal) there.kind held.typed in
      let asked : scalar_content literal ≡ whole z = literal_content f z literal held in
      let some : is_null_cell (cell_at cells k) ≡ false = ap is_null_content held_content in
      let literal_some : is_null_cell (cell_of literal) ≡ false = ap is_null_content asked in
      let ordered : standing (cell_at cells k).content (exactly (cell_of literal)) ≡ Some (int_cmp y z) =
      ap (λ (c : Content). order c (scalar_content literal)) held_content ∙ ap (order (whole y)) asked in
      let says = stand (type_of_column column) k op (exactly (cell_of literal)) cells (int_cmp y z) (same, literal_some) (subst (Same (type_of_column column)) (sym typed) refl) some ordered in
      ap (holds op) (order_bits f bits number) ∙ not_held (holds op (int_cmp y z)) (sym (ap is_true says) ∙ untrue)
