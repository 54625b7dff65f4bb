-- The law of words that are compared.
use Rattle.std.proofs.Common.{◌≡◌, ℕ, ℤ, Bool, true, false, not, List, Some, Contains, ◌^◌, Ordering, refl, sym, ap, ◌∙◌, subst, slice_get}
use Rattle.std.specs.Float.{Format}
use Rattle.std.specs.List.{AllPass}
use Rattle.std.specs.Ordering.{int_cmp}
use Rattle.float_storage.specs.Storage.{storage_of}
use Rattle.logical_scalars.specs.Stored.{logical_tree}
use Rattle.logical_types.specs.Floats.{storage_written}
use Rattle.logical_types.specs.Shapes.{shape_of}
use Rattle.logical_types.specs.Words.{Writes}
use Rattle.logical_types.specs.declared.logical.LogicalType.{LogicalType}
use Rattle.logical_types.specs.declared.logical.LogicalType.TheVariants.{Decimal}
use Rattle.record_rows.specs.Cells.{column_type, stored_content, type_by}
use Rattle.record_rows.specs.declared.schema.ColumnType.{ColumnType}
use Rattle.record_rows.specs.declared.schema.Kind.{Kind}
use Rattle.record_search.specs.Laws.{DecisionsAreRight}
use Rattle.record_search.specs.Searched.{matches_record, matches_row}
use Rattle.vortex_cells.specs.Cells.{Cell, is_null_cell, is_null_content}
use Rattle.vortex_dtype.specs.TypeTree.{TypeTree, erase}
use Rattle.vortex_filter.specs.Formula.{Formula, cell_at, truth}
use Rattle.vortex_filter.specs.Literals.{decimal_at, logical_cell, position_of}
use Rattle.vortex_filter.specs.Operators.{holds}
use Rattle.vortex_filter.specs.Positions.{ComparisonsStand, PositionTree, StandsIn, comparison_of, exactly, standing}
use Rattle.vortex_filter.specs.Truths.{is_true, truth_of}
use Rattle.vortex_filter.specs.declared.operator.CompareOperator.{CompareOperator}
use Rattle.vortex_filter.proofs.LiteralTypes.{TypesSay, WordsSay}
use Rattle.vortex_value.specs.Order.{order}
use Rattle.compared_words.specs.Compared.{DecimalsAreCompared, FloatsAreCompared, IsWordLeftOut}
use Rattle.compared_words.proofs.CellLaws.{word_cell}
use Rattle.compared_words.proofs.DecimalBound.{below_limit}
use Rattle.compared_words.proofs.Decimals.{place_is_in, place_stands, place_standing, position_place}
use Rattle.compared_words.proofs.FloatOrder.{order_read}
use Rattle.compared_words.proofs.PlaceOrder.{stands_to}
use Rattle.compared_words.proofs.Values.{BytesSort, content_order, literal_content, no_null, stands_at}

-- ---- tests

passes : (p : List ℕ → Bool) (xs : List (List ℕ)) (x : List ℕ) → AllPass p xs → Contains xs x → p x ≡ true
passes p xs x all c = subst (λ y. p y ≡ true) c.2 (all c.0 x c.1)

turned : (b : Bool) → not b ≡ true → b ≡ false
turned true h = absurd cc
turned false h = refl

not_held : (b : Bool) → is_true (truth_of b) ≡ false → b ≡ false
not_held true h = absurd cc
not_held false h = refl

same_column : (columns : List ColumnType) (k : ℕ) (c d : ColumnType) → slice_get columns k ≡ Some c → slice_get columns k ≡ Some d → c ≡ d
same_column columns k c d a b = let e = sym a ∙ b in cc

-- the type of the column, and where the literal stands in it
module _ {k : ℕ} {op : CompareOperator} {literal word : List ℕ} (l : LogicalType) (h : IsWordLeftOut k l op literal word) where
  column_is : column_type h.has.column ≡ logical_tree l h.has.column.nullability
  column_is = ap (λ (kind : Kind). type_by kind h.has.column.nullability) h.has.kind

  position_is : position_of (logical_tree l h.has.column.nullability) h.asked.tree ≡ Some h.asked.position
  position_is =
      let same : h.asked.column ≡ h.has.column = same_column h.schema.columns.items k h.asked.column h.has.column h.asked.declared h.has.declared in
      sym (ap (λ (u : TypeTree). position_of u h.asked.tree) (ap column_type same ∙ column_is)) ∙ h.asked.stands

-- ---- the law

module _ (decided : DecisionsAreRight) (stand : ComparisonsStand) (say : WordsSay) (types : TypesSay) (sort : BytesSort) where
  -- by where the literal stands
  by_position : (k : ℕ) (l : LogicalType) (op : CompareOperator) (literal word : List ℕ) (y : ℤ) → (h : IsWordLeftOut k l op literal word) → Writes l word y
      → (p : PositionTree) → p ≡ h.asked.position → StandsIn (logical_tree l h.has.column.nullability) p → (o : Ordering) → standing (stored_content l y) p ≡ Some o → holds op o ≡ false
  by_position k l op literal word y h v p at inside o ordered =
      let s = h.schema in
      let t = logical_tree l h.has.column.nullability in
      let cell = word_cell say s k l h.line word y h.has v in
      let row = cell.0 in
      let unmatched : matches_record s h.filter h.line ≡ false = turned _ (passes (λ line. not (matches_record s h.filter line)) h.records h.line (decided.none s h.filter h.statistics h.records h.decided h.right) h.among) in
      let untrue : is_true (truth h.filter row) ≡ false = sym (ap (matches_row h.filter) cell.1) ∙ unmatched in
      let filter : h.filter ≡ comparison_of k op p = h.asked.is ∙ ap (comparison_of k op) (sym at) in
      let typed : (cell_at row k).typed ≡ t = ap (λ (x : Cell). x.typed) cell.2 ∙ column_is l h in
      let some : is_null_cell (cell_at row k) ≡ false = ap is_null_cell cell.2 ∙ no_null l y in
      let stands : standing (cell_at row k).content p ≡ Some o = ap (λ (x : Cell). standing x.content p) cell.2 ∙ ordered in
      let says = stand t k op p row o inside (ap erase (sym typed)) some stands in
      not_held (holds op o) (sym (ap is_true (ap (λ (f : Formula). truth f row) filter ∙ says)) ∙ untrue)

  pub values : (k : ℕ) (l : LogicalType) (op : CompareOperator) (literal word : List ℕ) (y z : ℤ) → IsWordLeftOut k l op literal word → Writes l word y → Writes l literal z → holds op (int_cmp y z) ≡ false
  values k l op literal word y z h v w =
      let t = logical_tree l h.has.column.nullability in
      let p = exactly (logical_cell t (shape_of l) z) in
      let at = stands_at types say l h.has.column.nullability h.asked.tree literal z h.asked.position w h.asked.written (position_is l h) in
      let some : is_null_cell (logical_cell t (shape_of l) z) ≡ false = ap is_null_content (literal_content l z) ∙ no_null l z in
      let ordered : standing (stored_content l y) p ≡ Some (int_cmp y z) = ap (order (stored_content l y)) (literal_content l z) ∙ content_order sort l word literal y z v w in
      by_position k l op literal word y h v p at (refl, some) (int_cmp y z) ordered

  pub decimals : DecimalsAreCompared
  decimals k d op literal word y number h v e =
      let n = h.has.column.nullability in
      let t = logical_tree (Decimal d) n in
      let found = position_place types d n h.asked.tree literal h.asked.position h.asked.written (position_is (Decimal d) h) in
      let place = found.0 in
      let stood = place_stands d literal number place e found.1 in
      let l = below_limit (10 ^ d.precision) d.scale word y v in
      ap (holds op) (sym (stood.order y l))
      ∙ by_position k (Decimal d) op literal word y h v (decimal_at t (shape_of (Decimal d)) place) found.2 (place_is_in d t place) (stands_to y place) (place_standing sort d t y l place stood.named)

  pub floats : (f : Format) (l : LogicalType) → ((word : List ℕ) (z : ℤ) → storage_written f word ≡ Some z → Writes l word z) → FloatsAreCompared f l
  floats f l written k op literal word x number h v w =
      ap (holds op) (order_read f word literal x number v.float w.float)
      ∙ values k l op literal word (storage_of f x) (storage_of f number) h (written word (storage_of f x) v.kept) (written literal (storage_of f number) w.kept)
