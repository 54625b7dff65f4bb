-- Statistics of contents whose bounds are extremes say all that can be said.
use Rattle.std.proofs.Common.{◌≡◌, ◌∙◌, ℕ, true, false, if◌then◌else◌, List, [], ◌∷◌, map, length, Option, Some, None, ap, refl, subst, sym}
use Rattle.std.proofs.lemmas.Bool.{false≢true}
use Rattle.std.proofs.lemmas.List.{length-map}
use Rattle.std.proofs.lemmas.List.Elements.{All-contains}
use Rattle.std.specs.List.{All, Contains, count_by}
use Rattle.std.specs.declared.cmp.Ordering.{Ordering}
use Rattle.vortex_dtype.specs.TypeTree.{TypeTree}
use Rattle.vortex_value.specs.Lemmas.EqualityLaws.{same_type-Decides}
use Rattle.vortex_value.specs.Order.{order}
use Rattle.vortex_value.specs.Values.Content.{Content, null}
use Rattle.vortex_value.specs.Values.Scalars.{IsValid, scalar_content, scalar_type}
use Rattle.vortex_value.specs.declared.scalars.Scalar.{Scalar}
use Rattle.vortex_cells.specs.Cells.{Cell, HasValue, IsUpTo, cell_of, cell_order, is_null_cell, is_null_content, order_from_above}
use Rattle.vortex_statistics.specs.Statistics.{IsBound, IsLowerBound, IsUpperBound}
use Rattle.vortex_statistics.specs.declared.column_statistics.Bound.{Bound}
use Rattle.arrow_columns.specs.declared.columns.Column.{Column}
use Rattle.arrow_columns.specs.declared.tested_rows.Rows.{Rows}
use Rattle.column_cells.specs.Contents.{contents_of_column, contents_of_rows}
use Rattle.column_cells.specs.Types.{type_of_column, type_of_rows}
use Rattle.vortex_statistics.specs.declared.column_statistics.ColumnStatistics.{ColumnStatistics}
use Rattle.column_statistics.specs.Cells.{typed_as}
use Rattle.column_statistics.specs.Extremes.{AreExtremesOf, AreWholeOf, IsExtreme, IsExtremeOf, SaysUpTo, order_down}
use Rattle.column_statistics.specs.declared.extremes.Extremes.{Extremes}
use Rattle.column_statistics.proofs.ContentLaws.{contains_back, contains_of, counted_alike}

nulls_typed : (t : TypeTree) (cs : List Content) → count_by is_null_content cs ≡ count_by is_null_cell (map (typed_as t) cs)
nulls_typed t [] = refl
nulls_typed t (c ∷ cs) = counted_alike is_null_content is_null_cell c (typed_as t c) cs (map (typed_as t) cs) refl (nulls_typed t cs)

module _ (t : TypeTree) (contents : List Content) where
  abbrev cells : List Cell
  cells = map (typed_as t) contents

  -- a cell with a value is a content with one
  a_value : (y : Cell) → HasValue cells y → (c : Content) × Contains contents c × (typed_as t c ≡ y) × (is_null_content c ≡ false)
  a_value y h =
      let r = contains_back (typed_as t) contents y h.cell in
      (r.0, r.1, r.2, ap is_null_cell r.2 ∙ h.value)

  has_value : (x : Content) → Contains contents x → is_null_content x ≡ false → HasValue cells (typed_as t x)
  has_value x i v = record { cell = contains_of (typed_as t) contents x i; value = v }

  -- an extreme is a bound that a value reaches
  bound_of : (cmp : Cell → Cell → Option Ordering) (plain : Content → Content → Option Ordering) → ((x y : Content) → cmp (typed_as t x) (typed_as t y) ≡ plain x y)
      → (x : Content) → IsExtreme plain contents x → IsBound cmp (record { value = typed_as t x; is_exact = true }) cells
  bound_of cmp plain same x e = record {
    bounds = λ y h.
        let v = a_value y h in
        subst (IsUpTo cmp (typed_as t x)) v.2 (subst SaysUpTo (sym (same x v.0)) (e.first v.0 v.1 v.3));
    exact = λ _. (typed_as t x, has_value x e.among e.value, same x x ∙ e.itself);
  }

  ordered : (x y : Content) → cell_order (typed_as t x) (typed_as t y) ≡ order x y
  ordered x y = ap (λ b. if b then order x y else None) ((same_type-Decides t t).1 refl)

  -- the same of scalars
  cell_is : (x : Scalar) (cmp : Content → Content → Option Ordering) → IsExtremeOf cmp t contents x → typed_as t (scalar_content x) ≡ cell_of x
  cell_is x cmp e = ap (λ u. typed_as u (scalar_content x)) (sym e.typed)

  lower_of : (x : Scalar) → IsExtremeOf order t contents x → IsLowerBound (record { value = cell_of x; is_exact = true }) cells
  lower_of x e =
      let P : Cell → Type 0 = λ z. IsLowerBound (record { value = z; is_exact = true }) cells in
      subst P (cell_is x order e) (bound_of cell_order order ordered (scalar_content x) e.extreme)

  upper_of : (x : Scalar) → IsExtremeOf order_down t contents x → IsUpperBound (record { value = cell_of x; is_exact = true }) cells
  upper_of x e =
      let P : Cell → Type 0 = λ z. IsUpperBound (record { value = z; is_exact = true }) cells in
      subst P (cell_is x order_down e) (bound_of order_from_above order_down (λ a b. ordered b a) (scalar_content x) e.extreme)

  pub whole_some : (rows nulls : ℕ) (e : Extremes) → rows ≡ length contents → nulls ≡ count_by is_null_content contents → AreExtremesOf t contents e
      → AreWholeOf t contents (record { row_count = rows; null_count = Some nulls; lower = Some (record { value = e.least; is_exact = true }); upper = Some (record { value = e.greatest; is_exact = true }) })
  whole_some rows nulls e r n h = record {
    complete = record {
      right = record {
        rows = r ∙ sym (length-map contents (typed_as t));
        nulls = n ∙ nulls_typed t contents;
        lower = lower_of e.least h.least;
        upper = upper_of e.greatest h.greatest;
      };
      counted = refl;
      exact = record { lower = refl; upper = refl };
      bounded = λ compare y v. (refl, refl);
    };
    typed = record {
      lower = record { typed = h.least.typed; valid = h.least.valid };
      upper = record { typed = h.greatest.typed; valid = h.greatest.valid };
    };
    lower = h.least.extreme.among;
    upper = h.greatest.extreme.among;
  }

  -- the same with bounds that are known to be these
  pub whole_given : (rows nulls : ℕ) (e : Extremes) (lower upper : Bound) → lower ≡ record { value = e.least; is_exact = true } → upper ≡ record { value = e.greatest; is_exact = true }
      → rows ≡ length contents → nulls ≡ count_by is_null_content contents → AreExtremesOf t contents e
      → AreWholeOf t contents (record { row_count = rows; null_count = Some nulls; lower = Some lower; upper = Some upper })
  whole_given rows nulls e lower upper l u r n h =
      let P : Bound → Type 0 = λ b. AreWholeOf t contents (record { row_count = rows; null_count = Some nulls; lower = Some b; upper = Some (record { value = e.greatest; is_exact = true }) }) in
      let Q : Bound → Type 0 = λ b. AreWholeOf t contents (record { row_count = rows; null_count = Some nulls; lower = Some lower; upper = Some b }) in
      subst Q (sym u) (subst P (sym l) (whole_some rows nulls e r n h))

  no_value : All (λ c. c ≡ null) contents → (y : Cell) → HasValue cells y → ⊥
  no_value h y v =
      let r = a_value y v in
      false≢true (sym r.3 ∙ ap is_null_content (All-contains (λ c. c ≡ null) contents r.0 h r.1))

  pub whole_none : (rows nulls : ℕ) → rows ≡ length contents → nulls ≡ count_by is_null_content contents → All (λ c. c ≡ null) contents
      → AreWholeOf t contents (record { row_count = rows; null_count = Some nulls; lower = None; upper = None })
  whole_none rows nulls r n h = record {
    complete = record {
      right = record {
        rows = r ∙ sym (length-map contents (typed_as t));
        nulls = n ∙ nulls_typed t contents;
        lower = tt;
        upper = tt;
      };
      counted = refl;
      exact = record { lower = tt; upper = tt };
      bounded = λ compare y v. absurd (no_value h y v);
    };
    typed = record { lower = tt; upper = tt };
    lower = tt;
    upper = tt;
  }

-- the statistics of rows are those of the column
pub whole_of_column : (column : Column) (rows : Rows) (s : ColumnStatistics) → type_of_rows rows ≡ type_of_column column → contents_of_rows rows ≡ contents_of_column column
    → AreWholeOf (type_of_rows rows) (contents_of_rows rows) s → AreWholeOf (type_of_column column) (contents_of_column column) s
whole_of_column column rows s e f h =
    subst (λ t. AreWholeOf t (contents_of_column column) s) e (subst (λ cs. AreWholeOf (type_of_rows rows) cs s) f h)

-- ---- extremes that are scalars

pub extreme_scalar : (cmp : Content → Content → Option Ordering) (t : TypeTree) (contents : List Content) (c : Content) (x : Scalar) → IsExtreme cmp contents c
    → scalar_type x ≡ t → scalar_content x ≡ c → IsValid x → IsExtremeOf cmp t contents x
extreme_scalar cmp t contents c x h e f v = record { typed = e; valid = v; extreme = subst (IsExtreme cmp contents) (sym f) h }
