-- A constant array is equal to the column written out.
use Rattle.std.proofs.Common.{◌≡◌, ℕ, ◌-◌, ◌<◌, List, [], ◌∷◌, All, fold, get_or, length, map, take, drop, slice_range, sym, ap, subst, ◌∙◌, arith}
use Rattle.std.proofs.lemmas.List.{drop-map, get_or-map, get_or-replicate, length-map, length-replicate, take-map}
use Rattle.std.proofs.lemmas.Simd.{map-map}
use Rattle.vortex_dtype.specs.TypeTree.{TypeTree}
use Rattle.vortex_value.specs.declared.scalars.Scalar.{Scalar}
use Rattle.vortex_cells.specs.Cells.{Cell, cell_of}
use Rattle.vortex_filter.specs.Formula.{compare_truth, truth}
use Rattle.vortex_row.specs.Columns.{key_with}
use Rattle.vortex_statistics.specs.Merging.{nothing}
use Rattle.vortex_statistics.specs.Observing.{observed}
use Rattle.vortex_statistics.specs.Statistics.{AreComplete}
use Rattle.constant_arrays.specs.declared.array.ConstantArray.{ConstantArray}
use Rattle.constant_arrays.specs.Items.{cast_cell, items, len_of, scalar_of}
use Rattle.constant_arrays.specs.Laws.{ConstantsEqualColumns, EqualsColumn, IsWrittenOut}

module _ (a : ConstantArray) (xs : List Scalar) (written : map cell_of xs ≡ items a) where
  rows : length xs ≡ len_of a
  rows = sym (length-map xs cell_of) ∙ ap length written ∙ length-replicate (len_of a) (cell_of (scalar_of a))

  -- each row is the array's cell
  each : All (λ x. cell_of x ≡ cell_of (scalar_of a)) xs
  each = λ k d short.
      let within : k < len_of a = omega (arith, rows, short) in
      sym (get_or-map cell_of xs k d (cell_of d) short) ∙ ap (λ l. get_or l k (cell_of d)) written ∙ get_or-replicate (len_of a) k (cell_of (scalar_of a)) (cell_of d) within

  sliced : (b : ConstantArray) (start end : ℕ) → items b ≡ slice_range (items a) start end → IsWrittenOut b (slice_range xs start end)
  sliced b start end is =
      sym (take-map cell_of (end - start) (drop start xs)) ∙ ap (take (end - start)) (sym (drop-map cell_of start xs) ∙ ap (drop start) written) ∙ sym is

  cast : (t : TypeTree) (b : ConstantArray) (ys : List Scalar) → items b ≡ map (cast_cell t) (items a) → map cell_of ys ≡ map (λ x. cast_cell t (cell_of x)) xs
      → IsWrittenOut b ys
  cast t b ys is made = made ∙ sym (map-map (cast_cell t) cell_of xs) ∙ ap (map (cast_cell t)) written ∙ sym is

  pub equal_column : EqualsColumn a xs
  equal_column = record {
    rows = rows;
    scalars = each;
    slices = sliced;
    casts = cast;
    comparisons = λ op y k d short. ap (λ x. compare_truth op x y) (each k d short);
    filters = λ f k d short. ap (λ x. truth f (x ∷ [])) (each k d short);
    statistics = ap (fold observed nothing) written;
    complete = λ s complete. subst (AreComplete s) (sym written) complete;
    keys = λ o k d short. ap (λ (x : Cell). key_with o x.content) (each k d short);
  }

pub constants_equal_columns : ConstantsEqualColumns
constants_equal_columns = equal_column
