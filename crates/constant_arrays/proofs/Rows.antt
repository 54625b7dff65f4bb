-- The rows of constant arrays that calls make.
use Rattle.std.proofs.Common.{◌≡◌, ℕ, ◌-◌, replicate, slice_range, sym, ap, ◌∙◌}
use Rattle.vortex_dtype.specs.TypeTree.{TypeTree}
use Rattle.vortex_value.specs.Values.Scalars.{IsMadeOf, IsTheOne, scalar_content, scalar_raw, scalar_type}
use Rattle.vortex_value.specs.declared.scalars.Scalar.{Scalar}
use Rattle.vortex_cells.specs.Cells.{Cell, cell_of}
use Rattle.vortex_filter.proofs.Cells.{made_cell}
use Rattle.constant_arrays.specs.Items.{IsRange, cast_cell, casts}
use Rattle.constant_arrays.proofs.Repeated.{map-replicate, slice_range-replicate}

-- a cast is the cast cell
pub cast_is : (t : TypeTree) (x y : Scalar) → IsTheOne t (scalar_content x) y → cell_of y ≡ cast_cell t (cell_of x)
cast_is t x y one =
    let with_type : TypeTree → Cell = λ u. record { typed = u; content = scalar_content y } in
    ap with_type one.typed ∙ ap (λ c. cast_cell t (record { typed = t; content = c })) one.same

pub sliced_rows : (n start end : ℕ) (x y : Scalar) → IsRange start end n → IsMadeOf (scalar_type x) (scalar_raw x) y
    → replicate (end - start) (cell_of y) ≡ slice_range (replicate n (cell_of x)) start end
sliced_rows n start end x y range made =
    ap (replicate (end - start)) (made_cell x y made) ∙ sym (slice_range-replicate n start end (cell_of x) range.ordered range.within)

pub cast_rows : (n : ℕ) (t : TypeTree) (x y : Scalar) → IsTheOne t (scalar_content x) y → replicate n (cell_of y) ≡ casts t (replicate n (cell_of x))
cast_rows n t x y one = ap (replicate n) (cast_is t x y one) ∙ sym (map-replicate (cast_cell t) n (cell_of x))
