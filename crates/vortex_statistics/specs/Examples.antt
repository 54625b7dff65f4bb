-- Worked cases of the definitions, each a theorem.
use Rattle.std.specs.Prelude.{◌≡◌, ℕ, pos, true, false, [], Option, Some, None, refl}
use Rattle.vortex_dtype.specs.TypeTree.{integer_type, union_type, no_types, utf8_type, variant_type, bool_type}
use Rattle.vortex_dtype.specs.declared.nullability.Nullability.TheVariants.{NonNullable, Nullable}
use Rattle.vortex_dtype.specs.declared.ptype.PType.TheVariants.{I32}
use Rattle.vortex_value.specs.Values.Content.{null, tagged, text, truth, typed, whole}
use Rattle.vortex_cells.specs.Cells.{Cell, cell_or_null, is_null_cell}
use Rattle.vortex_statistics.specs.Merging.{merged, nothing}
use Rattle.vortex_statistics.specs.Observing.{becomes_bound, observed}
use Rattle.vortex_statistics.specs.Statistics.{Known, KnownBound, may_be_null, may_be_value}

-- an i32, the null among them, a bound
abbrev number : ℕ → Cell
number n = record { typed = integer_type I32 Nullable; content = whole (pos n) }

abbrev no_number : Cell
no_number = record { typed = integer_type I32 Nullable; content = null }

abbrev exactly : Cell → Option KnownBound
exactly x = Some (record { value = x; is_exact = true })

abbrev roughly : Cell → Option KnownBound
roughly x = Some (record { value = x; is_exact = false })

-- the first value is both bounds
first_value : observed nothing (number 4) ≡ record { row_count = 1; null_count = Some 0; lower = exactly (number 4); upper = exactly (number 4) }
first_value = refl

-- a null is counted, and changes no bound
abbrev from_two_to_five : Known
from_two_to_five = record { row_count = 3; null_count = Some 1; lower = exactly (number 2); upper = roughly (number 5) }

null_counted : observed from_two_to_five no_number ≡ record { row_count = 4; null_count = Some 2; lower = exactly (number 2); upper = roughly (number 5) }
null_counted = refl

-- a value below the lower bound takes its place, one between changes no bound
value_below : observed from_two_to_five (number 1) ≡ record { row_count = 4; null_count = Some 1; lower = exactly (number 1); upper = roughly (number 5) }
value_below = refl

value_between : becomes_bound from_two_to_five (number 3) ≡ false
value_between = refl

-- a value that is equal to a bound makes it exact
value_at_upper : observed from_two_to_five (number 5) ≡ record { row_count = 4; null_count = Some 1; lower = exactly (number 2); upper = exactly (number 5) }
value_at_upper = refl

-- the outer bounds of two pieces
abbrev from_one_to_four : Known
from_one_to_four = record { row_count = 2; null_count = None; lower = roughly (number 1); upper = exactly (number 4) }

outer_bounds : merged from_two_to_five from_one_to_four ≡ record { row_count = 5; null_count = None; lower = roughly (number 1); upper = roughly (number 5) }
outer_bounds = refl

-- a piece of nulls alone leaves the bounds of the other as they are
abbrev two_nulls : Known
two_nulls = record { row_count = 2; null_count = Some 2; lower = None; upper = None }

nulls_before : merged two_nulls from_two_to_five ≡ record { row_count = 5; null_count = Some 3; lower = exactly (number 2); upper = roughly (number 5) }
nulls_before = refl

nothing_more : merged from_two_to_five nothing ≡ from_two_to_five
nothing_more = refl

-- a piece with values and without bounds leaves none
abbrev unbounded : Known
unbounded = record { row_count = 2; null_count = Some 1; lower = None; upper = None }

no_bound_of_both : merged from_two_to_five unbounded ≡ record { row_count = 5; null_count = Some 2; lower = None; upper = None }
no_bound_of_both = refl

-- a variant has no order with itself: it is counted, and is no bound
abbrev variant : Cell
variant = record { typed = variant_type NonNullable; content = typed (bool_type NonNullable) (truth true) }

variant_observed : observed nothing variant ≡ record { row_count = 1; null_count = Some 0; lower = None; upper = None }
variant_observed = refl

-- two unions of different ids do not compare: there is no bound any more
abbrev union : ℕ → Cell
union id = record { typed = union_type [] no_types [] NonNullable; content = tagged id (truth true) }

unions_apart : observed (observed nothing (union 3)) (union 5) ≡ record { row_count = 2; null_count = Some 0; lower = None; upper = None }
unions_apart = refl

-- an empty string is a value; a cell that is not there is a null
empty_string : is_null_cell (record { typed = utf8_type Nullable; content = text [] }) ≡ false
empty_string = refl

missing_cell : is_null_cell (cell_or_null None) ≡ true
missing_cell = refl

-- what unknown counts leave open
unknown_nulls : may_be_null from_one_to_four ≡ true
unknown_nulls = refl

only_nulls : may_be_value two_nulls ≡ false
only_nulls = refl
