-- The lists that borrowed names and ids stand for.
use Rattle.std.specs.Prelude.{ℕ, List}
use Rattle.std.specs.Slice.Iter.{iter_rest}
use Rattle.vortex_dtype.specs.declared.names.FieldNames.{FieldNames}
use Rattle.vortex_dtype.specs.declared.types.variants.TypeIds.{TypeIds}

-- the names, in order
abbrev pub names_in : FieldNames → List (List ℕ)
names_in names = names.names.now

-- the ids that the iterator has still to give, in order
abbrev pub ids_left : TypeIds → List ℕ
ids_left ids = iter_rest ids.ids
