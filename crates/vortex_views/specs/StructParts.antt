-- The fields of structs, and what calls on views of structs say of them.
use Rattle.std.specs.Prelude.{◌≡◌, ◌==◌, ℕ, List, [], map, length, Option, Some, None, slice_get, option_and_then, if◌then◌else◌}
use Rattle.std.specs.List.{zip}
use Rattle.vortex_dtype.specs.Parts.{IsProjection, field_index, fields_in}
use Rattle.vortex_dtype.specs.Refusals.{project_cause}
use Rattle.vortex_dtype.specs.TypeOf.{FieldParts, struct_type_of}
use Rattle.vortex_dtype.specs.TypeTree.{TypeTree, nullability_of}
use Rattle.vortex_dtype.specs.declared.error.VortexError.{VortexError}
use Rattle.vortex_dtype.specs.declared.error.VortexError.TheVariants.{WrongKind, WrongLength}
use Rattle.vortex_value.specs.Values.RawKinds.{IsTupleValue}
use Rattle.vortex_value.specs.Values.RawOf.{raw_or_absent}
use Rattle.vortex_value.specs.Values.RawTree.{RawTree, absent}
use Rattle.vortex_views.specs.Parts.{Part, parts_of}

-- the fields of a value, in order: the type of each, and the raw value at its place
abbrev pub typed_fields : Option FieldParts → RawTree → List Part
typed_fields None v = []
typed_fields (Some f) v = zip f.types (parts_of v)

-- the fields of a struct, in order; a null has none, nor has a value of another type
abbrev pub fields_within : Part → List Part
fields_within p = typed_fields (fields_in p.0) p.1

-- the place of the first field with the name
abbrev pub place_named : TypeTree → List ℕ → Option ℕ
place_named t name = option_and_then (λ f. field_index f name) (fields_in t)

-- the first field with the name
abbrev pub field_named : Part → List ℕ → Option Part
field_named p name = option_and_then (slice_get (fields_within p)) (place_named p.0 name)

-- why a struct of these fields is not cast to a struct of those, by the counts alone: there are more, or fewer
abbrev pub counts_cause : FieldParts → FieldParts → Option VortexError
counts_cause own target =
    if length own.types == length target.types then None else Some (WrongLength (length target.types) (length own.types))

-- why a struct of these fields is not cast to a type with those, whatever its content: the type is no struct, or else the
-- counts differ
abbrev pub struct_cast_cause : Option FieldParts → Option FieldParts → Option VortexError
struct_cast_cause own None = Some WrongKind
struct_cast_cause None (Some target) = None
struct_cast_cause (Some own) (Some target) = counts_cause own target

-- why these names select no fields: one of them is the name of no field
abbrev pub selection_cause : Option FieldParts → List (List ℕ) → Option VortexError
selection_cause None names = None
selection_cause (Some f) names = project_cause f names

-- the raw value of the first of these fields with the name, in a value that has them; a null if no field has it
abbrev pub value_named : FieldParts → RawTree → List ℕ → RawTree
value_named f v name = raw_or_absent (option_and_then (slice_get (parts_of v)) (field_index f name))

-- u is the struct type of the fields of t that these names select, in the order of the names, with the nullability of t
pub record IsProjectedType (t : TypeTree) (names : List (List ℕ)) (u : TypeTree) : Type 0 where
  pub own : FieldParts
  pub selected : FieldParts
  pub held : fields_in t ≡ Some own
  pub projection : IsProjection own names selected
  pub typed : u ≡ struct_type_of selected (nullability_of t)

-- w has the values of the fields of v that these names select, in the order of the names; of a null it is the null
abbrev pub IsProjectedValue : FieldParts → List (List ℕ) → RawTree → RawTree → Type 0
IsProjectedValue f names absent w = w ≡ absent
IsProjectedValue f names v w = IsTupleValue w × (parts_of w ≡ map (value_named f v) names)
