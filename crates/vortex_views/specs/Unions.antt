-- What the value of a union chooses among the variants of its type, and what contracts say of views of unions.
use Rattle.std.specs.Prelude.{◌≡◌, ◌==◌, ℕ, List, length, Option, Some, None, position, option_map}
use Rattle.vortex_dtype.specs.TypeTree.{TypeTree, union_type}
use Rattle.vortex_value.specs.Texts.{name_with}
use Rattle.vortex_value.specs.Validity.{type_with}
use Rattle.vortex_value.specs.Values.RawTree.{RawTree, raw_union}
use Rattle.vortex_value.specs.Values.Refs.{ref_raw, ref_type}
use Rattle.vortex_value.specs.declared.refs.ScalarRef.{ScalarRef}
use Rattle.vortex_views.specs.Parts.{Part, ref_part}
use Rattle.vortex_views.specs.declared.union.UnionScalar.{UnionScalar}

-- the borrowed scalar that is viewed as a union
abbrev pub union_ref : UnionScalar → ScalarRef
union_ref x = x.scalar

-- its type and its raw value
abbrev pub union_view_type : UnionScalar → TypeTree
union_view_type x = ref_type (union_ref x)

abbrev pub union_view_raw : UnionScalar → RawTree
union_view_raw x = ref_raw (union_ref x)

-- both, as one
abbrev pub viewed_union : UnionScalar → Part
viewed_union x = ref_part (union_ref x)

-- the id that a union's value has; a null has none
abbrev pub id_of : RawTree → Option ℕ
id_of (raw_union id v) = Some id
id_of _ = None

-- the place of the variant with that id
abbrev pub chosen_place : TypeTree → RawTree → Option ℕ
chosen_place (union_type names ts ids n) (raw_union id v) = position (λ i. i == id) ids
chosen_place _ _ = None

-- the name of the variant with that id
abbrev pub chosen_name : TypeTree → RawTree → Option (List ℕ)
chosen_name (union_type names ts ids n) (raw_union id v) = name_with id ids names
chosen_name _ _ = None

-- the type of the variant with that id
abbrev pub chosen_type : TypeTree → RawTree → Option TypeTree
chosen_type (union_type names ts ids n) (raw_union id v) = type_with id ids ts
chosen_type _ _ = None

-- the child, with that type
abbrev pub child_of : TypeTree → RawTree → Option Part
child_of (union_type names ts ids n) (raw_union id v) = option_map (λ t. (t, v)) (type_with id ids ts)
child_of _ _ = None

-- a union with as many names as ids
abbrev pub IsNamedUnion : TypeTree → Type 0
IsNamedUnion (union_type names ts ids n) = length names ≡ length ids
IsNamedUnion _ = ⊥
