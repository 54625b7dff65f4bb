-- The raw values that are of a type's kind.
use Rattle.std.specs.Prelude.{Bool, true, false}
use Rattle.vortex_dtype.specs.Parts.{is_binary_type, is_union_type, is_utf8_type}
use Rattle.vortex_dtype.specs.TypeTree.{TypeTree, integer_type, list_type, fixed_size_list_type, map_type, struct_type}
use Rattle.vortex_value.specs.Values.RawTree.{RawTree, absent, raw_bool, raw_integer, raw_text, raw_bytes, raw_tuple, raw_union, raw_variant}
use Rattle.vortex_leaves.specs.Leaves.{is_bool_type}
use Rattle.vortex_views.specs.ViewKinds.{is_variant_type}

-- whether the type is a type of integers; an extension over one is not
abbrev pub is_integer_type : TypeTree → Bool
is_integer_type (integer_type k n) = true
is_integer_type _ = false

-- whether the values of a type are tuples
abbrev pub is_nested : TypeTree → Bool
is_nested (list_type e n) = true
is_nested (fixed_size_list_type e size n) = true
is_nested (map_type k w sorted n) = true
is_nested (struct_type names ts n) = true
is_nested _ = false

-- whether a raw value is null, or of the kind that values of the type have. The type is no extension. An integer may have any
-- PType.
abbrev pub is_of_kind : TypeTree → RawTree → Bool
is_of_kind t absent = true
is_of_kind t (raw_bool b) = is_bool_type t
is_of_kind t (raw_integer k z) = is_integer_type t
is_of_kind t (raw_text bs) = is_utf8_type t
is_of_kind t (raw_bytes bs) = is_binary_type t
is_of_kind t (raw_tuple vs) = is_nested t
is_of_kind t (raw_union id v) = is_union_type t
is_of_kind t (raw_variant u v) = is_variant_type t
