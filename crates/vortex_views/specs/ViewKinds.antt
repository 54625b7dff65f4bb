-- Types and raw values that are viewed as unions and as variants, valid or not.
use Rattle.std.specs.Prelude.{Bool, true, false}
use Rattle.vortex_dtype.specs.TypeTree.{TypeTree, union_type, variant_type}
use Rattle.vortex_value.specs.Values.RawTree.{RawTree, absent, raw_union, raw_variant}

-- whether the type is a union, and the value null or the value of a union
abbrev pub is_of_union : TypeTree → RawTree → Bool
is_of_union (union_type names ts ids n) absent = true
is_of_union (union_type names ts ids n) (raw_union id v) = true
is_of_union _ _ = false

-- whether the type is a variant, and the value null or the value of a variant
abbrev pub is_of_variant : TypeTree → RawTree → Bool
is_of_variant (variant_type n) absent = true
is_of_variant (variant_type n) (raw_variant t v) = true
is_of_variant _ _ = false

-- whether the type is a variant; an extension over one is not
abbrev pub is_variant_type : TypeTree → Bool
is_variant_type (variant_type n) = true
is_variant_type _ = false
