-- A type made nullable takes a null, and differs in nullability alone.
use Rattle.std.proofs.Common.{refl, ap}
use Rattle.vortex_dtype.specs.TypeTree.{TypeTree, null_type, bool_type, integer_type, utf8_type, binary_type, list_type, fixed_size_list_type, map_type, struct_type, union_type, variant_type, extension_type, Same, IsNullable, as_nullable}

pub IsNullable-as_nullable : (t : TypeTree) → IsNullable (as_nullable t)
IsNullable-as_nullable null_type = refl
IsNullable-as_nullable (bool_type n) = refl
IsNullable-as_nullable (integer_type k n) = refl
IsNullable-as_nullable (utf8_type n) = refl
IsNullable-as_nullable (binary_type n) = refl
IsNullable-as_nullable (list_type e n) = refl
IsNullable-as_nullable (fixed_size_list_type e size n) = refl
IsNullable-as_nullable (map_type k v sorted n) = refl
IsNullable-as_nullable (struct_type names ts n) = refl
IsNullable-as_nullable (union_type names ts ids n) = refl
IsNullable-as_nullable (variant_type n) = refl
IsNullable-as_nullable (extension_type id metadata t) = IsNullable-as_nullable t

pub Same-as_nullable : (t : TypeTree) → Same (as_nullable t) t
Same-as_nullable null_type = refl
Same-as_nullable (bool_type n) = refl
Same-as_nullable (integer_type k n) = refl
Same-as_nullable (utf8_type n) = refl
Same-as_nullable (binary_type n) = refl
Same-as_nullable (list_type e n) = refl
Same-as_nullable (fixed_size_list_type e size n) = refl
Same-as_nullable (map_type k v sorted n) = refl
Same-as_nullable (struct_type names ts n) = refl
Same-as_nullable (union_type names ts ids n) = refl
Same-as_nullable (variant_type n) = refl
Same-as_nullable (extension_type id metadata t) = ap (extension_type id metadata) (Same-as_nullable t)
