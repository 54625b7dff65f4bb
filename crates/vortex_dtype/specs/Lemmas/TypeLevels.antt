-- The tree of each variant of `DType`. The crates above cite these lemmas.
use Rattle.std.proofs.Common.{◌≡◌, ℕ, Box, Global, rules}
use Rattle.vortex_dtype.specs.declared.nullability.Nullability.{Nullability}
use Rattle.vortex_dtype.specs.declared.ptype.PType.{PType}
use Rattle.vortex_dtype.specs.declared.types.DType.{DType, Null, Bool, Primitive, Utf8, Binary, List, FixedSizeList, Map, Struct, Union, Variant, Extension, the_lemmas}
use Rattle.vortex_dtype.specs.declared.types.ExtDType.{ExtDType}
use Rattle.vortex_dtype.specs.declared.types.MapDType.{MapDType}
use Rattle.vortex_dtype.specs.declared.types.StructFields.{StructFields}
use Rattle.vortex_dtype.specs.declared.types.UnionVariants.{UnionVariants}
use Rattle.vortex_dtype.specs.TypeTree.{null_type, bool_type, integer_type, utf8_type, binary_type, list_type, fixed_size_list_type, variant_type}
use Rattle.vortex_dtype.specs.TypeOf.{type_of, ext_of, map_of, fields_of, variants_of, map_type_of, struct_type_of, union_type_of, extension_type_of}

pub type_of-Null : type_of Null ≡ null_type
type_of-Null = search (rules, the_lemmas)

pub type_of-Bool : (n : Nullability) → type_of (Bool n) ≡ bool_type n
type_of-Bool n = search (rules, the_lemmas)

pub type_of-Primitive : (k : PType) (n : Nullability) → type_of (Primitive k n) ≡ integer_type k n
type_of-Primitive k n = search (rules, the_lemmas)

pub type_of-Utf8 : (n : Nullability) → type_of (Utf8 n) ≡ utf8_type n
type_of-Utf8 n = search (rules, the_lemmas)

pub type_of-Binary : (n : Nullability) → type_of (Binary n) ≡ binary_type n
type_of-Binary n = search (rules, the_lemmas)

pub type_of-List : (e : Box DType Global) (n : Nullability) → type_of (List e n) ≡ list_type (type_of e.value) n
type_of-List e n = search (rules, the_lemmas)

pub type_of-FixedSizeList : (e : Box DType Global) (size : ℕ) (n : Nullability) → type_of (FixedSizeList e size n) ≡ fixed_size_list_type (type_of e.value) size n
type_of-FixedSizeList e size n = search (rules, the_lemmas)

pub type_of-Map : (m : MapDType) (n : Nullability) → type_of (Map m n) ≡ map_type_of (map_of m) n
type_of-Map m n = search (rules, the_lemmas)

pub type_of-Struct : (f : StructFields) (n : Nullability) → type_of (Struct f n) ≡ struct_type_of (fields_of f) n
type_of-Struct f n = search (rules, the_lemmas)

pub type_of-Union : (v : UnionVariants) (n : Nullability) → type_of (Union v n) ≡ union_type_of (variants_of v) n
type_of-Union v n = search (rules, the_lemmas)

pub type_of-Variant : (n : Nullability) → type_of (Variant n) ≡ variant_type n
type_of-Variant n = search (rules, the_lemmas)

pub type_of-Extension : (e : ExtDType) → type_of (Extension e) ≡ extension_type_of (ext_of e)
type_of-Extension e = search (rules, the_lemmas)
