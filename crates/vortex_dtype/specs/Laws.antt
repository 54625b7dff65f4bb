-- The laws of types: the tree of each variant; equality, exact and up to nullability, is an equivalence; a type made nullable
-- is equal up to nullability.
use Rattle.std.specs.Prelude.{◌≡◌, ◌↔◌, ℕ, ◌==◌, Bool, false, List, Some, position, slice_get, IsTrue, Box}
use Rattle.std.specs.Global.{Global}
use Rattle.vortex_dtype.specs.declared.nullability.Nullability.{Nullability}
use Rattle.vortex_dtype.specs.declared.ptype.PType.{PType}
use Rattle.vortex_dtype.specs.declared.types.DType.{DType}
use Rattle.vortex_dtype.specs.declared.types.DType.TheVariants as types
use Rattle.vortex_dtype.specs.declared.types.ExtDType.{ExtDType}
use Rattle.vortex_dtype.specs.declared.types.MapDType.{MapDType}
use Rattle.vortex_dtype.specs.declared.types.StructFields.{StructFields}
use Rattle.vortex_dtype.specs.declared.types.UnionVariants.{UnionVariants}
use Rattle.vortex_dtype.specs.TypeTree.{TypeTree, null_type, bool_type, integer_type, utf8_type, binary_type, list_type, fixed_size_list_type, variant_type, Same, IsNullable, as_nullable, erase}
use Rattle.vortex_dtype.specs.TypeOf.{type_of, ext_of, map_of, fields_of, variants_of, map_type_of, struct_type_of, union_type_of, extension_type_of}
use Rattle.vortex_dtype.specs.TypeEquality.{tree_eq}
use Rattle.vortex_dtype.specs.Feeds.{tree_feed}
use Rattle.vortex_dtype.specs.Refusals.{repeats}

-- the tree of a declared type, variant by variant
pub record TreesByVariant : Type 0 where
  pub null : type_of types.Null ≡ null_type
  pub bool : (n : Nullability) → type_of (types.Bool n) ≡ bool_type n
  pub primitive : (k : PType) (n : Nullability) → type_of (types.Primitive k n) ≡ integer_type k n
  pub utf8 : (n : Nullability) → type_of (types.Utf8 n) ≡ utf8_type n
  pub binary : (n : Nullability) → type_of (types.Binary n) ≡ binary_type n
  pub list : (e : Box DType Global) (n : Nullability) → type_of (types.List e n) ≡ list_type (type_of e.value) n
  pub fixed_size_list : (e : Box DType Global) (size : ℕ) (n : Nullability) → type_of (types.FixedSizeList e size n) ≡ fixed_size_list_type (type_of e.value) size n
  pub map : (m : MapDType) (n : Nullability) → type_of (types.Map m n) ≡ map_type_of (map_of m) n
  pub struct : (f : StructFields) (n : Nullability) → type_of (types.Struct f n) ≡ struct_type_of (fields_of f) n
  pub union : (v : UnionVariants) (n : Nullability) → type_of (types.Union v n) ≡ union_type_of (variants_of v) n
  pub variant : (n : Nullability) → type_of (types.Variant n) ≡ variant_type n
  pub extension : (e : ExtDType) → type_of (types.Extension e) ≡ extension_type_of (ext_of e)

-- the test that `==` is proved to be passes exactly if the trees are equal
abbrev pub EqualityDecides : Type 0
EqualityDecides = (s t : TypeTree) → IsTrue (tree_eq s t) ↔ (s ≡ t)

-- a test of equality passes exactly if contracts see its two sides as equal
abbrev pub EqualsBy : {A B : Type 0} → (A → B) → (A → A → Bool) → Type 0
EqualsBy {A} seen eq = (x y : A) → IsTrue (eq x y) ↔ (seen x ≡ seen y)

-- equal sides feed a hasher alike
abbrev pub AgreesWithHash : {A F : Type 0} → (A → A → Bool) → (A → F) → Type 0
AgreesWithHash {A} eq fed = (x y : A) → IsTrue (eq x y) → fed x ≡ fed y

-- equality of types is reflexive, symmetric and transitive
abbrev pub EqualityIsEquivalence : Type 0
EqualityIsEquivalence =
    ((t : TypeTree) → IsTrue (tree_eq t t))
    × ((s t : TypeTree) → IsTrue (tree_eq s t) → IsTrue (tree_eq t s))
    × ((s t u : TypeTree) → IsTrue (tree_eq s t) → IsTrue (tree_eq t u) → IsTrue (tree_eq s u))

-- if no id stands twice, an id stands at a place exactly if the search for the id gives that place
abbrev pub PlacesAreInverse : Type 0
PlacesAreInverse = (ids : List ℕ) (i id : ℕ) → repeats ids ≡ false → (slice_get ids i ≡ Some id) ↔ (position (λ x. x == id) ids ≡ Some i)

-- equality up to nullability is reflexive, symmetric and transitive
abbrev pub SameIsEquivalence : Type 0
SameIsEquivalence =
    ((t : TypeTree) → Same t t)
    × ((s t : TypeTree) → Same s t → Same t s)
    × ((s t u : TypeTree) → Same s t → Same t u → Same s u)

-- a type made nullable takes a null, and is equal to the type up to nullability
abbrev pub NullableIsSame : Type 0
NullableIsSame = ((t : TypeTree) → IsNullable (as_nullable t)) × ((t : TypeTree) → Same (as_nullable t) t)

-- types that are equal up to nullability feed a hasher alike without nullability
abbrev pub SameFeedSame : Type 0
SameFeedSame = (s t : TypeTree) → Same s t → tree_feed (erase s) ≡ tree_feed (erase t)
