-- Types as plain trees: which are equal up to nullability, and which take a null.
use Rattle.std.specs.Prelude.{◌≡◌, ℕ, List, Bool, true, false}
use Rattle.vortex_dtype.specs.declared.nullability.Nullability.{Nullability}
use Rattle.vortex_dtype.specs.declared.nullability.Nullability.TheVariants.{NonNullable, Nullable}
use Rattle.vortex_dtype.specs.declared.ptype.PType.{PType}

-- a type; names and ids are lists of numbers
mutual
  pub data TypeTree : Type 0 where
    null_type : TypeTree
    bool_type : Nullability → TypeTree
    integer_type : PType → Nullability → TypeTree
    utf8_type : Nullability → TypeTree
    binary_type : Nullability → TypeTree
    list_type : TypeTree → Nullability → TypeTree
    fixed_size_list_type : TypeTree → ℕ → Nullability → TypeTree
    map_type : TypeTree → TypeTree → Bool → Nullability → TypeTree
    struct_type : List (List ℕ) → TypeTrees → Nullability → TypeTree
    union_type : List (List ℕ) → TypeTrees → List ℕ → Nullability → TypeTree
    variant_type : Nullability → TypeTree
    extension_type : List ℕ → List ℕ → TypeTree → TypeTree

  pub data TypeTrees : Type 0 where
    no_types : TypeTrees
    type_then : TypeTree → TypeTrees → TypeTrees

-- this nullability, or `NonNullable` for each if nullability does not count
abbrev pub keep : Bool → Nullability → Nullability
keep true n = n
keep false n = NonNullable

-- this type, or, if nullability does not count, the type with every nullability at every depth erased
abbrev mutual
  pub trim : Bool → TypeTree → TypeTree
  trim exact null_type = null_type
  trim exact (bool_type n) = bool_type (keep exact n)
  trim exact (integer_type k n) = integer_type k (keep exact n)
  trim exact (utf8_type n) = utf8_type (keep exact n)
  trim exact (binary_type n) = binary_type (keep exact n)
  trim exact (list_type e n) = list_type (trim exact e) (keep exact n)
  trim exact (fixed_size_list_type e size n) = fixed_size_list_type (trim exact e) size (keep exact n)
  trim exact (map_type k v sorted n) = map_type (trim exact k) (trim exact v) sorted (keep exact n)
  trim exact (struct_type names ts n) = struct_type names (trim_all exact ts) (keep exact n)
  trim exact (union_type names ts ids n) = union_type names (trim_all exact ts) ids (keep exact n)
  trim exact (variant_type n) = variant_type (keep exact n)
  trim exact (extension_type id metadata t) = extension_type id metadata (trim exact t)

  -- each of the types, by `trim`
  pub trim_all : Bool → TypeTrees → TypeTrees
  trim_all exact no_types = no_types
  trim_all exact (type_then t ts) = type_then (trim exact t) (trim_all exact ts)

-- the type with every nullability at every depth erased
abbrev pub erase : TypeTree → TypeTree
erase = trim false

-- each of the types, with its nullabilities erased
abbrev pub erase_all : TypeTrees → TypeTrees
erase_all = trim_all false

-- the types are equal once every nullability at every depth is erased
abbrev pub Same : TypeTree → TypeTree → Type 0
Same s t = erase s ≡ erase t

-- the outer nullability; an extension has that of its storage
abbrev pub nullability_of : TypeTree → Nullability
nullability_of null_type = Nullable
nullability_of (bool_type n) = n
nullability_of (integer_type k n) = n
nullability_of (utf8_type n) = n
nullability_of (binary_type n) = n
nullability_of (list_type e n) = n
nullability_of (fixed_size_list_type e size n) = n
nullability_of (map_type k v sorted n) = n
nullability_of (struct_type names ts n) = n
nullability_of (union_type names ts ids n) = n
nullability_of (variant_type n) = n
nullability_of (extension_type id metadata t) = nullability_of t

-- the type takes a null
abbrev pub IsNullable : TypeTree → Type 0
IsNullable t = nullability_of t ≡ Nullable

-- whether this nullability lets nulls in
abbrev pub says_nullable : Nullability → Bool
says_nullable NonNullable = false
says_nullable Nullable = true

-- whether the type takes a null
abbrev pub is_nullable : TypeTree → Bool
is_nullable t = says_nullable (nullability_of t)

-- the type with its outer nullability made `Nullable`; of an extension, its storage is
abbrev pub as_nullable : TypeTree → TypeTree
as_nullable null_type = null_type
as_nullable (bool_type n) = bool_type Nullable
as_nullable (integer_type k n) = integer_type k Nullable
as_nullable (utf8_type n) = utf8_type Nullable
as_nullable (binary_type n) = binary_type Nullable
as_nullable (list_type e n) = list_type e Nullable
as_nullable (fixed_size_list_type e size n) = fixed_size_list_type e size Nullable
as_nullable (map_type k v sorted n) = map_type k v sorted Nullable
as_nullable (struct_type names ts n) = struct_type names ts Nullable
as_nullable (union_type names ts ids n) = union_type names ts ids Nullable
as_nullable (variant_type n) = variant_type Nullable
as_nullable (extension_type id metadata t) = extension_type id metadata (as_nullable t)

-- the type below all its extensions
abbrev pub storage : TypeTree → TypeTree
storage null_type = null_type
storage (bool_type n) = bool_type n
storage (integer_type k n) = integer_type k n
storage (utf8_type n) = utf8_type n
storage (binary_type n) = binary_type n
storage (list_type e n) = list_type e n
storage (fixed_size_list_type e size n) = fixed_size_list_type e size n
storage (map_type k v sorted n) = map_type k v sorted n
storage (struct_type names ts n) = struct_type names ts n
storage (union_type names ts ids n) = union_type names ts ids n
storage (variant_type n) = variant_type n
storage (extension_type id metadata t) = storage t

-- null, truth values and integers: types whose values take no memory
abbrev pub IsFlat : TypeTree → Type 0
IsFlat null_type = Unit {0}
IsFlat (bool_type n) = Unit {0}
IsFlat (integer_type k n) = Unit {0}
IsFlat _ = ⊥
