-- The encoding of a prepared filter in bytes: of the types of its columns, and of the filter. These are versions 1 and 2 of the
-- layout, which differ by their first byte alone.
use Rattle.std.specs.Prelude.{◌≡◌, ◌⊎◌, ◌||◌, ℕ, ℤ, zero, suc, ◌+◌, Bool, true, false, List, [], ◌∷◌, ◌++◌, length, map, if◌then◌else◌}
use Rattle.std.specs.List.{AllByRecursion, list_any}
use Rattle.vortex_dtype.specs.TypeOf.{type_of}
use Rattle.vortex_dtype.specs.TypeTree.{TypeTree, null_type, bool_type, integer_type, utf8_type, binary_type, extension_type}
use Rattle.vortex_dtype.specs.declared.nullability.Nullability.{Nullability}
use Rattle.vortex_dtype.specs.declared.nullability.Nullability.TheVariants.{NonNullable, Nullable}
use Rattle.vortex_dtype.specs.declared.ptype.PType.{PType}
use Rattle.vortex_dtype.specs.declared.ptype.PType.TheVariants.{U8, U16, U32, U64, I8, I16, I32, I64}
use Rattle.vortex_dtype.specs.declared.types.DType.{DType}
use Rattle.vortex_value.specs.Equality.{HasNoTyped}
use Rattle.vortex_value.specs.Values.Content.{content, null, text, string}
use Rattle.vortex_value.specs.Values.RawTree.{RawTree}
use Rattle.vortex_row.specs.Decoded.{IsValueOf}
use Rattle.vortex_row.specs.Held.{IsHeld}
use Rattle.vortex_row.specs.Keys.{key}
use Rattle.vortex_cells.specs.Cells.{Cell}
use Rattle.vortex_filter.specs.Formula.{Formula, formula, constant, comparison, null_test, membership, range, prefix_test, pattern_test, both, either, negation}
use Rattle.vortex_filter.specs.LogicalValues.{IsLogicalValue}
use Rattle.vortex_filter.specs.declared.filter.Filter.{Filter}
use Rattle.vortex_filter.specs.declared.operator.CompareOperator.{CompareOperator}
use Rattle.vortex_filter.specs.declared.operator.CompareOperator.TheVariants.{Eq, NotEq, Gt, Gte, Lt, Lte}
use Rattle.vortex_filter.specs.declared.truth.Truth.{Truth}
use Rattle.vortex_filter.specs.declared.truth.Truth.TheVariants.{False, Unknown, True}
use Rattle.logical_scalars.specs.Stored.{IsOfLogicalType}
use Rattle.logical_types.specs.declared.logical.LogicalType.{LogicalType}
use Rattle.filter_encoding.specs.Lists.{AreListed, Fits, count_bytes, listed}
use Rattle.filter_encoding.specs.Patterns.{IsCase, IsPart, case_bytes, part_bytes}
use Rattle.filter_encoding.specs.declared.prepared.PreparedFilter.{PreparedFilter}

-- ---- types

-- the code of an integer type
abbrev pub integer_code : PType → ℕ
integer_code U8 = 0
integer_code U16 = 1
integer_code U32 = 2
integer_code U64 = 3
integer_code I8 = 4
integer_code I16 = 5
integer_code I32 = 6
integer_code I64 = 7

-- 16 more if the type takes a null
abbrev pub null_code : Nullability → ℕ
null_code NonNullable = 0
null_code Nullable = 16

-- a type that has a byte: integers, bool, strings, bytes or nulls
abbrev pub HasByte : TypeTree → Type 0
HasByte null_type = Unit {0}
HasByte (bool_type n) = Unit {0}
HasByte (integer_type k n) = Unit {0}
HasByte (utf8_type n) = Unit {0}
HasByte (binary_type n) = Unit {0}
HasByte _ = ⊥

-- an extension over such a type, whose id and metadata memory can hold
pub record IsPlainExtension (id metadata : List ℕ) (storage : TypeTree) : Type 0 where
  pub id_held : IsHeld (text id)
  pub metadata_held : IsHeld (string metadata)
  pub stored : HasByte storage

-- a type that has a byte, or an extension over one
abbrev pub IsPlain : TypeTree → Type 0
IsPlain (extension_type id metadata storage) = IsPlainExtension id metadata storage
IsPlain t = HasByte t

-- the byte of such a type
abbrev pub type_byte : TypeTree → ℕ
type_byte (integer_type k n) = integer_code k + null_code n
type_byte (bool_type n) = 8 + null_code n
type_byte (utf8_type n) = 9 + null_code n
type_byte (binary_type n) = 11 + null_code n
type_byte null_type = 29
type_byte _ = 255

-- the same, as a string of one byte
abbrev pub byte_string : TypeTree → List ℕ
byte_string t = type_byte t ∷ []

-- of an extension: its byte, the keys of its id and of its metadata, and the byte of what stores it
abbrev pub extension_bytes : List ℕ → List ℕ → TypeTree → List ℕ
extension_bytes id metadata storage = 32 ∷ (key (text id) ++ (key (string metadata) ++ byte_string storage))

abbrev pub type_bytes : TypeTree → List ℕ
type_bytes (extension_type id metadata storage) = extension_bytes id metadata storage
type_bytes t = byte_string t

-- ---- literals

-- a literal: the bytes of its type, and the key of its content
abbrev pub literal_bytes : Cell → List ℕ
literal_bytes x = type_bytes x.typed ++ key x.content

-- a literal of a logical type is null, or a value of it
abbrev pub IsLogicallyValid : Cell → Type 0
IsLogicallyValid x = (l : LogicalType) → IsOfLogicalType x.typed l → (x.content ≡ null) ⊎ ((m : LogicalType) × (z : ℤ) × IsLogicalValue m z x)

-- a literal of a type that has bytes, in which no variant's child stands; one of a logical type is null or a value of it
pub record IsPlainCell (x : Cell) : Type 0 where
  pub plain : IsPlain x.typed
  pub untyped : HasNoTyped x.content
  pub logical : IsLogicallyValid x

-- the same, and memory can hold its content
pub record IsHeldCell (x : Cell) : Type 0 where
  pub plain : IsPlain x.typed
  pub untyped : HasNoTyped x.content
  pub logical : IsLogicallyValid x
  pub held : IsHeld x.content

-- a literal of such a type, and a value of it
pub record IsLiteral (x : Cell) : Type 0 where
  pub plain : IsPlain x.typed
  pub value : RawTree
  pub is_value : IsValueOf x.typed value
  pub is : x.content ≡ content value

-- ---- filters

-- the byte of a constant
abbrev pub truth_byte : Truth → ℕ
truth_byte False = 0
truth_byte Unknown = 1
truth_byte True = 2

-- the byte of a comparison
abbrev pub operator_byte : CompareOperator → ℕ
operator_byte Eq = 3
operator_byte NotEq = 4
operator_byte Gt = 5
operator_byte Gte = 6
operator_byte Lt = 7
operator_byte Lte = 8

-- A filter: the byte of its kind; then the place of its column and its literals, or its case and its pattern, or its parts.
abbrev pub node_bytes : Formula → List ℕ
node_bytes (constant t) = truth_byte t ∷ []
node_bytes (comparison k op x) = operator_byte op ∷ (count_bytes k ++ literal_bytes x)
node_bytes (null_test k) = 9 ∷ count_bytes k
node_bytes (membership k xs) = 10 ∷ (count_bytes k ++ listed literal_bytes xs)
node_bytes (range k x y) = 11 ∷ (count_bytes k ++ (literal_bytes x ++ literal_bytes y))
node_bytes (prefix_test k x) = 12 ∷ (count_bytes k ++ literal_bytes x)
node_bytes (pattern_test k case parts) = 16 ∷ (count_bytes k ++ (case_bytes case ++ listed part_bytes parts))
node_bytes (both f g) = 13 ∷ (node_bytes f ++ node_bytes g)
node_bytes (either f g) = 14 ∷ (node_bytes f ++ node_bytes g)
node_bytes (negation f) = 15 ∷ node_bytes f

-- at most n connectives nest, 8 bytes can hold each place and each number of literals or parts, the characters of patterns are
-- Unicode scalar values, and P holds of each literal
abbrev pub Nests : (Cell → Type 0) → ℕ → Formula → Type 0
Nests P n (constant t) = Unit {0}
Nests P n (comparison k op x) = Fits k × P x
Nests P n (null_test k) = Fits k
Nests P n (membership k xs) = Fits k × AreListed P xs
Nests P n (range k x y) = Fits k × (P x × P y)
Nests P n (prefix_test k x) = Fits k × P x
Nests P n (pattern_test k case parts) = Fits k × (IsCase case × AreListed IsPart parts)
Nests P zero (both f g) = ⊥
Nests P (suc n) (both f g) = Nests P n f × Nests P n g
Nests P zero (either f g) = ⊥
Nests P (suc n) (either f g) = Nests P n f × Nests P n g
Nests P zero (negation f) = ⊥
Nests P (suc n) (negation f) = Nests P n f

-- ---- prepared filters

-- what contracts see of a prepared filter: the types of its columns, and its formula
pub record Prepared : Type 0 where
  pub types : List TypeTree
  pub filter : Formula

-- of these columns and this filter
abbrev pub parts_of : List DType → Filter → Prepared
parts_of columns filter = record { types = map type_of columns; filter = formula filter }

abbrev pub prepared : PreparedFilter → Prepared
prepared p = parts_of p.columns.items p.filter

-- ---- versions

abbrev pub is_extension : TypeTree → Bool
is_extension (extension_type id metadata storage) = true
is_extension _ = false

abbrev pub is_extended : Cell → Bool
is_extended x = is_extension x.typed

-- whether a literal is of an extension
abbrev pub has_extended : Formula → Bool
has_extended (constant t) = false
has_extended (comparison k op x) = is_extended x
has_extended (null_test k) = false
has_extended (membership k xs) = list_any is_extended xs
has_extended (range k x y) = is_extended x || is_extended y
has_extended (prefix_test k x) = is_extended x
has_extended (pattern_test k case parts) = false
has_extended (both f g) = has_extended f || has_extended g
has_extended (either f g) = has_extended f || has_extended g
has_extended (negation f) = has_extended f

-- the version that is written: 2 if a column or a literal is of an extension, and 1 if none is
abbrev pub version_of : Prepared → ℕ
version_of p = if list_any is_extension p.types || has_extended p.filter then 2 else 1

abbrev pub IsVersion : ℕ → Type 0
IsVersion version = (version ≡ 1) ⊎ (version ≡ 2)

-- a version, the types and the filter
abbrev pub encoding_in : ℕ → Prepared → List ℕ
encoding_in version p = version ∷ (listed type_bytes p.types ++ node_bytes p.filter)

-- what is written
abbrev pub encoding : Prepared → List ℕ
encoding p = encoding_in (version_of p) p

-- ---- which are written and read

-- the columns and the literals are of types that have bytes, and at most n connectives nest
pub record CanBeWritten (n : ℕ) (p : Prepared) : Type 0 where
  pub types : AreListed IsPlain p.types
  pub filter : Nests IsPlainCell n p.filter

-- the same, and memory can hold the content of each literal
pub record IsWritten (n : ℕ) (p : Prepared) : Type 0 where
  pub types : AreListed IsPlain p.types
  pub filter : Nests IsHeldCell n p.filter

-- the same, and each literal is a value of its type, though perhaps none of its logical type
pub record IsFormed (n : ℕ) (p : Prepared) : Type 0 where
  pub types : AreListed IsPlain p.types
  pub filter : Nests IsLiteral n p.filter

-- P holds of each literal
abbrev pub OfEach : (Cell → Type 0) → Formula → Type 0
OfEach P (constant t) = Unit {0}
OfEach P (comparison k op x) = P x
OfEach P (null_test k) = Unit {0}
OfEach P (membership k xs) = AllByRecursion P xs
OfEach P (range k x y) = P x × P y
OfEach P (prefix_test k x) = P x
OfEach P (pattern_test k case parts) = Unit {0}
OfEach P (both f g) = OfEach P f × OfEach P g
OfEach P (either f g) = OfEach P f × OfEach P g
OfEach P (negation f) = OfEach P f

-- each literal of a logical type is a value of it
abbrev pub HasValues : Formula → Type 0
HasValues = OfEach IsLogicallyValid

-- ---- where the first literal stands that is no value of its logical type

-- At holds of what stands behind the first k bytes
abbrev pub Behind : ℕ → (ℕ → Type 0) → ℕ → Type 0
Behind k At n = (m : ℕ) × (n ≡ k + m) × At m

-- this literal is none, and its key stands behind so many of its bytes
abbrev pub IsNoValueAt : Cell → ℕ → Type 0
IsNoValueAt x n = (n ≡ length (type_bytes x.typed)) × ¬ (IsLogicallyValid x)

-- the first that is none of literals one after another
abbrev pub FirstAmong : List Cell → ℕ → Type 0
FirstAmong [] n = ⊥
FirstAmong (x ∷ xs) n = IsNoValueAt x n ⊎ (IsLogicallyValid x × Behind (length (literal_bytes x)) (λ m. FirstAmong xs m) n)

-- the first that is none of the literals of a filter
abbrev pub FirstIn : Formula → ℕ → Type 0
FirstIn (constant t) n = ⊥
FirstIn (comparison k op x) n = Behind 9 (IsNoValueAt x) n
FirstIn (null_test k) n = ⊥
FirstIn (membership k xs) n = Behind 17 (FirstAmong xs) n
FirstIn (range k x y) n = Behind 9 (FirstAmong (x ∷ y ∷ [])) n
FirstIn (prefix_test k x) n = Behind 9 (IsNoValueAt x) n
FirstIn (pattern_test k case parts) n = ⊥
FirstIn (both f g) n = Behind 1 (λ m. FirstIn f m) n ⊎ (HasValues f × Behind (1 + length (node_bytes f)) (λ m. FirstIn g m) n)
FirstIn (either f g) n = Behind 1 (λ m. FirstIn f m) n ⊎ (HasValues f × Behind (1 + length (node_bytes f)) (λ m. FirstIn g m) n)
FirstIn (negation f) n = Behind 1 (λ m. FirstIn f m) n

-- the same, and each literal of a logical type is a value of it
pub record HasEncoding (n : ℕ) (p : Prepared) : Type 0 where
  pub formed : IsFormed n p
  pub values : HasValues p.filter

-- What begins with the encodings of two prepared filters has one version, the same types, the same formula, and one rest.
abbrev pub EncodingsAreApart : Type 0
EncodingsAreApart = (m n v w : ℕ) (p q : Prepared) (xs ys : List ℕ) → IsFormed m p → IsFormed n q → encoding_in v p ++ xs ≡ encoding_in w q ++ ys → (v ≡ w) × (p ≡ q) × (xs ≡ ys)
