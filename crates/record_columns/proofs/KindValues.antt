-- The scalars that are read of fields are values of columns.
use Rattle.std.proofs.Common.{◌≡◌, ℕ, ℤ, Bool, true, false, List, [], ◌∷◌, MatchBool, inl, inr, nat_le, refl, subst, sym, ◌∙◌, if◌then◌else◌}
use Rattle.arrow_columns.specs.Formats.{IsLogicalTypeOf, IsSound, IsValueOf}
use Rattle.column_cells.specs.Contents.{stored_content}
use Rattle.column_cells.specs.Types.{type_of_format, type_of_kind}
use Rattle.column_items.specs.Numbers.{HasContentOf}
use Rattle.csv_records.specs.Rows.{Field}
use Rattle.logical_scalars.specs.Stored.{logical_tree, raw_storage, storage_tree}
use Rattle.logical_types.specs.Extensions.{storage_type_of, time_storage}
use Rattle.logical_types.specs.Storing.{decimal_bytes}
use Rattle.logical_types.specs.Words.{IsStorageOf}
use Rattle.logical_types.specs.declared.extensions.StorageType.{StorageType}
use Rattle.logical_types.specs.declared.extensions.StorageType.TheVariants as storages
use Rattle.logical_types.specs.declared.logical.LogicalType.{LogicalType}
use Rattle.logical_types.specs.declared.logical.LogicalType.TheVariants as logical
use Rattle.logical_types.specs.declared.times.TimeUnit.{TimeUnit}
use Rattle.logical_types.specs.declared.times.TimeUnit.TheVariants.{Seconds, Milliseconds, Microseconds, Nanoseconds}
use Rattle.record_rows.specs.Cells.{Means, column_type, type_by}
use Rattle.record_rows.specs.Cells.{stored_content as stored_of}
use Rattle.record_rows.specs.Readings.{Reading, is_null_field}
use Rattle.record_rows.specs.Rows.{AreCells, IsTaken}
use Rattle.record_rows.specs.declared.schema.ColumnType.{ColumnType}
use Rattle.record_rows.specs.declared.schema.Kind.{Kind}
use Rattle.record_rows.specs.declared.schema.Kind.TheVariants as words
use Rattle.vortex_dtype.specs.TypeTree.{TypeTree, as_nullable}
use Rattle.vortex_dtype.specs.declared.nullability.Nullability.{Nullability}
use Rattle.vortex_dtype.specs.declared.nullability.Nullability.TheVariants.{Nullable}
use Rattle.vortex_dtype.specs.declared.ptype.PType.TheVariants.{U8, U16, U32, U64, I8, I16, I32, I64}
use Rattle.vortex_value.proofs.CastLaws.{nullable_valid}
use Rattle.vortex_value.specs.Validity.{Valid}
use Rattle.vortex_value.specs.Values.Content.{Content, content, null, string, whole}
use Rattle.vortex_value.specs.Values.Scalars.{IsValid, scalar_content, scalar_raw, scalar_type}
use Rattle.vortex_value.specs.declared.scalars.Scalar.{Scalar}
use Rattle.record_columns.specs.Kinds.{format_of, kind_by, kind_of_column}
use Rattle.record_columns.specs.Values.{AreValuesIn, IsValueIn}
use Rattle.record_columns.proofs.WordValues.{written_value}

-- ---- types

type_of_logical : (l : LogicalType) → type_of_format (format_of l) ≡ logical_tree l Nullable
type_of_logical logical.Float64 = refl
type_of_logical logical.Float32 = refl
type_of_logical (logical.Decimal d) = refl
type_of_logical logical.Date = refl
type_of_logical (logical.Time unit) = refl
type_of_logical (logical.Timestamp unit is_zoned) = refl

-- the kind is of the type of what words are, which takes nulls
pub type_of_words : (kind : Kind) → type_of_kind (kind_by kind) ≡ type_by kind Nullable
type_of_words (words.Integer U8) = refl
type_of_words (words.Integer U16) = refl
type_of_words (words.Integer U32) = refl
type_of_words (words.Integer U64) = refl
type_of_words (words.Integer I8) = refl
type_of_words (words.Integer I16) = refl
type_of_words (words.Integer I32) = refl
type_of_words (words.Integer I64) = refl
type_of_words words.Utf8 = refl
type_of_words words.Binary = refl
type_of_words words.Bytes = refl
type_of_words (words.Logical l) = type_of_logical l

nullable_storage : (kind : StorageType) (n : Nullability) → as_nullable (storage_tree kind n) ≡ storage_tree kind Nullable
nullable_storage storages.I32 n = refl
nullable_storage storages.I64 n = refl
nullable_storage storages.Bytes n = refl

nullable_logical : (l : LogicalType) (n : Nullability) → as_nullable (logical_tree l n) ≡ logical_tree l Nullable
nullable_logical l n = rw (nullable_storage (storage_type_of l) n) refl

nullable_type : (kind : Kind) (n : Nullability) → as_nullable (type_by kind n) ≡ type_by kind Nullable
nullable_type (words.Integer ptype) n = refl
nullable_type words.Utf8 n = refl
nullable_type words.Binary n = refl
nullable_type words.Bytes n = refl
nullable_type (words.Logical l) n = nullable_logical l n

-- a valid scalar of the column's type is valid where nulls are taken
valid_in : (c : ColumnType) (x : Scalar) → scalar_type x ≡ column_type c → IsValid x → Valid (type_of_kind (kind_of_column c)) (scalar_raw x)
valid_in c x typed valid =
    let here : Valid (type_by c.kind c.nullability) (scalar_raw x) = subst (λ (t : TypeTree). Valid t (scalar_raw x)) typed valid in
    subst (λ (t : TypeTree). Valid t (scalar_raw x)) (nullable_type c.kind c.nullability ∙ sym (type_of_words c.kind)) (nullable_valid (type_by c.kind c.nullability) (scalar_raw x) here)

-- ---- values of logical types

is_format : (l : LogicalType) → IsLogicalTypeOf (format_of l) l
is_format logical.Float64 = refl
is_format logical.Float32 = refl
is_format (logical.Decimal d) = ((d.some, d.small, d.within), refl, refl)
is_format logical.Date = refl
is_format (logical.Time unit) = refl
is_format (logical.Timestamp unit is_zoned) = refl

sound : (l : LogicalType) → IsSound (format_of l)
sound logical.Float64 = tt
sound logical.Float32 = tt
sound (logical.Decimal d) = (d.some, d.small, d.within)
sound logical.Date = tt
sound (logical.Time unit) = tt
sound (logical.Timestamp unit is_zoned) = tt

value_of : (l : LogicalType) (z : ℤ) → IsStorageOf l z → IsValueOf (format_of l) z
value_of logical.Float64 z h = h
value_of logical.Float32 z h = h
value_of (logical.Decimal d) z h = h
value_of logical.Date z h = h
value_of (logical.Time unit) z h = h
value_of (logical.Timestamp unit is_zoned) z h = h

stored_decimal : (b : Bool) (z : ℤ) → content (raw_storage (if b then storages.I64 else storages.Bytes) z) ≡ (if b then whole z else string (decimal_bytes z))
stored_decimal true z = refl
stored_decimal false z = refl

stored_time : (unit : TimeUnit) (z : ℤ) → content (raw_storage (time_storage unit) z) ≡ whole z
stored_time Seconds z = refl
stored_time Milliseconds z = refl
stored_time Microseconds z = refl
stored_time Nanoseconds z = refl

same_stored : (l : LogicalType) (z : ℤ) → stored_of l z ≡ stored_content (format_of l) z
same_stored logical.Float64 z = refl
same_stored logical.Float32 z = refl
same_stored (logical.Decimal d) z = stored_decimal (nat_le d.precision 18) z
same_stored logical.Date z = refl
same_stored (logical.Time unit) z = stored_time unit z
same_stored (logical.Timestamp unit is_zoned) z = refl

stored_null : (kind : Kind) (c : Content) → c ≡ null → HasContentOf (kind_by kind) c
stored_null (words.Integer ptype) c h = tt
stored_null words.Utf8 c h = tt
stored_null words.Binary c h = tt
stored_null words.Bytes c h = tt
stored_null (words.Logical l) c h = inl h

stored_word : (kind : Kind) (word : List ℕ) (c : Content) → Means kind word c → HasContentOf (kind_by kind) c
stored_word (words.Integer ptype) word c h = tt
stored_word words.Utf8 word c h = tt
stored_word words.Binary word c h = tt
stored_word words.Bytes word c h = tt
stored_word (words.Logical l) word c h = inr (h.0, record { sound = sound l; value = value_of l h.0 (written_value l word h.0 h.1); is = h.2 ∙ same_stored l h.0 })

stored_field : (kind : Kind) (word : List ℕ) (c : Content) (b : Bool) → MatchBool b (c ≡ null) (Means kind word c) → HasContentOf (kind_by kind) c
stored_field kind word c true h = stored_null kind c h
stored_field kind word c false h = stored_word kind word c h

-- ---- rows

taken_value : (l : Reading) (c : ColumnType) (f : Field) (x : Scalar) (b : Bool) → IsTaken l c f x b → IsValueIn c x
taken_value l c f x false h = record { valid = valid_in c x h.typed h.valid; stored = stored_field c.kind f.text (scalar_content x) (is_null_field l c.nullability f) h.content }
taken_value l c f x true h = record { valid = valid_in c x h.typed h.valid; stored = stored_null c.kind (scalar_content x) h.content }

pub values_in : (l : Reading) (cs : List ColumnType) (fs : List Field) (xs : List Scalar) (bs : List Bool) → AreCells l cs fs xs bs → AreValuesIn cs xs
values_in l [] [] [] [] h = tt
values_in l [] [] [] (b ∷ bs) h = absurd h
values_in l [] [] (x ∷ xs) bs h = absurd h
values_in l [] (f ∷ fs) xs bs h = absurd h
values_in l (c ∷ cs) [] xs bs h = absurd h
values_in l (c ∷ cs) (f ∷ fs) [] bs h = absurd h
values_in l (c ∷ cs) (f ∷ fs) (x ∷ xs) [] h = absurd h
values_in l (c ∷ cs) (f ∷ fs) (x ∷ xs) (b ∷ bs) h = (taken_value l c f x b h.0, values_in l cs fs xs bs h.1)
