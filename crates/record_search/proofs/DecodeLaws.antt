-- The statistics that a piece says of a column, exactly where it says any.
use Rattle.std.proofs.Common.{◌≡◌, ◌<◌, ◌^◌, ◌&&◌, ℕ, ℤ, pos, negsuc, suc, zero, List, [], ◌∷◌, Bool, true, false, if◌then◌else◌, Option, None, Some, IfSome, Err, refl, sym, ap, ◌∙◌, subst, arith, nat_lt}
use Rattle.std.specs.Str.{bytes_eq, is_utf8}
use Rattle.std.proofs.lemmas.Bool.{and_from, and_parts, ltb-true, lt-ltb}
use Rattle.std.proofs.lemmas.Slice.Eq.{bytes_eq-Decides}
use Rattle.std.proofs.lemmas.Str.{IsUtf8-from_is_utf8, is_utf8-from_IsUtf8}
use Rattle.logical_scalars.specs.Stored.{storage_tree}
use Rattle.logical_types.specs.Extensions.{id_of, metadata_of, storage_type_of}
use Rattle.logical_types.specs.declared.extensions.StorageType.{StorageType}
use Rattle.logical_types.specs.declared.extensions.StorageType.TheVariants as stores
use Rattle.record_rows.specs.Cells.{column_type, type_by}
use Rattle.record_rows.specs.declared.schema.ColumnType.{ColumnType}
use Rattle.record_rows.specs.declared.schema.Kind.{Kind}
use Rattle.record_rows.specs.declared.schema.Kind.TheVariants as kinds
use Rattle.vortex_dtype.specs.TypeTree.{TypeTree, extension_type}
use Rattle.vortex_dtype.specs.declared.nullability.Nullability.{Nullability}
use Rattle.vortex_dtype.specs.declared.nullability.Nullability.TheVariants.{NonNullable, Nullable}
use Rattle.vortex_dtype.specs.declared.ptype.PType.{PType}
use Rattle.vortex_dtype.specs.declared.ptype.PType.TheVariants.{U8, U16, U32, U64, I8, I16, I32, I64}
use Rattle.vortex_pvalue.specs.Numbers.{in_range}
use Rattle.vortex_pvalue.specs.RangeLaws.{in_range_back, in_range_true}
use Rattle.vortex_row.specs.Decoded.{IsValueOf}
use Rattle.vortex_row.specs.Held.{AreBytes, IsWhole}
use Rattle.vortex_row.proofs.ByteLaws.{bytes_after, bytes_first, bytes_rest, no_bytes}
use Rattle.statistics_bytes.specs.Encoding.{AreOf, IsBoundOf, encoding}
use Rattle.statistics_bytes.specs.EncodingAnswers.{ReadsAs}
use Rattle.statistics_bytes.specs.Pieces.{Says, nothing_known}
use Rattle.vortex_statistics.specs.Statistics.{Known, KnownBound}
use Rattle.vortex_statistics.specs.declared.error.StatisticsError.{StatisticsError}
use Rattle.vortex_statistics.specs.declared.error.StatisticsError.TheVariants.{OutOfMemory}
use Rattle.vortex_value.specs.TypesWithin.{HasNoVariant}
use Rattle.vortex_value.specs.Values.Content.{Content, content, null, sequence, string, tagged, text, truth, typed as of_type, whole}
use Rattle.vortex_value.specs.Values.RawTree.{RawTree, absent, raw_bool, raw_bytes, raw_integer, raw_text, raw_tuple, raw_union, raw_variant}
use Rattle.record_search.specs.Decoding.{are_bytes, are_of, bound_in, count_fits, has_bound, has_content, has_stored, encoded_in, said_by, statistics_in}
use Rattle.record_search.specs.Laws.{PiecesAreRead}
use Rattle.record_search.proofs.Decoded.{IsFlat, IsFlatBound, IsFlatKnown, said_encoding}

-- ---- bytes and numbers

bytes_from : (bs : List ℕ) → are_bytes bs ≡ true → AreBytes bs
bytes_from [] h = no_bytes
bytes_from (b ∷ bs) h = let p = and_parts (nat_lt b 256) (are_bytes bs) h in bytes_after b bs (ltb-true b 256 p.0) (bytes_from bs p.1)

bytes_to : (bs : List ℕ) → AreBytes bs → are_bytes bs ≡ true
bytes_to [] h = refl
bytes_to (b ∷ bs) h = and_from (nat_lt b 256) (are_bytes bs) (lt-ltb b 256 (bytes_first b bs h)) (bytes_to bs (bytes_rest b bs h))

whole_held : (k : PType) (z : ℤ) → in_range k z ≡ true → IsWhole z
whole_held U8 (pos n) h = let lt = ltb-true n (2 ^ 8) h in omega arith
whole_held U16 (pos n) h = let lt = ltb-true n (2 ^ 16) h in omega arith
whole_held U32 (pos n) h = let lt = ltb-true n (2 ^ 32) h in omega arith
whole_held U64 (pos n) h = ltb-true n (2 ^ 64) h
whole_held I8 (pos n) h = let lt = ltb-true n (2 ^ 7) h in omega arith
whole_held I16 (pos n) h = let lt = ltb-true n (2 ^ 15) h in omega arith
whole_held I32 (pos n) h = let lt = ltb-true n (2 ^ 31) h in omega arith
whole_held I64 (pos n) h = let lt = ltb-true n (2 ^ 63) h in omega arith
whole_held U8 (negsuc n) h = absurd cc
whole_held U16 (negsuc n) h = absurd cc
whole_held U32 (negsuc n) h = absurd cc
whole_held U64 (negsuc n) h = absurd cc
whole_held I8 (negsuc n) h = let lt = ltb-true n (2 ^ 7) h in omega arith
whole_held I16 (negsuc n) h = let lt = ltb-true n (2 ^ 15) h in omega arith
whole_held I32 (negsuc n) h = let lt = ltb-true n (2 ^ 31) h in omega arith
whole_held I64 (negsuc n) h = ltb-true n (2 ^ 63) h

-- ---- the contents of a column

-- a value of the type with this content
pub record IsValue (t : TypeTree) (c : Content) : Type 0 where
  pub value : RawTree
  pub is_value : IsValueOf t value
  pub is : c ≡ content value

-- values of an extension over a storage
stored_null : (id metadata : List ℕ) (k : StorageType) → IsValue (extension_type id metadata (storage_tree k Nullable)) null
stored_null id metadata stores.I32 = record { value = absent; is_value = record { valid = refl; held = tt }; is = refl }
stored_null id metadata stores.I64 = record { value = absent; is_value = record { valid = refl; held = tt }; is = refl }
stored_null id metadata stores.Bytes = record { value = absent; is_value = record { valid = refl; held = tt }; is = refl }

stored_value : (id metadata : List ℕ) (k : StorageType) (n : Nullability) (c : Content) → has_stored k c ≡ true → IsValue (extension_type id metadata (storage_tree k n)) c
stored_value id metadata stores.I32 n (whole z) h = record { value = raw_integer I32 z; is_value = record { valid = (refl, in_range_back I32 z h); held = whole_held I32 z h }; is = refl }
stored_value id metadata stores.I64 n (whole z) h = record { value = raw_integer I64 z; is_value = record { valid = (refl, in_range_back I64 z h); held = whole_held I64 z h }; is = refl }
stored_value id metadata stores.Bytes n (string bs) h = record { value = raw_bytes bs; is_value = record { valid = tt; held = bytes_from bs h }; is = refl }
stored_value id metadata stores.I32 n _ h = absurd cc
stored_value id metadata stores.I64 n _ h = absurd cc
stored_value id metadata stores.Bytes n _ h = absurd cc

null_stored : (id metadata : List ℕ) (k : StorageType) (n : Nullability) → IsValueOf (extension_type id metadata (storage_tree k n)) absent → n ≡ Nullable
null_stored id metadata stores.I32 n h = h.valid
null_stored id metadata stores.I64 n h = h.valid
null_stored id metadata stores.Bytes n h = h.valid

value_stored : (id metadata : List ℕ) (k : StorageType) (n : Nullability) (v : RawTree) → (v ≡ absent → ⊥) → IsValueOf (extension_type id metadata (storage_tree k n)) v → has_stored k (content v) ≡ true
value_stored id metadata k n absent some h = absurd (some refl)
value_stored id metadata stores.I32 n (raw_integer p z) some h = in_range_true I32 z h.valid.1
value_stored id metadata stores.I64 n (raw_integer p z) some h = in_range_true I64 z h.valid.1
value_stored id metadata stores.Bytes n (raw_bytes bs) some h = bytes_to bs h.held
value_stored id metadata stores.I32 n _ some h = absurd h.valid
value_stored id metadata stores.I64 n _ some h = absurd h.valid
value_stored id metadata stores.Bytes n _ some h = absurd h.valid

flat_stored : (k : StorageType) (c : Content) → has_stored k c ≡ true → IsFlat c
flat_stored stores.I32 (whole z) h = whole_held I32 z h
flat_stored stores.I64 (whole z) h = whole_held I64 z h
flat_stored stores.Bytes (string bs) h = tt
flat_stored stores.I32 _ h = absurd cc
flat_stored stores.I64 _ h = absurd cc
flat_stored stores.Bytes _ h = absurd cc

stored_variant : (id metadata : List ℕ) (k : StorageType) (n : Nullability) → HasNoVariant (extension_type id metadata (storage_tree k n))
stored_variant id metadata stores.I32 n = tt
stored_variant id metadata stores.I64 n = tt
stored_variant id metadata stores.Bytes n = tt

a_null : (kind : Kind) → IsValue (type_by kind Nullable) null
a_null (kinds.Integer k) = record { value = absent; is_value = record { valid = refl; held = tt }; is = refl }
a_null kinds.Utf8 = record { value = absent; is_value = record { valid = refl; held = tt }; is = refl }
a_null kinds.Binary = record { value = absent; is_value = record { valid = refl; held = tt }; is = refl }
a_null kinds.Bytes = record { value = absent; is_value = record { valid = refl; held = tt }; is = refl }
a_null (kinds.Logical l) = stored_null (id_of l) (metadata_of l) (storage_type_of l)

a_number : (k : PType) (n : Nullability) (z : ℤ) → in_range k z ≡ true → IsValue (type_by (kinds.Integer k) n) (whole z)
a_number k n z h = record { value = raw_integer k z; is_value = record { valid = (refl, in_range_back k z h); held = whole_held k z h }; is = refl }

a_text : (n : Nullability) (bs : List ℕ) → (is_utf8 bs && are_bytes bs) ≡ true → IsValue (type_by kinds.Utf8 n) (text bs)
a_text n bs h =
    let p = and_parts (is_utf8 bs) (are_bytes bs) h in
    record { value = raw_text bs; is_value = record { valid = tt; held = (bytes_from bs p.1, IsUtf8-from_is_utf8 bs p.0) }; is = refl }

a_string : (n : Nullability) (bs : List ℕ) → are_bytes bs ≡ true → IsValue (type_by kinds.Binary n) (string bs)
a_string n bs h = record { value = raw_bytes bs; is_value = record { valid = tt; held = bytes_from bs h }; is = refl }

content_value : (kind : Kind) (n : Nullability) (c : Content) → has_content kind n c ≡ true → IsValue (type_by kind n) c
content_value kind Nullable null h = a_null kind
content_value kind NonNullable null h = absurd cc
content_value (kinds.Integer k) n (whole z) h = a_number k n z h
content_value kinds.Utf8 n (whole z) h = absurd cc
content_value kinds.Binary n (whole z) h = absurd cc
content_value kinds.Bytes n (whole z) h = absurd cc
content_value (kinds.Integer k) n (text bs) h = absurd cc
content_value kinds.Utf8 n (text bs) h = a_text n bs h
content_value kinds.Binary n (text bs) h = absurd cc
content_value kinds.Bytes n (text bs) h = absurd cc
content_value (kinds.Integer k) n (string bs) h = absurd cc
content_value kinds.Utf8 n (string bs) h = absurd cc
content_value kinds.Binary n (string bs) h = a_string n bs h
content_value kinds.Bytes n (string bs) h = a_string n bs h
content_value (kinds.Integer k) n _ h = absurd cc
content_value kinds.Utf8 n _ h = absurd cc
content_value kinds.Binary n _ h = absurd cc
content_value kinds.Bytes n _ h = absurd cc
content_value (kinds.Logical l) n (truth b) h = stored_value (id_of l) (metadata_of l) (storage_type_of l) n (truth b) h
content_value (kinds.Logical l) n (whole z) h = stored_value (id_of l) (metadata_of l) (storage_type_of l) n (whole z) h
content_value (kinds.Logical l) n (text bs) h = stored_value (id_of l) (metadata_of l) (storage_type_of l) n (text bs) h
content_value (kinds.Logical l) n (string bs) h = stored_value (id_of l) (metadata_of l) (storage_type_of l) n (string bs) h
content_value (kinds.Logical l) n (sequence cs) h = stored_value (id_of l) (metadata_of l) (storage_type_of l) n (sequence cs) h
content_value (kinds.Logical l) n (tagged i c) h = stored_value (id_of l) (metadata_of l) (storage_type_of l) n (tagged i c) h
content_value (kinds.Logical l) n (of_type t c) h = stored_value (id_of l) (metadata_of l) (storage_type_of l) n (of_type t c) h

null_has : (kind : Kind) (n : Nullability) → n ≡ Nullable → has_content kind n null ≡ true
null_has kind Nullable e = refl
null_has kind NonNullable e = absurd cc

value_content : (kind : Kind) (n : Nullability) (v : RawTree) → IsValueOf (type_by kind n) v → has_content kind n (content v) ≡ true
value_content (kinds.Integer k) n absent h = null_has (kinds.Integer k) n h.valid
value_content kinds.Utf8 n absent h = null_has kinds.Utf8 n h.valid
value_content kinds.Binary n absent h = null_has kinds.Binary n h.valid
value_content kinds.Bytes n absent h = null_has kinds.Bytes n h.valid
value_content (kinds.Integer k) n (raw_integer l z) h = in_range_true k z h.valid.1
value_content (kinds.Integer k) n _ h = absurd h.valid
value_content kinds.Utf8 n (raw_text bs) h = and_from (is_utf8 bs) (are_bytes bs) (is_utf8-from_IsUtf8 bs h.held.1) (bytes_to bs h.held.0)
value_content kinds.Utf8 n _ h = absurd h.valid
value_content kinds.Binary n (raw_bytes bs) h = bytes_to bs h.held
value_content kinds.Binary n _ h = absurd h.valid
value_content kinds.Bytes n (raw_bytes bs) h = bytes_to bs h.held
value_content kinds.Bytes n _ h = absurd h.valid
value_content (kinds.Logical l) n absent h = null_has (kinds.Logical l) n (null_stored (id_of l) (metadata_of l) (storage_type_of l) n h)
value_content (kinds.Logical l) n (raw_bool b) h = value_stored (id_of l) (metadata_of l) (storage_type_of l) n (raw_bool b) (λ e. cc) h
value_content (kinds.Logical l) n (raw_integer p z) h = value_stored (id_of l) (metadata_of l) (storage_type_of l) n (raw_integer p z) (λ e. cc) h
value_content (kinds.Logical l) n (raw_text bs) h = value_stored (id_of l) (metadata_of l) (storage_type_of l) n (raw_text bs) (λ e. cc) h
value_content (kinds.Logical l) n (raw_bytes bs) h = value_stored (id_of l) (metadata_of l) (storage_type_of l) n (raw_bytes bs) (λ e. cc) h
value_content (kinds.Logical l) n (raw_tuple vs) h = value_stored (id_of l) (metadata_of l) (storage_type_of l) n (raw_tuple vs) (λ e. cc) h
value_content (kinds.Logical l) n (raw_union i v) h = value_stored (id_of l) (metadata_of l) (storage_type_of l) n (raw_union i v) (λ e. cc) h
value_content (kinds.Logical l) n (raw_variant t v) h = value_stored (id_of l) (metadata_of l) (storage_type_of l) n (raw_variant t v) (λ e. cc) h

pub no_variant : (kind : Kind) (n : Nullability) → HasNoVariant (type_by kind n)
no_variant (kinds.Integer k) n = tt
no_variant kinds.Utf8 n = tt
no_variant kinds.Binary n = tt
no_variant kinds.Bytes n = tt
no_variant (kinds.Logical l) n = stored_variant (id_of l) (metadata_of l) (storage_type_of l) n

flat_content : (kind : Kind) (n : Nullability) (c : Content) → has_content kind n c ≡ true → IsFlat c
flat_content kind n null h = tt
flat_content (kinds.Integer k) n (whole z) h = whole_held k z h
flat_content kinds.Utf8 n (whole z) h = absurd cc
flat_content kinds.Binary n (whole z) h = absurd cc
flat_content kinds.Bytes n (whole z) h = absurd cc
flat_content (kinds.Logical l) n (whole z) h = flat_stored (storage_type_of l) (whole z) h
flat_content (kinds.Logical l) n (truth b) h = flat_stored (storage_type_of l) (truth b) h
flat_content (kinds.Logical l) n (sequence cs) h = flat_stored (storage_type_of l) (sequence cs) h
flat_content (kinds.Logical l) n (tagged i c) h = flat_stored (storage_type_of l) (tagged i c) h
flat_content (kinds.Logical l) n (of_type t c) h = flat_stored (storage_type_of l) (of_type t c) h
flat_content kind n (text bs) h = tt
flat_content kind n (string bs) h = tt
flat_content (kinds.Integer k) n _ h = absurd cc
flat_content kinds.Utf8 n _ h = absurd cc
flat_content kinds.Binary n _ h = absurd cc
flat_content kinds.Bytes n _ h = absurd cc

-- ---- bounds

bound_of : (column : ColumnType) (b : Option KnownBound) → IfSome b (λ b. b.value.typed ≡ column_type column) → has_bound column b ≡ true → IsBoundOf (column_type column) b
bound_of column None typed h = tt
bound_of column (Some b) typed h =
    let v = content_value column.kind column.nullability b.value.content h in
    record { typed = typed; ordered = no_variant column.kind column.nullability; value = v.value; is_value = v.is_value; is = v.is }

bound_has : (column : ColumnType) (b : Option KnownBound) → IsBoundOf (column_type column) b → has_bound column b ≡ true
bound_has column None h = refl
bound_has column (Some b) h = ap (has_content column.kind column.nullability) h.is ∙ value_content column.kind column.nullability h.value h.is_value

bound_flat : (column : ColumnType) (b : Option KnownBound) → IsBoundOf (column_type column) b → has_bound column b ≡ true → IsFlatBound (column_type column) b
bound_flat column None h e = tt
bound_flat column (Some b) h e = (h.typed, flat_content column.kind column.nullability b.value.content e)

bound_typed : (t : TypeTree) (n : ℕ) (bytes : List ℕ) → IfSome (bound_in t n bytes).0 (λ b. b.value.typed ≡ t)
bound_typed t zero bytes = tt
bound_typed t (suc n) bytes = refl

count_from : (n : Option ℕ) → count_fits n ≡ true → IfSome n (λ k. k < 2 ^ 64)
count_from None h = tt
count_from (Some n) h = ltb-true n (2 ^ 64) h

count_to : (n : Option ℕ) → IfSome n (λ k. k < 2 ^ 64) → count_fits n ≡ true
count_to None h = refl
count_to (Some n) h = lt-ltb n (2 ^ 64) h

-- ---- statistics

pub record IsTyped (t : TypeTree) (s : Known) : Type 0 where
  pub lower : IfSome s.lower (λ b. b.value.typed ≡ t)
  pub upper : IfSome s.upper (λ b. b.value.typed ≡ t)

said_typed : (t : TypeTree) (bytes : List ℕ) → IsTyped t (said_by t bytes)
said_typed t bytes = record { lower = bound_typed t _ _; upper = bound_typed t _ _ }

of_column : (column : ColumnType) (s : Known) → IsTyped (column_type column) s → are_of column s ≡ true → AreOf (column_type column) s
of_column column s typed h =
    let p = and_parts (nat_lt s.row_count (2 ^ 64)) _ h in
    let q = and_parts (count_fits s.null_count) _ p.1 in
    let r = and_parts (has_bound column s.lower) _ q.1 in
    record { rows = ltb-true s.row_count (2 ^ 64) p.0; nulls = count_from s.null_count q.0; lower = bound_of column s.lower typed.lower r.0; upper = bound_of column s.upper typed.upper r.1 }

column_has : (column : ColumnType) (s : Known) → AreOf (column_type column) s → are_of column s ≡ true
column_has column s h =
    and_from (nat_lt s.row_count (2 ^ 64)) _ (lt-ltb s.row_count (2 ^ 64) h.rows)
    (and_from (count_fits s.null_count) _ (count_to s.null_count h.nulls) (and_from (has_bound column s.lower) (has_bound column s.upper) (bound_has column s.lower h.lower) (bound_has column s.upper h.upper)))

flat_known : (column : ColumnType) (s : Known) → AreOf (column_type column) s → IsFlatKnown (column_type column) s
flat_known column s h = record { rows = h.rows; nulls = h.nulls; lower = bound_flat column s.lower h.lower (bound_has column s.lower h.lower); upper = bound_flat column s.upper h.upper (bound_has column s.upper h.upper) }

chosen : (b : Bool) (s t : Known) → (if b then Some s else None) ≡ Some t → (b ≡ true) × (s ≡ t)
chosen true s t e = (refl, cc)
chosen false s t e = absurd cc

-- what is read is of the column, and has this encoding
pub record IsReadOf (column : ColumnType) (bytes : List ℕ) (s : Known) : Type 0 where
  pub of : AreOf (column_type column) s
  pub is : bytes ≡ encoding s

read_is : (column : ColumnType) (bytes : List ℕ) (s : Known) → encoded_in column bytes ≡ Some s → IsReadOf column bytes s
read_is column bytes s e =
    let said = said_by (column_type column) bytes in
    let p = chosen (bytes_eq (encoding said) bytes && are_of column said) said s e in
    let q = and_parts (bytes_eq (encoding said) bytes) (are_of column said) p.0 in
    subst (IsReadOf column bytes) p.1 (record { of = of_column column said (said_typed (column_type column) bytes) q.1; is = sym ((bytes_eq-Decides (encoding said) bytes).0 q.0) })

-- these statistics, if the bytes are their encoding and they are of the column
abbrev tested : ColumnType → List ℕ → Known → Option Known
tested column bytes s = if bytes_eq (encoding s) bytes && are_of column s then Some s else None

passed : (b : Bool) (s : Known) → b ≡ true → (if b then Some s else None) ≡ Some s
passed true s e = refl
passed false s e = absurd cc

-- and what has such an encoding is read
is_read : (column : ColumnType) (bytes : List ℕ) (s : Known) → AreOf (column_type column) s → bytes ≡ encoding s → encoded_in column bytes ≡ Some s
is_read column bytes s h e =
    let said : said_by (column_type column) bytes ≡ s = ap (said_by (column_type column)) e ∙ said_encoding (column_type column) s (flat_known column s h) in
    let test : (bytes_eq (encoding s) bytes && are_of column s) ≡ true = and_from (bytes_eq (encoding s) bytes) (are_of column s) ((bytes_eq-Decides (encoding s) bytes).1 (sym e)) (column_has column s h) in
    ap (tested column bytes) said ∙ passed (bytes_eq (encoding s) bytes && are_of column s) s test

-- ---- pieces

first_known : (s t : Known) → Some s ≡ Some t → s ≡ t
first_known s t e = cc

pub said_of : (column : ColumnType) (piece : List ℕ) (s : Known) → statistics_in column piece ≡ Some s → Says (column_type column) piece s
said_of column [] s e = sym (first_known nothing_known s e)
said_of column (b ∷ bytes) s e = let r = read_is column (b ∷ bytes) s e in (r.of, r.is)

pub found_in : (column : ColumnType) (piece : List ℕ) (s : Known) → Says (column_type column) piece s → statistics_in column piece ≡ Some s
found_in column [] s said = ap (λ (t : Known). Some t) (sym said)
found_in column (b ∷ bytes) s said = is_read column (b ∷ bytes) s said.0 said.1

pub pieces_read : PiecesAreRead
pieces_read column piece s = (said_of column piece s, found_in column piece s)

-- what is read of the column's type
pub read_found : (t : TypeTree) (column : ColumnType) (piece : List ℕ) (s : Known) → t ≡ column_type column → Says t piece s → Some s ≡ statistics_in column piece
read_found t column piece s typed said = sym (found_in column piece s (subst (λ (u : TypeTree). Says u piece s) typed said))

-- nothing is read only where nothing is said
pub none_read : (t : TypeTree) (column : ColumnType) (piece : List ℕ) (e : StatisticsError) → t ≡ column_type column → ((s : Known) → Says t piece s → ReadsAs s (Err e)) → ¬ (e ≡ OutOfMemory) → None ≡ statistics_in column piece
none_read t column piece e typed reads other = by_read (statistics_in column piece) refl
  where
    by_read : (o : Option Known) → statistics_in column piece ≡ o → None ≡ o
    by_read None h = refl
    by_read (Some s) h = absurd (other (reads s (subst (λ (u : TypeTree). Says u piece s) (sym typed) (said_of column piece s h))))
