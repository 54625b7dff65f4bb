-- How long the encoding of two pieces is, and the bytes of a bound.
use Rattle.std.proofs.Common.{◌≡◌, ◌≤◌, ◌+◌, ◌^◌, ℕ, zero, suc, Bool, true, false, List, [], ◌∷◌, ◌++◌, length, length-append, Option, Some, None, Ordering, if◌then◌else◌, nat_lt, arith, ap, refl, ◌∙◌}
use Rattle.std.specs.declared.cmp.Ordering.TheVariants.{Less, Equal, Greater}
use Rattle.arrow_columns.specs.Integers.{width_of}
use Rattle.arrow_columns.specs.declared.kinds.IntegerKind.{IntegerKind}
use Rattle.arrow_columns.specs.declared.kinds.IntegerKind.TheVariants.{I16, I32, I64, I8, U16, U32, U64, U8}
use Rattle.arrow_columns.specs.declared.kinds.Kind.{Kind}
use Rattle.arrow_columns.specs.declared.kinds.Kind.TheVariants.{Binary, Boolean, Integer, LargeBinary, LargeUtf8, Logical, Utf8}
use Rattle.arrow_columns.specs.Formats.{items_of}
use Rattle.arrow_columns.specs.Integers.{width_of_item}
use Rattle.arrow_columns.specs.declared.formats.DecimalWidth.TheVariants.{Bits32, Bits64, Bits128}
use Rattle.arrow_columns.specs.declared.formats.Format.{Format}
use Rattle.arrow_columns.specs.declared.formats.Format.TheVariants as formats
use Rattle.column_cells.specs.Types.{type_of_kind}
use Rattle.logical_types.specs.declared.times.TimeUnit.TheVariants.{Seconds, Milliseconds, Microseconds, Nanoseconds}
use Rattle.named_statistics.specs.Heads.{head_of}
use Rattle.named_statistics.specs.Named.{named_encoding}
use Rattle.vortex_dtype.specs.TypeTree.{TypeTree}
use Rattle.vortex_value.specs.Values.Content.{Content, null, sequence, string, tagged, text, truth, typed, whole}
use Rattle.vortex_row.specs.Keys.{escaped, key}
use Rattle.vortex_cells.specs.Cells.{cell_order, order_from_above}
use Rattle.statistics_bytes.specs.Encoding.{bound_bytes, count_bytes, encoding, flags, known_count_bytes}
use Rattle.vortex_statistics.specs.Merging.{bound_of_both, bound_order, merged, outer_by, sum_of}
use Rattle.vortex_statistics.specs.Statistics.{Known, KnownBound, may_be_value}
use Rattle.column_statistics.specs.Encodings.{IsEncodingAs, IsMergedEncoding}
use Rattle.column_statistics.specs.Items.{IsItemOf}
use Rattle.vortex_c.specs.Parts.{AreParts, IsBoundTold, IsValueTold, SufficesFor, room_of}
use Rattle.vortex_c.specs.declared.parts.StatisticsParts.{StatisticsParts}

-- ---- the encoding of two pieces

-- eight bytes, if the count is known
nulls_short : (m n : Option ℕ) → length (known_count_bytes (sum_of m n)) ≤ length (known_count_bytes m)
nulls_short None n = omega arith
nulls_short (Some m) None = omega arith
nulls_short (Some m) (Some n) = by_test (nat_lt (m + n) (2 ^ 64))
  where
    by_test : (b : Bool) → length (known_count_bytes (if b then Some (m + n) else None)) ≤ length (count_bytes m)
    by_test true = let same : length (count_bytes (m + n)) ≡ length (count_bytes m) = refl in omega (arith, same)
    by_test false = omega arith

outer_short : (o : Option Ordering) (a b : Option KnownBound) → length (bound_bytes (outer_by o a b)) ≤ length (bound_bytes a) + length (bound_bytes b)
outer_short None a b = omega arith
outer_short (Some Less) a b = omega arith
outer_short (Some Greater) a b = omega arith
outer_short (Some Equal) None b = omega arith
outer_short (Some Equal) (Some a) None = omega arith
outer_short (Some Equal) (Some a) (Some b) = omega arith

bound_short : (o : Option Ordering) (p q : Bool) (a b : Option KnownBound) → length (bound_bytes (bound_of_both o p q a b)) ≤ length (bound_bytes a) + length (bound_bytes b)
bound_short o true true a b = outer_short o a b
bound_short o true false a b = omega arith
bound_short o false true a b = omega arith
bound_short o false false None b = omega arith
bound_short o false false (Some a) b = omega arith

encoding_length : (s : Known) → length (encoding s) ≡ 10 + (length (known_count_bytes s.null_count) + (length (bound_bytes s.lower) + length (bound_bytes s.upper)))
encoding_length s =
    let front : length (1 ∷ flags s ∷ count_bytes s.row_count) ≡ 10 = refl in
    omega (
      arith,
      front,
      length-append (1 ∷ flags s ∷ count_bytes s.row_count) (known_count_bytes s.null_count ++ (bound_bytes s.lower ++ bound_bytes s.upper)),
      length-append (known_count_bytes s.null_count) (bound_bytes s.lower ++ bound_bytes s.upper),
      length-append (bound_bytes s.lower) (bound_bytes s.upper),
    )

both_short : (s u : Known) → length (encoding (merged s u)) ≤ length (encoding s) + length (encoding u)
both_short s u =
    omega (
      arith,
      encoding_length (merged s u),
      encoding_length s,
      encoding_length u,
      nulls_short s.null_count u.null_count,
      bound_short (bound_order cell_order s.lower u.lower) (may_be_value s) (may_be_value u) s.lower u.lower,
      bound_short (bound_order order_from_above s.upper u.upper) (may_be_value s) (may_be_value u) s.upper u.upper,
    )

named_length : (t : TypeTree) (s : Known) → length (named_encoding t s) ≡ length (head_of t) + length (encoding s)
named_length t s = length-append (head_of t) (encoding s)

pub merged_short : (kind : Kind) (one other bytes : List ℕ) → IsMergedEncoding kind one other bytes → length bytes ≤ length one + length other
merged_short kind one other bytes h =
    let t : TypeTree = type_of_kind kind in
    omega (arith, ap length h.both.is_encoding.is, ap length h.is_first.is_encoding.is, ap length h.is_second.is_encoding.is, both_short h.first h.second, named_length t (merged h.first h.second), named_length t h.first, named_length t h.second)

-- ---- the bytes of a bound

escaped_long : (bs : List ℕ) → length bs ≤ length (escaped bs)
escaped_long [] = omega arith
escaped_long (zero ∷ bs) = omega (arith, escaped_long bs)
escaped_long (suc zero ∷ bs) = omega (arith, escaped_long bs)
escaped_long (suc (suc b) ∷ bs) = omega (arith, escaped_long bs)

eight_at_most : (k : IntegerKind) → width_of k ≤ 8
eight_at_most U8 = omega arith
eight_at_most U16 = omega arith
eight_at_most U32 = omega arith
eight_at_most U64 = omega arith
eight_at_most I8 = omega arith
eight_at_most I16 = omega arith
eight_at_most I32 = omega arith
eight_at_most I64 = omega arith

value_width : (format : Format) → width_of_item (items_of format) ≤ room_of (Some (Logical format))
value_width formats.Float32 = omega arith
value_width formats.Float64 = omega arith
value_width formats.Date32 = omega arith
value_width (formats.Time Seconds) = omega arith
value_width (formats.Time Milliseconds) = omega arith
value_width (formats.Time Microseconds) = omega arith
value_width (formats.Time Nanoseconds) = omega arith
value_width (formats.Timestamp unit is_zoned) = omega arith
value_width (formats.Decimal Bits32 precision scale) = omega arith
value_width (formats.Decimal Bits64 precision scale) = omega arith
value_width (formats.Decimal Bits128 precision scale) = omega arith

item_within : (kind : Kind) (x : Content) (bytes : List ℕ) (n : ℕ) → room_of (Some kind) ≤ n → length (key x) ≤ n → IsItemOf kind x bytes → length bytes ≤ n
item_within (Integer k) (whole z) bytes n eight long h = omega (arith, h.0, eight_at_most k, eight)
item_within Boolean (truth b) bytes n eight long h = omega (arith, ap length h, eight)
item_within Utf8 (text s) bytes n eight long h = omega (arith, ap length h, escaped_long s, long)
item_within LargeUtf8 (text s) bytes n eight long h = omega (arith, ap length h, escaped_long s, long)
item_within Binary (string s) bytes n eight long h = omega (arith, ap length h, escaped_long s, long)
item_within LargeBinary (string s) bytes n eight long h = omega (arith, ap length h, escaped_long s, long)
item_within (Logical format) x bytes n eight long h = omega (arith, h.0, value_width format, eight)
item_within _ _ bytes n eight long h = absurd h

value_within : (kind : Kind) (x : Content) (exact is_there is_exact : Bool) (item : List ℕ) (n : ℕ) → room_of (Some kind) ≤ n → length (key x) ≤ n → IsValueTold kind x exact is_there is_exact item → length item ≤ n
value_within kind null exact is_there is_exact item n eight long told = omega (arith, ap length told.2)
value_within kind (truth b) exact is_there is_exact item n eight long told = item_within kind (truth b) item n eight long told.2
value_within kind (whole z) exact is_there is_exact item n eight long told = item_within kind (whole z) item n eight long told.2
value_within kind (text s) exact is_there is_exact item n eight long told = item_within kind (text s) item n eight long told.2
value_within kind (string s) exact is_there is_exact item n eight long told = item_within kind (string s) item n eight long told.2
value_within kind (sequence cs) exact is_there is_exact item n eight long told = item_within kind (sequence cs) item n eight long told.2
value_within kind (tagged id c) exact is_there is_exact item n eight long told = item_within kind (tagged id c) item n eight long told.2
value_within kind (typed t c) exact is_there is_exact item n eight long told = item_within kind (typed t c) item n eight long told.2

bound_within : (kind : Kind) (b : Option KnownBound) (is_there is_exact : Bool) (item : List ℕ) (n : ℕ) → room_of (Some kind) ≤ n → length (bound_bytes b) ≤ n → IsBoundTold kind b is_there is_exact item → length item ≤ n
bound_within kind None is_there is_exact item n eight long told = omega (arith, ap length told.2)
bound_within kind (Some b) is_there is_exact item n eight long told = value_within kind b.value.content b.is_exact is_there is_exact item n eight long told

-- the bounds have no more bytes than such buffers
pub bounds_fit : (t : TypeTree) (kind : Kind) (s : Known) (bytes lower_buffer upper_buffer lower upper : List ℕ) (p : StatisticsParts) → IsEncodingAs t bytes s → AreParts kind s lower upper p
    → SufficesFor (Some kind) bytes lower_buffer → SufficesFor (Some kind) bytes upper_buffer → (p.lower_length ≤ length lower_buffer) × (p.upper_length ≤ length upper_buffer)
bounds_fit t kind s bytes lower_buffer upper_buffer lower upper p h parts one other =
    let long : length bytes ≡ length (head_of t) + length (encoding s) = ap length h.is ∙ named_length t s in
    let of_lower : length (bound_bytes s.lower) ≤ length lower_buffer = omega (arith, long, encoding_length s, one.1) in
    let of_upper : length (bound_bytes s.upper) ≤ length upper_buffer = omega (arith, long, encoding_length s, other.1) in (
      omega (arith, parts.lower_length, bound_within kind s.lower p.has_lower p.lower_is_exact lower (length lower_buffer) one.0 of_lower parts.lower_bound),
      omega (arith, parts.upper_length, bound_within kind s.upper p.has_upper p.upper_is_exact upper (length upper_buffer) other.0 of_upper parts.upper_bound),
    )
