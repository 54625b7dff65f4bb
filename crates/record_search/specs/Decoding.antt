-- The statistics whose encoding bytes are, computed.
use Rattle.std.specs.Prelude.{◌==◌, ◌&&◌, ◌+◌, ◌*◌, ◌-◌, ◌/◌, ◌%◌, ◌^◌, ℕ, zero, suc, pos, negsuc, List, [], ◌∷◌, length, take, drop, slice_index, nat_lt, Bool, true, false, Option, None, Some, if◌then◌else◌}
use Rattle.std.specs.List.{list_all}
use Rattle.std.specs.Int.{w64, from_le_bytes}
use Rattle.std.specs.Str.{bytes_eq, is_utf8}
use Rattle.logical_types.specs.Extensions.{storage_type_of}
use Rattle.logical_types.specs.declared.extensions.StorageType.{StorageType}
use Rattle.logical_types.specs.declared.extensions.StorageType.TheVariants.{Bytes, I32, I64}
use Rattle.record_rows.specs.Cells.{column_type}
use Rattle.record_rows.specs.declared.schema.ColumnType.{ColumnType}
use Rattle.record_rows.specs.declared.schema.Kind.{Kind}
use Rattle.record_rows.specs.declared.schema.Kind.TheVariants as kinds
use Rattle.vortex_dtype.specs.TypeTree.{TypeTree, says_nullable}
use Rattle.vortex_dtype.specs.declared.nullability.Nullability.{Nullability}
use Rattle.vortex_dtype.specs.declared.ptype.PType.TheVariants as ptypes
use Rattle.vortex_pvalue.specs.Numbers.{in_range}
use Rattle.vortex_row.specs.Keys.{inverted}
use Rattle.statistics_bytes.specs.Encoding.{encoding}
use Rattle.statistics_bytes.specs.Pieces.{nothing_known}
use Rattle.vortex_statistics.specs.Statistics.{Known, KnownBound}
use Rattle.vortex_value.specs.Values.Content.{Content, null, string, text, whole}

-- ---- what the bytes of a key say

-- the number that bytes are, after one that was read, the highest first
abbrev pub number_after : ℕ → List ℕ → ℕ
number_after n [] = n
number_after n (b ∷ bs) = number_after (n * 256 + b) bs

abbrev pub byte_before : ℕ → List ℕ × List ℕ → List ℕ × List ℕ
byte_before b read = (b ∷ read.0, read.1)

-- an escaped string, and what follows it; whether its first byte stands after a 1
abbrev pub unescaped : Bool → List ℕ → List ℕ × List ℕ
unescaped after_one [] = ([], [])
unescaped true (b ∷ rest) = byte_before (b - 1) (unescaped false rest)
unescaped false (zero ∷ rest) = ([], rest)
unescaped false (suc zero ∷ rest) = unescaped true rest
unescaped false (suc (suc b) ∷ rest) = byte_before (suc (suc b)) (unescaped false rest)

-- the content whose key the bytes begin with, and what follows it
abbrev pub content_in : List ℕ → Content × List ℕ
content_in [] = (null, [])
content_in (b ∷ rest) =
    if b == 1 then (null, rest)
    else if b == 21 then (let s = unescaped false rest in (text s.0, s.1))
    else if b == 22 then (let s = unescaped false rest in (string s.0, s.1))
    else if nat_lt b 12 then (whole (negsuc (number_after 0 (inverted true (take (12 - b) rest)) - 1)), drop (12 - b) rest)
    else (whole (pos (number_after 0 (take (b - 12) rest))), drop (b - 12) rest)

-- ---- what the bytes of an encoding say, if they are one

-- a bound of which two bits say whether it is there, and exact
abbrev pub bound_in : TypeTree → ℕ → List ℕ → Option KnownBound × List ℕ
bound_in t zero bytes = (None, bytes)
bound_in t (suc n) bytes = (let c = content_in bytes in (Some (record { value = record { typed = t; content = c.0 }; is_exact = n == 2 }), c.1))

-- a count that may be missing
abbrev pub count_in : ℕ → List ℕ → Option ℕ × List ℕ
count_in zero bytes = (None, bytes)
count_in (suc n) bytes = (Some (number_after 0 (take 8 bytes)), drop 8 bytes)

abbrev pub said_by : TypeTree → List ℕ → Known
said_by t bytes =
    let flags = slice_index bytes 1 in
    let nulls = count_in (flags % 2) (drop 10 bytes) in
    let lower = bound_in t (flags / 2 % 4) nulls.1 in
    let upper = bound_in t (flags / 8) lower.1 in
    record { row_count = number_after 0 (take 8 (drop 2 bytes)); null_count = nulls.0; lower = lower.0; upper = upper.0 }

-- ---- the statistics of a column

abbrev pub are_bytes : List ℕ → Bool
are_bytes bs = list_all (λ b. nat_lt b 256) bs

-- whether the content is one of such storages
abbrev pub has_stored : StorageType → Content → Bool
has_stored I32 (whole z) = in_range ptypes.I32 z
has_stored I64 (whole z) = in_range ptypes.I64 z
has_stored Bytes (string bs) = are_bytes bs
has_stored kind c = false

-- whether a column has this content
abbrev pub has_content : Kind → Nullability → Content → Bool
has_content kind n null = says_nullable n
has_content (kinds.Integer ptype) n (whole z) = in_range ptype z
has_content kinds.Utf8 n (text bs) = is_utf8 bs && are_bytes bs
has_content kinds.Binary n (string bs) = are_bytes bs
has_content kinds.Bytes n (string bs) = are_bytes bs
has_content (kinds.Logical logical) n c = has_stored (storage_type_of logical) c
has_content kind n c = false

abbrev pub has_bound : ColumnType → Option KnownBound → Bool
has_bound column None = true
has_bound column (Some b) = has_content column.kind column.nullability b.value.content

abbrev pub count_fits : Option ℕ → Bool
count_fits None = true
count_fits (Some n) = nat_lt n (2 ^ 64)

-- whether the counts are of 64 bits, and the bounds values of the column
abbrev pub are_of : ColumnType → Known → Bool
are_of column s = nat_lt s.row_count (2 ^ 64) && (count_fits s.null_count && (has_bound column s.lower && has_bound column s.upper))

-- the statistics of a column whose encoding the bytes are, if they are one
abbrev pub encoded_in : ColumnType → List ℕ → Option Known
encoded_in column bytes =
    let s = said_by (column_type column) bytes in
    if bytes_eq (encoding s) bytes && are_of column s then Some s else None

-- what a piece says of a column, if it says any: nothing is known if it is empty
abbrev pub statistics_in : ColumnType → List ℕ → Option Known
statistics_in column [] = Some nothing_known
statistics_in column (b ∷ bytes) = encoded_in column (b ∷ bytes)

-- ---- the statistics of all columns

abbrev pub piece_of : ℕ → List ℕ → Option (List ℕ × List ℕ)
piece_of n bytes = if nat_lt (length bytes) n then None else Some (take n bytes, drop n bytes)

-- the bytes after their length, and what follows them
abbrev pub piece_in : List ℕ → Option (List ℕ × List ℕ)
piece_in bytes = if nat_lt (length bytes) 8 then None else piece_of (from_le_bytes w64 (take 8 bytes)) (drop 8 bytes)

abbrev pub known_before : Option Known → Option (List Known) → Option (List Known)
known_before (Some s) (Some ss) = Some (s ∷ ss)
known_before (Some s) None = None
known_before None ss = None

abbrev pub after_piece : ColumnType → Option (List ℕ × List ℕ) → (List ℕ → Option (List Known)) → Option (List Known)
after_piece column None others = None
after_piece column (Some piece) others = known_before (statistics_in column piece.0) (others piece.1)

-- what the pieces of each column say, each after its length, and nothing else
abbrev pub columns_in : List ColumnType → List ℕ → Option (List Known)
columns_in [] bytes = if length bytes == 0 then Some [] else None
columns_in (c ∷ cs) bytes = after_piece c (piece_in bytes) (λ rest. columns_in cs rest)
