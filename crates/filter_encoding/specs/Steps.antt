-- What the steps of writing and of reading an encoding answer.
use Rattle.std.specs.Prelude.{◌≡◌, ℕ, ◌+◌, ◌-◌, ◌<◌, ◌≤◌, ◌==◌, List, ◌∷◌, ◌++◌, drop, length, Box, Option, Some, None, Result, MatchResult, nat_lt, if◌then◌else◌}
use Rattle.std.specs.Global.{Global}
use Rattle.vortex_dtype.specs.TypeTree.{TypeTree, null_type, bool_type, integer_type, utf8_type, binary_type}
use Rattle.vortex_dtype.specs.TypeOf.{type_of}
use Rattle.vortex_dtype.specs.declared.types.DType.{DType}
use Rattle.vortex_dtype.specs.declared.nullability.Nullability.{Nullability}
use Rattle.vortex_dtype.specs.declared.nullability.Nullability.TheVariants.{NonNullable, Nullable}
use Rattle.vortex_dtype.specs.declared.ptype.PType.TheVariants.{U8, U16, U32, U64, I8, I16, I32, I64}
use Rattle.vortex_value.specs.Size.{capped}
use Rattle.vortex_value.specs.Values.Content.{content, text, string}
use Rattle.vortex_value.specs.Values.RawTree.{RawTree}
use Rattle.vortex_value.specs.Values.Scalars.{scalar_content, scalar_raw, scalar_type}
use Rattle.vortex_value.specs.declared.scalars.Scalar.{Scalar}
use Rattle.vortex_row.specs.Decoded.{IsValueOf}
use Rattle.vortex_row.specs.Held.{IsHeld}
use Rattle.vortex_row.specs.Keys.{key}
use Rattle.vortex_filter.specs.Formula.{Formula, formula}
use Rattle.vortex_filter.specs.declared.filter.Filter.{Filter}
use Rattle.filter_encoding.specs.Encoding.{FirstIn, HasByte, IsFormed, IsLiteral, IsPlain, IsVersion, Nests, byte_string, encoding_in, node_bytes, operator_byte, Prepared, prepared, truth_byte, type_bytes}
use Rattle.filter_encoding.specs.Answers.{IsEncoding}
use Rattle.filter_encoding.specs.Lists.{listed}
use Rattle.filter_encoding.specs.Strings.{HasRead, IsEncodingOf, IsStuck, Reads, Then}
use Rattle.filter_encoding.specs.declared.error.FilterEncodingError.{FilterEncodingError}
use Rattle.filter_encoding.specs.declared.error.FilterEncodingError.TheVariants.{BadBytes, NoEncoding, NotAValue, OutOfMemory}
use Rattle.filter_encoding.specs.declared.heads.Head.{Head}
use Rattle.filter_encoding.specs.declared.heads.Head.TheVariants.{Constant, Compare, IsNull, In, Between, StartsWith, Like, And, Or, Not}
use Rattle.filter_encoding.specs.declared.literals.Found.{Found}
use Rattle.filter_encoding.specs.declared.literals.Found.TheVariants.{NoMemory, Value, Wrong}
use Rattle.filter_encoding.specs.declared.prepared.PreparedFilter.{PreparedFilter}
use Rattle.filter_encoding.specs.declared.reader.FilterDecodeError.{FilterDecodeError}
use Rattle.filter_encoding.specs.declared.reader.FilterDecodeError.TheVariants.{Bad}
use Rattle.filter_encoding.specs.declared.values.NoValue.{NoValue}

-- ---- types

-- the plain type with this code, other than that of nulls
abbrev pub plain_at : ℕ → Nullability → Option TypeTree
plain_at code n =
    if code == 0 then Some (integer_type U8 n) else
    if code == 1 then Some (integer_type U16 n) else
    if code == 2 then Some (integer_type U32 n) else
    if code == 3 then Some (integer_type U64 n) else
    if code == 4 then Some (integer_type I8 n) else
    if code == 5 then Some (integer_type I16 n) else
    if code == 6 then Some (integer_type I32 n) else
    if code == 7 then Some (integer_type I64 n) else
    if code == 8 then Some (bool_type n) else
    if code == 9 then Some (utf8_type n) else
    if code == 11 then Some (binary_type n) else None

-- the type with this byte
abbrev pub type_at : ℕ → Option TypeTree
type_at byte =
    if byte == 29 then Some null_type else
    if nat_lt byte 16 then plain_at byte NonNullable else plain_at (byte - 16) Nullable

-- ---- first bytes

-- the first byte of a filter of this kind
abbrev pub head_byte : Head → ℕ
head_byte (Constant t) = truth_byte t
head_byte (Compare op) = operator_byte op
head_byte IsNull = 9
head_byte In = 10
head_byte Between = 11
head_byte StartsWith = 12
head_byte Like = 16
head_byte And = 13
head_byte Or = 14
head_byte Not = 15

-- a filter of this kind may stand where so many connectives may still nest
abbrev pub MayBegin : ℕ → Head → Type 0
MayBegin n And = 0 < n
MayBegin n Or = 0 < n
MayBegin n Not = 0 < n
MayBegin n _ = Unit {0}

-- ---- reading

-- a filter in which at most n connectives nest
abbrev pub IsNode : ℕ → Formula → Type 0
IsNode = Nests IsLiteral

-- the encoding of such a filter
abbrev pub IsNodeEncoding : ℕ → List ℕ → Type 0
IsNodeEncoding n = IsEncodingOf node_bytes (IsNode n)

-- two such filters are read, or memory is refused, or the bytes go on as no two
abbrev pub ReadsBoth : ℕ → Result (Box Filter Global × Box Filter Global) FilterDecodeError → List ℕ → List ℕ → Type 0
ReadsBoth n r old now =
    MatchResult r
    (λ p. (IsNode n (formula p.0.value) × IsNode n (formula p.1.value)) × (old ≡ node_bytes (formula p.0.value) ++ (node_bytes (formula p.1.value) ++ now)))
    (λ e. e ≡ Bad → IsStuck (Then (IsNodeEncoding n) (IsNodeEncoding n)) old now)

-- the key of a value of the type
pub record IsKeyOfType (t : TypeTree) (bs : List ℕ) : Type 0 where
  pub value : RawTree
  pub is_value : IsValueOf t value
  pub is : bs ≡ key (content value)

-- what bytes begin with that should be the key of a value of the type: such a key, or where none goes on
abbrev pub IsFound : TypeTree → List ℕ → Found → Type 0
IsFound t bytes (Value x n) = (n ≤ length bytes) × (scalar_type x ≡ t) × IsValueOf t (scalar_raw x) × (bytes ≡ key (scalar_content x) ++ drop n bytes)
IsFound t bytes (Wrong place) = (place ≤ length bytes) × IsStuck (IsKeyOfType t) bytes (drop place bytes)
IsFound t bytes NoMemory = Unit {0}

-- a value of the type is read by its key, or memory is refused, or the bytes go on as no such key
abbrev pub ReadsKey : TypeTree → Result Scalar FilterDecodeError → List ℕ → List ℕ → Type 0
ReadsKey t r old now =
    MatchResult r (λ x. (scalar_type x ≡ t) × IsValueOf t (scalar_raw x) × (old ≡ key (scalar_content x) ++ now)) (λ e. e ≡ Bad → IsStuck (IsKeyOfType t) old now)

-- a string is read by its key, or memory is refused, or the bytes go on as no such key
abbrev pub ReadsText : Result (List ℕ) FilterDecodeError → List ℕ → List ℕ → Type 0
ReadsText r old now = MatchResult r (λ s. IsHeld (text s) × (old ≡ key (text s) ++ now)) (λ e. e ≡ Bad → IsStuck (IsKeyOfType (utf8_type NonNullable)) old now)

-- and bytes
abbrev pub ReadsBytes : Result (List ℕ) FilterDecodeError → List ℕ → List ℕ → Type 0
ReadsBytes r old now = MatchResult r (λ s. IsHeld (string s) × (old ≡ key (string s) ++ now)) (λ e. e ≡ Bad → IsStuck (IsKeyOfType (binary_type NonNullable)) old now)

-- a type is read by its byte, or memory is refused, or the bytes go on as none
abbrev pub ReadsByte : Result DType FilterDecodeError → List ℕ → List ℕ → Type 0
ReadsByte r old now = Reads byte_string HasByte type_of r old now

-- a type is read, or memory is refused, or the bytes go on as none
abbrev pub ReadsType : Result DType FilterDecodeError → List ℕ → List ℕ → Type 0
ReadsType r old now = Reads type_bytes IsPlain type_of r old now

-- an encoding is read in some version, or memory is refused, or the bytes go on as none
abbrev pub ReadsEncoding : ℕ → Result PreparedFilter FilterDecodeError → List ℕ → List ℕ → Type 0
ReadsEncoding n r old now = MatchResult r (λ p. (version : ℕ) × IsVersion version × HasRead (encoding_in version) (IsFormed n) (prepared p) old now) (λ e. e ≡ Bad → IsStuck (IsEncoding n) old now)

-- a filter with this first byte, which was taken, is read, or memory is refused, or the bytes go on as none
abbrev pub ReadsBehind : ℕ → ℕ → Result Filter FilterDecodeError → List ℕ → List ℕ → Type 0
ReadsBehind head n r old now = Reads node_bytes (IsNode n) formula r (head ∷ old) now

-- each literal of what has so many bytes, from an offset on, is a value of its logical type, and the offset behind it is given;
-- or else that of the first that is none
abbrev pub Passes : Type 0 → (count offset : ℕ) → (ℕ → Type 0) → Result ℕ NoValue → Type 0
Passes all count offset At r = MatchResult r (λ end. all × (end ≡ capped (offset + count))) (λ e. (n : ℕ) × (e.offset ≡ capped (offset + n)) × At n)

-- e tells the first literal of a prepared filter that is no value of its logical type
abbrev pub IsNoValueOf : Prepared → FilterEncodingError → Type 0
IsNoValueOf p (NotAValue offset) = (n : ℕ) × (offset ≡ capped (1 + length (listed type_bytes p.types) + n)) × FirstIn p.filter n
IsNoValueOf p _ = ⊥

-- ---- writing

-- what was written begins with what was there
pub record Begins (old now : List ℕ) : Type 0 where
  pub more : List ℕ
  pub is : now ≡ old ++ more

-- why nothing was written that is allowed so
abbrev pub IsRefused : Type 0 → FilterEncodingError → Type 0
IsRefused allowed OutOfMemory = Unit {0}
IsRefused allowed NoEncoding = ¬ allowed
IsRefused allowed (BadBytes place) = ⊥
IsRefused allowed (NotAValue place) = ⊥

-- the bytes are appended, and so much is known; or some bytes are, and there is no memory, or it is not allowed
abbrev pub Appends : (known allowed : Type 0) → List ℕ → Result Unit FilterEncodingError → List ℕ → List ℕ → Type 0
Appends known allowed bytes r old now = MatchResult r (λ u. known × (now ≡ old ++ bytes)) (λ e. IsRefused allowed e × Begins old now)

-- the bytes are appended, and that is allowed; or some bytes are, and there is no memory, or it is not allowed
abbrev pub Writes : Type 0 → List ℕ → Result Unit FilterEncodingError → List ℕ → List ℕ → Type 0
Writes allowed bytes r old now = Appends allowed allowed bytes r old now
