-- What Rust values give as raw values, and what Rust types take from a type and a raw value. A value that was taken is
-- named by the raw value that it gives.
use Rattle.std.specs.Prelude.{◌≡◌, ◌≤◌, ⊤, ℕ, ℤ, pos, Option, Some, None, Result, Ok, Err, if◌then◌else◌, length, IsOk, IsOkAnd, IsErrAnd, MatchResult}
use Rattle.vortex_dtype.specs.PTypes.{same_ptype}
use Rattle.vortex_dtype.specs.TypeTree.{TypeTree, bool_type, integer_type, utf8_type, binary_type, list_type, fixed_size_list_type}
use Rattle.vortex_dtype.specs.declared.buffer.TheConstants.{INLINE_BYTES}
use Rattle.vortex_dtype.specs.declared.error.VortexError.{VortexError}
use Rattle.vortex_dtype.specs.declared.error.VortexError.TheVariants.{OutOfMemory, WrongKind, OutOfRange, WrongPType, IsNull}
use Rattle.vortex_dtype.specs.declared.ptype.PType.{PType}
use Rattle.vortex_dtype.specs.declared.ptype.PType.TheVariants.{U64}
use Rattle.vortex_pvalue.specs.Numbers.{in_range}
use Rattle.vortex_value.specs.Values.RawTree.{RawTree, absent, raw_bool, raw_integer, raw_text, raw_bytes, raw_tuple, RawTrees, no_raws, raw_then}
use Rattle.vortex_value.specs.Values.Scalars.{IsMadeOf, IsValid}
use Rattle.vortex_value.specs.declared.scalars.Scalar.{Scalar}

-- What is given. A bool gives `raw_bool`, a string `raw_text`, bytes `raw_bytes`.

-- an integer gives its number, with the `PType` of its Rust type
abbrev pub given_number : {T : Type 0} → PType → (T → ℤ) → T → RawTree
given_number k number n = raw_integer k (number n)

-- a usize gives its number in 64 bits
abbrev pub given_usize : ℕ → RawTree
given_usize = given_number U64 pos

-- `None` gives the null, and so does each `None` inside
abbrev pub given_option : {T : Type 0} → (T → RawTree) → Option T → RawTree
given_option given None = absent
given_option given (Some x) = given x

-- y is the valid scalar of this type and raw value
abbrev pub IsMadeValid : TypeTree → RawTree → Scalar → Type 0
IsMadeValid t v y = IsMadeOf t v y × IsValid y

-- What is taken: the raw value that it gives, or the refusal.
abbrev pub Taken : Type 0
Taken = Result RawTree VortexError

-- of a raw value that is not null, the truth value
abbrev pub truth_in : RawTree → Taken
truth_in (raw_bool b) = Ok (raw_bool b)
truth_in _ = Err WrongKind

-- the number of any integer, as one of this `PType` if that has it
abbrev pub number_in : PType → RawTree → Taken
number_in k (raw_integer l z) = if in_range k z then Ok (raw_integer k z) else Err OutOfRange
number_in k _ = Err WrongKind

-- the string
abbrev pub text_in : RawTree → Taken
text_in (raw_text bs) = Ok (raw_text bs)
text_in _ = Err WrongKind

-- the bytes
abbrev pub bytes_in : RawTree → Taken
bytes_in (raw_bytes bs) = Ok (raw_bytes bs)
bytes_in _ = Err WrongKind

-- of any raw value: a null is refused, and any other value read so
abbrev pub unless_null : (RawTree → Taken) → RawTree → Taken
unless_null read absent = Err IsNull
unless_null read v = read v

-- a null gives `None`, and another value what is read of it
abbrev pub or_none : (RawTree → Taken) → RawTree → Taken
or_none read absent = Ok absent
or_none read v = read v

-- The table: what each Rust type takes from a type and a raw value.

-- bool: another type, a null, another variant of raw value
abbrev pub taken_bool : TypeTree → RawTree → Taken
taken_bool (bool_type n) v = unless_null truth_in v
taken_bool _ v = Err WrongKind

-- Option<bool>: another type; a null gives `None`; another variant of raw value
abbrev pub taken_option_bool : TypeTree → RawTree → Taken
taken_option_bool (bool_type n) v = or_none truth_in v
taken_option_bool _ v = Err WrongKind

-- an integer of a `PType`, from any type: a null, another variant of raw value, a number that does not fit
abbrev pub taken_number : PType → TypeTree → RawTree → Taken
taken_number k t v = unless_null (number_in k) v

-- an optional one: another type, another integer type, of a null too; a null gives `None`; another variant of raw value,
-- a number that does not fit
abbrev pub taken_option_number : PType → TypeTree → RawTree → Taken
taken_option_number k (integer_type l n) v = if same_ptype l k then or_none (number_in k) v else Err WrongPType
taken_option_number k _ v = Err WrongKind

-- usize: another type, a null, another variant of raw value, a number that does not fit
abbrev pub taken_usize : TypeTree → RawTree → Taken
taken_usize (integer_type l n) v = unless_null (number_in U64) v
taken_usize _ v = Err WrongKind

-- Option<usize>: another type; a null gives `None`; another variant of raw value, a number that does not fit
abbrev pub taken_option_usize : TypeTree → RawTree → Taken
taken_option_usize (integer_type l n) v = or_none (number_in U64) v
taken_option_usize _ v = Err WrongKind

-- a string: another type, a null, another variant of raw value
abbrev pub taken_text : TypeTree → RawTree → Taken
taken_text (utf8_type n) v = unless_null text_in v
taken_text _ v = Err WrongKind

-- an optional string: another type; a null gives `None`; another variant of raw value
abbrev pub taken_option_text : TypeTree → RawTree → Taken
taken_option_text (utf8_type n) v = or_none text_in v
taken_option_text _ v = Err WrongKind

-- bytes: another type, a null, another variant of raw value
abbrev pub taken_bytes : TypeTree → RawTree → Taken
taken_bytes (binary_type n) v = unless_null bytes_in v
taken_bytes _ v = Err WrongKind

-- optional bytes: another type; a null gives `None`; another variant of raw value
abbrev pub taken_option_bytes : TypeTree → RawTree → Taken
taken_option_bytes (binary_type n) v = or_none bytes_in v
taken_option_bytes _ v = Err WrongKind

-- the first and then the rest, if both are taken; else the first refusal
abbrev pub both_taken : Taken → Result RawTrees VortexError → Result RawTrees VortexError
both_taken (Ok v) (Ok vs) = Ok (raw_then v vs)
both_taken (Ok v) (Err e) = Err e
both_taken (Err e) rest = Err e

-- each, in order, or the first refusal
abbrev pub each_taken : (RawTree → Taken) → RawTrees → Result RawTrees VortexError
each_taken read no_raws = Ok no_raws
each_taken read (raw_then v vs) = both_taken (read v) (each_taken read vs)

-- the tuple of what was taken
abbrev pub as_tuple : Result RawTrees VortexError → Taken
as_tuple (Ok vs) = Ok (raw_tuple vs)
as_tuple (Err e) = Err e

-- the elements of a sequence
abbrev pub elements_in : (RawTree → Taken) → RawTree → Taken
elements_in read (raw_tuple vs) = as_tuple (each_taken read vs)
elements_in read _ = Err WrongKind

-- a Vec, by what its elements take: a type that is no list, a null, another variant of raw value, the first element's
-- refusal
abbrev pub taken_vec : (TypeTree → RawTree → Taken) → TypeTree → RawTree → Taken
taken_vec element (list_type e n) v = unless_null (elements_in (element e)) v
taken_vec element (fixed_size_list_type e size n) v = unless_null (elements_in (element e)) v
taken_vec element _ v = Err WrongKind

-- What an answer says.

-- the answer is the value that gives what is taken, or the refusal
abbrev pub Takes : {T : Type 0} → (T → RawTree) → Taken → Result T VortexError → Type 0
Takes given (Ok v) r = IsOkAnd r (λ x. given x ≡ v)
Takes given (Err e) r = IsErrAnd r (λ f. f ≡ e)

-- r answers a copy of what is taken; there may be no memory for one that is not null
abbrev pub TakesCopy : {T : Type 0} → (T → RawTree) → Taken → Result T VortexError → Type 0
TakesCopy given (Ok absent) r = IsOkAnd r (λ x. given x ≡ absent)
TakesCopy given (Ok v) r = MatchResult r (λ x. given x ≡ v) (λ e. e ≡ OutOfMemory)
TakesCopy given (Err e) r = IsErrAnd r (λ f. f ≡ e)

-- a string, or bytes, that a buffer holds inline
abbrev pub IsShort : RawTree → Type 0
IsShort (raw_text bs) = length bs ≤ INLINE_BYTES
IsShort (raw_bytes bs) = length bs ≤ INLINE_BYTES
IsShort _ = ⊥

-- what is taken is answered whatever the memory, if it is short
abbrev pub ShortNeverOutOfMemory : {T : Type 0} → Taken → Result T VortexError → Type 0
ShortNeverOutOfMemory (Ok v) r = IsShort v → IsOk r
ShortNeverOutOfMemory (Err e) r = ⊤
