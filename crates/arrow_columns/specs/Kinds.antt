-- Kinds of columns, and their codes for callers from C.
use Rattle.std.specs.Prelude.{ℕ, ◌==◌, Option, Some, None, if◌then◌else◌, nat_lt}
use Rattle.std.specs.Option.{option_map}
use Rattle.arrow_columns.specs.declared.kinds.IntegerKind.{IntegerKind}
use Rattle.arrow_columns.specs.declared.kinds.IntegerKind.TheVariants.{U8, U16, U32, U64, I8, I16, I32, I64}
use Rattle.arrow_columns.specs.declared.kinds.Kind.{Kind}
use Rattle.arrow_columns.specs.declared.kinds.Kind.TheVariants.{Integer, Boolean, Utf8, LargeUtf8, Binary, LargeBinary, Null, Logical}
use Rattle.arrow_columns.specs.Formats.{format_at}

-- the kind of integer with this code
abbrev pub integer_kind_at : ℕ → Option IntegerKind
integer_kind_at code =
    if code == 0 then Some U8 else
    if code == 1 then Some U16 else
    if code == 2 then Some U32 else
    if code == 3 then Some U64 else
    if code == 4 then Some I8 else
    if code == 5 then Some I16 else
    if code == 6 then Some I32 else
    if code == 7 then Some I64 else None

-- the kind of column with this code: those of integers, then the others, and the formats of logical types; of decimals also by their
-- precision and scale
abbrev pub kind_with : ℕ → ℕ → ℕ → Option Kind
kind_with code precision scale =
    if code == 8 then Some Boolean else
    if code == 9 then Some Utf8 else
    if code == 10 then Some LargeUtf8 else
    if code == 11 then Some Binary else
    if code == 12 then Some LargeBinary else
    if code == 13 then Some Null else
    if nat_lt code 8 then option_map Integer (integer_kind_at code) else option_map Logical (format_at code precision scale)

-- the same of a code alone, which decimals do not have
abbrev pub kind_at : ℕ → Option Kind
kind_at code = kind_with code 0 0
