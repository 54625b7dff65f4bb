-- Worked cases of the encoding, each a theorem.
use Rattle.std.specs.Prelude.{◌≡◌, codes, ℕ, pos, negsuc, [], ◌∷◌, ◌++◌, None, refl}
use Rattle.vortex_dtype.specs.TypeTree.{TypeTree, bool_type, extension_type, integer_type, null_type, utf8_type}
use Rattle.vortex_dtype.specs.declared.nullability.Nullability.TheVariants.{NonNullable, Nullable}
use Rattle.vortex_dtype.specs.declared.ptype.PType.TheVariants.{I8, I32, U8}
use Rattle.vortex_value.specs.Values.Content.{null, text, whole}
use Rattle.like_patterns.specs.declared.case.Case.TheVariants.{Sensitive}
use Rattle.like_patterns.specs.Patterns.{any_character, any_string, literal}
use Rattle.vortex_cells.specs.Cells.{Cell}
use Rattle.vortex_filter.specs.declared.operator.CompareOperator.TheVariants.{Gte}
use Rattle.vortex_filter.specs.declared.truth.Truth.TheVariants.{True}
use Rattle.vortex_filter.specs.Formula.{both, comparison, constant, membership, negation, null_test, pattern_test, prefix_test}
use Rattle.filter_encoding.specs.Encoding.{Prepared, encoding, literal_bytes, node_bytes, type_byte, type_bytes, version_of}
use Rattle.filter_encoding.specs.Lists.{count_bytes}
use Rattle.filter_encoding.specs.Patterns.{part_bytes}
use Rattle.filter_encoding.specs.Steps.{type_at}

-- a place, and a count, take 8 bytes
place_of_second : count_bytes 1 ≡ 0 ∷ 0 ∷ 0 ∷ 0 ∷ 0 ∷ 0 ∷ 0 ∷ 1 ∷ []
place_of_second = refl

-- 16 more for a type that takes a null
plain_and_nullable : type_byte (integer_type I32 NonNullable) ∷ type_byte (integer_type I32 Nullable) ∷ type_byte null_type ∷ [] ≡ 6 ∷ 22 ∷ 29 ∷ []
plain_and_nullable = refl

-- there is no type with the bytes 10 and 12
no_such_type : type_at 10 ≡ None
no_such_type = refl

-- the i8 -1, and a null of a bool
minus_one : literal_bytes (record { typed = integer_type I8 NonNullable; content = whole (negsuc 0) }) ≡ 4 ∷ 11 ∷ 254 ∷ []
minus_one = refl

no_bool : literal_bytes (record { typed = bool_type Nullable; content = null }) ≡ 24 ∷ 1 ∷ []
no_bool = refl

-- true; and: the first column is not null
always : node_bytes (constant True) ≡ 2 ∷ []
always = refl

not_null : node_bytes (negation (null_test 0)) ≡ 15 ∷ 9 ∷ count_bytes 0
not_null = refl

-- in a list of two u8, 0 and 7
abbrev small : ℕ → Cell
small n = record { typed = integer_type U8 NonNullable; content = whole (pos n) }

one_of_two : node_bytes (membership 0 (small 0 ∷ small 7 ∷ [])) ≡ 10 ∷ (count_bytes 0 ++ (count_bytes 2 ++ 0 ∷ 12 ∷ 0 ∷ 13 ∷ 7 ∷ []))
one_of_two = refl

-- the first column like 'a_%'
like_three_parts : node_bytes (pattern_test 0 Sensitive (literal 97 ∷ any_character ∷ any_string ∷ [])) ≡ 16 ∷ 0 ∷ 0 ∷ 0 ∷ 0 ∷ 0 ∷ 0 ∷ 0 ∷ 0 ∷ 0 ∷ 0 ∷ 0 ∷ 0 ∷ 0 ∷ 0 ∷ 0 ∷ 0 ∷ 3 ∷ 0 ∷ 0 ∷ 97 ∷ 17 ∷ 0 ∷ 0 ∷ 17 ∷ 0 ∷ 1 ∷ []
like_three_parts = refl

-- the highest character, and the first after the surrogates
three_bytes_each : part_bytes (literal 0x10_FFFF) ++ part_bytes (literal 0xE000) ≡ 16 ∷ 255 ∷ 255 ∷ 0 ∷ 224 ∷ 0 ∷ []
three_bytes_each = refl

-- x >= 10 and name like 'ab%', over the columns x, an i32, and name, a string
abbrev ten : Cell
ten = record { typed = integer_type I32 NonNullable; content = whole (pos 10) }

abbrev beginning : Cell
beginning = record { typed = utf8_type NonNullable; content = text (97 ∷ 98 ∷ []) }

abbrev from_ten : Prepared
from_ten = record { types = integer_type I32 Nullable ∷ utf8_type Nullable ∷ []; filter = both (comparison 0 Gte ten) (prefix_test 1 beginning) }

worked : encoding from_ten ≡
    1 ∷ 0 ∷ 0 ∷ 0 ∷ 0 ∷ 0 ∷ 0 ∷ 0 ∷ 2 ∷ 22 ∷ 25 ∷ 13 ∷ 6 ∷ 0 ∷ 0 ∷ 0 ∷ 0 ∷ 0 ∷ 0 ∷ 0 ∷ 0 ∷ 6 ∷ 13 ∷ 10 ∷ 12 ∷ 0 ∷ 0 ∷ 0 ∷ 0 ∷ 0 ∷ 0 ∷ 0 ∷ 1 ∷ 9 ∷ 21 ∷ 97 ∷ 98 ∷ 0 ∷ []
worked = refl

-- at >= 2026-03-01, over the column at, a date, which is an extension over an i32: the version is 2
abbrev pub dates : TypeTree
dates = extension_type (codes "vortex.date") (4 ∷ []) (integer_type I32 NonNullable)

abbrev pub day : Cell
day = record { typed = dates; content = whole (pos 20513) }

abbrev pub from_day : Prepared
from_day = record { types = dates ∷ []; filter = comparison 0 Gte day }

date_bytes : type_bytes dates ≡ 32 ∷ 21 ∷ (codes "vortex.date" ++ 0 ∷ 22 ∷ 4 ∷ 0 ∷ 6 ∷ [])
date_bytes = refl

in_version_2 : encoding from_day ≡
    2 ∷ 0 ∷ 0 ∷ 0 ∷ 0 ∷ 0 ∷ 0 ∷ 0 ∷ 1 ∷ 32 ∷ 21 ∷ 118 ∷ 111 ∷ 114 ∷ 116 ∷ 101 ∷ 120 ∷ 46 ∷ 100 ∷ 97 ∷ 116 ∷ 101 ∷ 0 ∷ 22 ∷ 4 ∷ 0 ∷ 6 ∷ 6 ∷ 0 ∷ 0 ∷ 0 ∷ 0 ∷ 0 ∷ 0 ∷ 0 ∷ 0 ∷ 32 ∷ 21 ∷ 118 ∷ 111 ∷ 114 ∷ 116 ∷ 101 ∷ 120 ∷ 46 ∷ 100 ∷ 97 ∷ 116 ∷ 101 ∷ 0 ∷ 22 ∷ 4 ∷ 0 ∷ 6 ∷ 14 ∷ 80 ∷ 33 ∷ []
in_version_2 = refl

-- filters of before have the bytes of before
in_version_1 : version_of from_ten ≡ 1
in_version_1 = refl
