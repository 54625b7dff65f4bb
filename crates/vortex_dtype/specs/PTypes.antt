-- The eight integer types: their widths, signs and names.
use Rattle.std.specs.Prelude.{ℕ, ◌==◌, Bool, true, false, List, codes}
use Rattle.vortex_dtype.specs.declared.ptype.PType.{PType}
use Rattle.vortex_dtype.specs.declared.ptype.PType.TheVariants.{U8, U16, U32, U64, I8, I16, I32, I64}

-- how many bytes a number of the type takes
abbrev pub byte_width_of : PType → ℕ
byte_width_of U8 = 1
byte_width_of U16 = 2
byte_width_of U32 = 4
byte_width_of U64 = 8
byte_width_of I8 = 1
byte_width_of I16 = 2
byte_width_of I32 = 4
byte_width_of I64 = 8

-- whether the type has negative numbers
abbrev pub is_signed_ptype : PType → Bool
is_signed_ptype U8 = false
is_signed_ptype U16 = false
is_signed_ptype U32 = false
is_signed_ptype U64 = false
is_signed_ptype I8 = true
is_signed_ptype I16 = true
is_signed_ptype I32 = true
is_signed_ptype I64 = true

-- the type's name
abbrev pub ptype_text : PType → List ℕ
ptype_text U8 = codes "u8"
ptype_text U16 = codes "u16"
ptype_text U32 = codes "u32"
ptype_text U64 = codes "u64"
ptype_text I8 = codes "i8"
ptype_text I16 = codes "i16"
ptype_text I32 = codes "i32"
ptype_text I64 = codes "i64"

-- the number of the type among the eight
abbrev pub ptype_index : PType → ℕ
ptype_index U8 = 0
ptype_index U16 = 1
ptype_index U32 = 2
ptype_index U64 = 3
ptype_index I8 = 4
ptype_index I16 = 5
ptype_index I32 = 6
ptype_index I64 = 7

-- whether the types are equal
abbrev pub same_ptype : PType → PType → Bool
same_ptype k l = ptype_index k == ptype_index l
