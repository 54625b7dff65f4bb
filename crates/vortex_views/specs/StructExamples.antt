-- Worked cases of structs and extensions, each a theorem.
use Rattle.std.specs.Prelude.{◌≡◌, pos, true, false, List, ℕ, [], ◌∷◌, Option, Some, None, slice_get, refl, codes}
use Rattle.vortex_dtype.specs.Parts.{fields_in}
use Rattle.vortex_dtype.specs.TypeOf.{FieldParts}
use Rattle.vortex_dtype.specs.TypeTree.{TypeTree, null_type, integer_type, utf8_type, struct_type, no_types, type_then, extension_type, storage}
use Rattle.vortex_dtype.specs.declared.error.VortexError.TheVariants.{NoField, WrongKind, WrongLength}
use Rattle.vortex_dtype.specs.declared.nullability.Nullability.TheVariants.{NonNullable, Nullable}
use Rattle.vortex_dtype.specs.declared.ptype.PType.TheVariants.{I32, I64}
use Rattle.vortex_value.specs.Values.RawTree.{RawTree, absent, raw_bool, raw_integer, raw_text, raw_tuple, no_raws, raw_then}
use Rattle.vortex_views.specs.ExtensionParts.{is_of_kind}
use Rattle.vortex_views.specs.StructParts.{IsProjectedValue, field_named, fields_within, selection_cause, struct_cast_cause}

abbrev i32 : TypeTree
i32 = integer_type I32 NonNullable

abbrev text : TypeTree
text = utf8_type Nullable

abbrev one : RawTree
one = raw_integer I32 (pos 1)

abbrev letter : RawTree
letter = raw_text (codes "x")

abbrev a : List ℕ
a = codes "a"

abbrev b : List ℕ
b = codes "b"

-- {a: i32, b: utf8?} and {a: i32, a: utf8?}
abbrev pair : TypeTree
pair = struct_type (a ∷ b ∷ []) (type_then i32 (type_then text no_types)) NonNullable

abbrev repeated : TypeTree
repeated = struct_type (a ∷ a ∷ []) (type_then i32 (type_then text no_types)) NonNullable

-- {a: 1, b: "x"} and {a: 1, b: null}
abbrev value : RawTree
value = raw_tuple (raw_then one (raw_then letter no_raws))

abbrev half : RawTree
half = raw_tuple (raw_then one (raw_then absent no_raws))

-- the fields in order, each of its own type; a null is a field too, and the null struct has no fields
pub fields_of_a_struct : fields_within (pair, value) ≡ (i32, one) ∷ (text, letter) ∷ []
fields_of_a_struct = refl

pub null_field : slice_get (fields_within (pair, half)) 1 ≡ Some (text, absent)
null_field = refl

pub past_the_end : slice_get (fields_within (pair, value)) 2 ≡ None
past_the_end = refl

pub fields_of_null : fields_within (pair, absent) ≡ []
fields_of_null = refl

-- a repeated name finds the first field
pub by_name : field_named (pair, value) b ≡ Some (text, letter)
by_name = refl

pub by_repeated_name : field_named (repeated, value) a ≡ Some (i32, one)
by_repeated_name = refl

pub by_unknown_name : field_named (pair, value) (codes "c") ≡ None
by_unknown_name = refl

abbrev single : Option FieldParts
single = fields_in (struct_type (a ∷ []) (type_then i32 no_types) NonNullable)

-- {a: i32} to {a: i32, b: utf8?}, to an extension over a struct, and to a struct of one field by another name
pub to_more_fields : struct_cast_cause single (fields_in pair) ≡ Some (WrongLength 2 1)
to_more_fields = refl

pub to_an_extension : struct_cast_cause single (fields_in (extension_type (codes "e") [] pair)) ≡ Some WrongKind
to_an_extension = refl

pub to_as_many_fields : struct_cast_cause single (fields_in (struct_type (b ∷ []) (type_then text no_types) Nullable)) ≡ None
to_as_many_fields = refl

-- {a: 1, b: "x"} by [b, a, b], and a null by [a]
pub twice : IsProjectedValue (record { names = a ∷ b ∷ []; types = i32 ∷ text ∷ [] }) (b ∷ a ∷ b ∷ []) value (raw_tuple (raw_then letter (raw_then one (raw_then letter no_raws))))
twice = (tt, refl)

pub of_null : IsProjectedValue (record { names = a ∷ b ∷ []; types = i32 ∷ text ∷ [] }) (a ∷ []) absent absent
of_null = refl

pub unknown_name : selection_cause (fields_in pair) (a ∷ codes "c" ∷ []) ≡ Some NoField
unknown_name = refl

-- an integer of any PType is of the kind of an integer type, also below two extensions; Null has no value but the null
pub other_integer : is_of_kind (storage (extension_type (codes "f") [] (extension_type (codes "e") [] (integer_type I64 NonNullable)))) one ≡ true
other_integer = refl

pub other_kind : is_of_kind i32 (raw_bool true) ≡ false
other_kind = refl

pub below_null : is_of_kind null_type one ≡ false
below_null = refl

pub null_of_null : is_of_kind null_type absent ≡ true
null_of_null = refl
