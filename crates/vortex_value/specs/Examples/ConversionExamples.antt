-- Worked cases of conversions, each a theorem: what is taken from a type and a raw value, or the refusal. Types and
-- values are written in the words of ValueExamples.
use Rattle.std.specs.Prelude.{◌≡◌, pos, negsuc, true, [], ◌∷◌, Some, None, Ok, Err, refl, codes}
use Rattle.vortex_dtype.specs.declared.error.VortexError.TheVariants.{WrongKind, OutOfRange, WrongPType, IsNull}
use Rattle.vortex_dtype.specs.declared.ptype.PType.TheVariants.{U64, I8, I16, I32, I64}
use Rattle.vortex_value.specs.Conversions.{given_number, given_option, given_usize, taken_bool, taken_option_bool, taken_number, taken_option_number, taken_usize, taken_option_usize, taken_text, taken_option_text, taken_bytes, taken_option_bytes, taken_vec}
use Rattle.vortex_value.specs.Values.RawTree.{absent, raw_bool, raw_integer, raw_text, raw_bytes}
use Rattle.vortex_value.specs.Examples.ValueExamples.{i8, i32, i64, u64, boolean, utf8, binary, or_null, list_of, fixed_list_of, extension_a, tuple, int}

-- What is given.

pub number_is_given_in_its_kind : given_number I16 (λ z. z) (negsuc 4) ≡ raw_integer I16 (negsuc 4)
number_is_given_in_its_kind = refl

pub usize_is_given_in_64_bits : given_usize 7 ≡ raw_integer U64 (pos 7)
usize_is_given_in_64_bits = refl

pub none_inside_is_the_null : given_option (given_option raw_bool) (Some None) ≡ absent
none_inside_is_the_null = refl

-- Truth values.

pub bool_of_true : taken_bool boolean (raw_bool true) ≡ Ok (raw_bool true)
bool_of_true = refl

pub bool_of_a_null : taken_bool (or_null boolean) absent ≡ Err IsNull
bool_of_a_null = refl

pub bool_of_a_null_of_another_type : taken_bool (or_null i32) absent ≡ Err WrongKind
bool_of_a_null_of_another_type = refl

pub bool_of_an_integer_in_its_place : taken_bool boolean (int 1) ≡ Err WrongKind
bool_of_an_integer_in_its_place = refl

pub bool_below_an_extension : taken_bool (extension_a boolean) (raw_bool true) ≡ Err WrongKind
bool_below_an_extension = refl

pub option_bool_of_a_null : taken_option_bool (or_null boolean) absent ≡ Ok absent
option_bool_of_a_null = refl

pub option_bool_of_a_null_of_another_type : taken_option_bool (or_null i32) absent ≡ Err WrongKind
option_bool_of_a_null_of_another_type = refl

-- Integers look at the raw value alone.

pub i32_of_an_i64_below_an_extension : taken_number I32 (extension_a i64) (raw_integer I64 (pos 7)) ≡ Ok (int 7)
i32_of_an_i64_below_an_extension = refl

pub i8_of_1000 : taken_number I8 i8 (int 1000) ≡ Err OutOfRange
i8_of_1000 = refl

pub i8_of_a_truth_value : taken_number I8 i8 (raw_bool true) ≡ Err WrongKind
i8_of_a_truth_value = refl

pub i8_of_a_null_of_any_type : taken_number I8 (or_null utf8) absent ≡ Err IsNull
i8_of_a_null_of_any_type = refl

-- Optional integers ask for their own `PType`.

pub option_i32_of_an_i64 : taken_option_number I32 i64 (raw_integer I64 (pos 5)) ≡ Err WrongPType
option_i32_of_an_i64 = refl

pub option_i32_of_a_null_of_i64 : taken_option_number I32 (or_null i64) absent ≡ Err WrongPType
option_i32_of_a_null_of_i64 = refl

pub option_i32_of_1000_under_i8 : taken_option_number I32 i8 (int 1000) ≡ Err WrongPType
option_i32_of_1000_under_i8 = refl

pub option_i32_of_a_null : taken_option_number I32 (or_null i32) absent ≡ Ok absent
option_i32_of_a_null = refl

pub option_i32_below_an_extension : taken_option_number I32 (extension_a i32) (int 7) ≡ Err WrongKind
option_i32_below_an_extension = refl

pub option_i32_of_a_truth_value : taken_option_number I32 i32 (raw_bool true) ≡ Err WrongKind
option_i32_of_a_truth_value = refl

pub option_i8_of_1000 : taken_option_number I8 i8 (int 1000) ≡ Err OutOfRange
option_i8_of_1000 = refl

-- usize asks for an integer type.

pub usize_of_minus_one : taken_usize i32 (raw_integer I32 (negsuc 0)) ≡ Err OutOfRange
usize_of_minus_one = refl

pub usize_below_an_extension : taken_usize (extension_a u64) (raw_integer U64 (pos 7)) ≡ Err WrongKind
usize_below_an_extension = refl

pub usize_of_1000_under_i8 : taken_usize i8 (int 1000) ≡ Ok (raw_integer U64 (pos 1000))
usize_of_1000_under_i8 = refl

pub usize_of_a_null : taken_usize (or_null i32) absent ≡ Err IsNull
usize_of_a_null = refl

pub option_usize_of_a_null : taken_option_usize (or_null i32) absent ≡ Ok absent
option_usize_of_a_null = refl

pub option_usize_of_another_kind : taken_option_usize i32 (int 7) ≡ Ok (raw_integer U64 (pos 7))
option_usize_of_another_kind = refl

-- Strings and bytes.

pub bytes_of_an_integer : taken_bytes i32 (int 42) ≡ Err WrongKind
bytes_of_an_integer = refl

pub bytes_of_bytes : taken_bytes binary (raw_bytes (5 ∷ 6 ∷ 7 ∷ [])) ≡ Ok (raw_bytes (5 ∷ 6 ∷ 7 ∷ []))
bytes_of_bytes = refl

pub bytes_of_a_text : taken_bytes utf8 (raw_text (codes "a")) ≡ Err WrongKind
bytes_of_a_text = refl

pub text_of_bytes_in_its_place : taken_text utf8 (raw_bytes (codes "a")) ≡ Err WrongKind
text_of_bytes_in_its_place = refl

pub text_of_a_null : taken_text (or_null utf8) absent ≡ Err IsNull
text_of_a_null = refl

pub option_text_of_a_null : taken_option_text (or_null utf8) absent ≡ Ok absent
option_text_of_a_null = refl

pub option_bytes_of_a_text : taken_option_bytes utf8 (raw_text (codes "a")) ≡ Err WrongKind
option_bytes_of_a_text = refl

-- Vectors.

pub vec_of_i32_from_i64 :
    taken_vec (taken_number I32) (list_of i64) (tuple (raw_integer I64 (pos 1) ∷ raw_integer I64 (pos 2) ∷ [])) ≡ Ok (tuple (int 1 ∷ int 2 ∷ []))
vec_of_i32_from_i64 = refl

pub vec_of_optional_i32_from_i64 : taken_vec (taken_option_number I32) (list_of i64) (tuple (raw_integer I64 (pos 1) ∷ [])) ≡ Err WrongPType
vec_of_optional_i32_from_i64 = refl

pub vec_of_a_null : taken_vec (taken_number I32) (or_null (list_of i32)) absent ≡ Err IsNull
vec_of_a_null = refl

pub vec_of_no_elements_of_any_type : taken_vec (taken_number I32) (list_of utf8) (tuple []) ≡ Ok (tuple [])
vec_of_no_elements_of_any_type = refl

pub vec_refuses_for_its_first_element :
    taken_vec (taken_number I8) (fixed_list_of i32 3) (tuple (int 1 ∷ int 1000 ∷ absent ∷ [])) ≡ Err OutOfRange
vec_refuses_for_its_first_element = refl

pub vec_of_a_truth_value_in_its_place : taken_vec taken_bool (list_of boolean) (raw_bool true) ≡ Err WrongKind
vec_of_a_truth_value_in_its_place = refl
