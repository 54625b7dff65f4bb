-- Worked cases of what `Display` writes, each a theorem. Types and values are written in the words of Examples.
use Rattle.std.specs.Prelude.{◌≡◌, ⊤, pos, negsuc, true, false, [], ◌∷◌, ◌++◌, refl, codes}
use Rattle.std.specs.Char.{encode_utf8}
use Rattle.std.specs.Fmt.{digits}
use Rattle.std.specs.List.{repeat}
use Rattle.std.specs.Str.{chars}
use Rattle.vortex_dtype.specs.TypeTree.{null_type}
use Rattle.vortex_dtype.specs.declared.ptype.PType.TheVariants.{U32, I8}
use Rattle.vortex_value.specs.Examples.ValueExamples.{i32, i64, u32, boolean, utf8, binary, variant, or_null, list_of, fixed_list_of, struct_of, a_and_b, extension_a, int_or_string, unsorted_map, tuple, entry, int}
use Rattle.vortex_value.specs.Values.RawTree.{absent, raw_bool, raw_integer, raw_text, raw_bytes, raw_union, raw_variant}
use Rattle.vortex_value.specs.Texts.{escaped_char, raw_text_of, text_of}

-- what the proofs compute by
unfoldable on_literals : ⊤
unfolding chars digits encode_utf8 escaped_char
on_literals = tt

-- Raw values.

pub raw_text_of_null : raw_text_of absent ≡ codes "null"
raw_text_of_null = refl

pub raw_texts_of_numbers : (raw_text_of (int 42) ≡ codes "42i32") × (raw_text_of (raw_integer I8 (negsuc 0)) ≡ codes "-1i8")
unfolding on_literals
raw_texts_of_numbers = (refl, refl)

pub raw_text_of_ten_characters : raw_text_of (raw_text (codes "helloworld")) ≡ codes "\"helloworld\""
unfolding on_literals
raw_text_of_ten_characters = refl

pub raw_text_of_eleven_characters : raw_text_of (raw_text (codes "hello world")) ≡ codes "\"hello..world\""
unfolding on_literals
raw_text_of_eleven_characters = refl

-- eleven characters of four bytes each
pub raw_text_of_wide_characters :
    let hen = encode_utf8 0x1FAA9 in
    raw_text_of (raw_text (repeat 11 hen)) ≡ codes "\"" ++ (repeat 5 hen ++ (codes ".." ++ (repeat 5 hen ++ codes "\"")))
unfolding on_literals
raw_text_of_wide_characters = refl

-- no character is escaped
pub raw_text_of_a_quote : raw_text_of (raw_text (codes "a\"b")) ≡ codes "\"a\"b\""
unfolding on_literals
raw_text_of_a_quote = refl

pub raw_text_of_ten_bytes : raw_text_of (raw_bytes (1 ∷ 2 ∷ 3 ∷ 4 ∷ 5 ∷ 6 ∷ 7 ∷ 8 ∷ 9 ∷ 255 ∷ [])) ≡ codes "010203040506070809ff"
unfolding on_literals
raw_text_of_ten_bytes = refl

pub raw_text_of_eleven_bytes : raw_text_of (raw_bytes (0 ∷ 1 ∷ 2 ∷ 3 ∷ 4 ∷ 5 ∷ 6 ∷ 7 ∷ 8 ∷ 9 ∷ 10 ∷ [])) ≡ codes "0001020304..060708090a"
unfolding on_literals
raw_text_of_eleven_bytes = refl

pub raw_texts_of_tuples : (raw_text_of (tuple (int 1 ∷ absent ∷ [])) ≡ codes "[1i32, null]") × (raw_text_of (tuple []) ≡ codes "[]")
unfolding on_literals
raw_texts_of_tuples = (refl, refl)

pub raw_texts_of_unions : (raw_text_of (raw_union 5 (int 42)) ≡ codes "union@5(42i32)") × (raw_text_of (raw_union 5 absent) ≡ codes "union@5(null)")
unfolding on_literals
raw_texts_of_unions = (refl, refl)

-- a variant shows its scalar, and one that is not valid as a raw value
pub raw_texts_of_variants :
    (raw_text_of (raw_variant u32 (raw_integer U32 (pos 42))) ≡ codes "42u32")
    × (raw_text_of (raw_variant (list_of utf8) (tuple (raw_text (codes "a\"b") ∷ []))) ≡ codes "[\"a\\\"b\"]")
    × (raw_text_of (raw_variant (list_of i32) (tuple (raw_text (codes "a\"b") ∷ []))) ≡ codes "[\"a\"b\"]")
unfolding on_literals
raw_texts_of_variants = (refl, refl, refl)

-- Valid values.

pub text_of_null : (text_of null_type absent ≡ codes "null") × (text_of (or_null i32) absent ≡ codes "null")
text_of_null = (refl, refl)

pub text_of_a_truth_value : text_of boolean (raw_bool false) ≡ codes "false"
text_of_a_truth_value = refl

-- a, a line feed, a quote, U+0007, é
pub text_of_escapes : text_of utf8 (raw_text (97 ∷ 10 ∷ 34 ∷ 7 ∷ 195 ∷ 169 ∷ [])) ≡ codes "\"a\\n\\\"\\u{7}" ++ (195 ∷ 169 ∷ 34 ∷ [])
unfolding on_literals
text_of_escapes = refl

pub escapes : (escaped_char 0x5C ≡ codes "\\\\") × (escaped_char 0x0D ≡ codes "\\r") × (escaped_char 0x09 ≡ codes "\\t")
    × (escaped_char 0x1F ≡ codes "\\u{1f}") × (escaped_char 0x7F ≡ codes "\\u{7f}") × (escaped_char 0x20 ≡ codes " ")
unfolding on_literals
escapes = (refl, refl, refl, refl, refl, refl)

-- a string is never shortened
pub text_of_eleven_characters : text_of utf8 (raw_text (codes "hello world")) ≡ codes "\"hello world\""
unfolding on_literals
text_of_eleven_characters = refl

pub texts_of_strings : (text_of binary (raw_bytes (1 ∷ 255 ∷ 0 ∷ [])) ≡ codes "\"1 ff 0\"") × (text_of binary (raw_bytes []) ≡ codes "\"\"")
unfolding on_literals
texts_of_strings = (refl, refl)

pub texts_of_lists :
    (text_of (list_of (or_null i32)) (tuple (int 1 ∷ absent ∷ [])) ≡ codes "[1i32, null]")
    × (text_of (fixed_list_of i32 2) (tuple (int 1 ∷ int 2 ∷ [])) ≡ codes "fixed_size<2>[1i32, 2i32]")
    × (text_of (fixed_list_of i32 0) (tuple []) ≡ codes "fixed_size<0>[]")
unfolding on_literals
texts_of_lists = (refl, refl, refl)

pub texts_of_maps :
    (text_of unsorted_map (tuple (entry (int 1) (raw_text (codes "one")) ∷ entry (int 2) absent ∷ [])) ≡ codes "{1i32: \"one\", 2i32: null}")
    × (text_of unsorted_map (tuple []) ≡ codes "{}")
unfolding on_literals
texts_of_maps = (refl, refl)

-- names are not escaped
pub texts_of_structs :
    (text_of (a_and_b i32 (or_null i32)) (tuple (int 1 ∷ absent ∷ [])) ≡ codes "{a: 1i32, b: null}")
    × (text_of (struct_of (codes "a\"b" ∷ []) (i32 ∷ [])) (tuple (int 1 ∷ [])) ≡ codes "{a\"b: 1i32}")
    × (text_of (struct_of [] []) (tuple []) ≡ codes "{}")
unfolding on_literals
texts_of_structs = (refl, refl, refl)

pub texts_of_unions : (text_of int_or_string (raw_union 5 (int 42)) ≡ codes "int(42i32)") × (text_of int_or_string (raw_union 5 absent) ≡ codes "int(null)")
unfolding on_literals
texts_of_unions = (refl, refl)

pub texts_of_variants :
    (text_of variant (raw_variant u32 (raw_integer U32 (pos 42))) ≡ codes "variant(42u32)") × (text_of variant (raw_variant null_type absent) ≡ codes "variant(null)")
unfolding on_literals
texts_of_variants = (refl, refl)

pub text_of_an_extension : text_of (extension_a (list_of (extension_a i32))) (tuple (int 7 ∷ [])) ≡ codes "[7i32]"
unfolding on_literals
text_of_an_extension = refl

-- Values that are not valid, written as raw values.

pub texts_of_no_values :
    (text_of (list_of i32) (tuple (raw_bool true ∷ [])) ≡ codes "[true]") × (text_of i64 (int 1) ≡ codes "1i32") × (text_of i32 absent ≡ codes "null")
unfolding on_literals
texts_of_no_values = (refl, refl, refl)
