-- Worked cases of zeros, defaults, sizes and what is fed to hashers, each a theorem. Types, values and contents are
-- written in the words of Examples.
use Rattle.std.specs.Prelude.{◌≡◌, negsuc, true, false, [], ◌∷◌, Some, None, refl, codes}
use Rattle.std.specs.declared.cmp.Ordering.TheVariants.{Less}
use Rattle.vortex_dtype.specs.TypeTree.{TypeTree, null_type}
use Rattle.vortex_value.specs.Values.Content.{null, truth, whole, text, string, tagged, typed}
use Rattle.vortex_value.specs.Hashing.{content_feed, typed_feed}
use Rattle.vortex_value.specs.Order.{typed_order}
use Rattle.vortex_value.specs.Values.RawTree.{absent, raw_text, raw_bytes, raw_union, raw_variant}
use Rattle.vortex_value.specs.Size.{size_of}
use Rattle.vortex_value.specs.Zero.{zero_of, default_of, is_zero_of}
use Rattle.vortex_value.specs.Examples.ValueExamples.{i32, i64, u32, boolean, utf8, binary, variant, or_null, list_of, fixed_list_of, struct_of, union_of, extension_a, a_and_b, int_or_string, unsorted_map, tuple, entry, int, parts, number}

-- a union without variants
abbrev no_variants : TypeTree
no_variants = union_of [] [] []

-- Zeros: nullability makes no difference.

pub zero_of_null : zero_of null_type ≡ None
zero_of_null = refl

pub zero_of_a_boolean : zero_of (or_null boolean) ≡ Some (truth false)
zero_of_a_boolean = refl

pub zero_of_a_number : zero_of (or_null i32) ≡ Some (number 0)
zero_of_a_number = refl

pub zero_of_texts_and_strings : (zero_of utf8 ≡ Some (text [])) × (zero_of binary ≡ Some (string []))
zero_of_texts_and_strings = (refl, refl)

pub zero_of_lists_and_maps : (zero_of (list_of null_type) ≡ Some (parts [])) × (zero_of unsorted_map ≡ Some (parts []))
zero_of_lists_and_maps = (refl, refl)

pub zero_of_a_struct : zero_of (a_and_b i32 (or_null i32)) ≡ Some (parts (number 0 ∷ number 0 ∷ []))
zero_of_a_struct = refl

pub zero_of_a_struct_with_a_null_field : zero_of (a_and_b i32 null_type) ≡ None
zero_of_a_struct_with_a_null_field = refl

pub zero_of_a_fixed_list : zero_of (fixed_list_of i32 3) ≡ Some (parts (number 0 ∷ number 0 ∷ number 0 ∷ []))
zero_of_a_fixed_list = refl

pub zero_of_no_nulls : zero_of (fixed_list_of null_type 0) ≡ Some (parts [])
zero_of_no_nulls = refl

pub zero_of_three_nulls : zero_of (fixed_list_of null_type 3) ≡ None
zero_of_three_nulls = refl

-- the first variant, and neither an outer nor an inner null
pub zero_of_a_union : zero_of int_or_string ≡ Some (tagged 5 (number 0))
zero_of_a_union = refl

pub zero_of_no_variants : zero_of no_variants ≡ None
zero_of_no_variants = refl

pub zero_of_a_union_of_nulls : zero_of (union_of (codes "n" ∷ codes "i" ∷ []) (1 ∷ 2 ∷ []) (null_type ∷ i32 ∷ [])) ≡ None
zero_of_a_union_of_nulls = refl

pub zero_of_a_variant : zero_of (or_null variant) ≡ Some (typed null_type null)
zero_of_a_variant = refl

pub zero_of_an_extension : zero_of (extension_a (extension_a int_or_string)) ≡ Some (tagged 5 (number 0))
zero_of_an_extension = refl

-- Defaults: null wherever a null is taken.

pub default_of_null : default_of null_type ≡ Some null
default_of_null = refl

pub default_of_a_nullable_number : default_of (or_null i32) ≡ Some null
default_of_a_nullable_number = refl

pub default_of_a_number : default_of i32 ≡ Some (number 0)
default_of_a_number = refl

pub default_of_a_struct : default_of (a_and_b i32 (or_null i32)) ≡ Some (parts (number 0 ∷ null ∷ []))
default_of_a_struct = refl

pub default_of_three_nulls : default_of (fixed_list_of null_type 3) ≡ Some (parts (null ∷ null ∷ null ∷ []))
default_of_three_nulls = refl

-- an inner null of the first variant
pub default_of_a_union : default_of (union_of (codes "int" ∷ codes "string" ∷ []) (5 ∷ 9 ∷ []) (or_null i32 ∷ utf8 ∷ [])) ≡ Some (tagged 5 null)
default_of_a_union = refl

pub default_of_a_nullable_union : default_of int_or_string ≡ Some null
default_of_a_nullable_union = refl

pub default_of_no_variants : (default_of no_variants ≡ None) × (default_of (or_null no_variants) ≡ Some null)
default_of_no_variants = (refl, refl)

pub default_of_a_struct_of_no_variants : default_of (struct_of (codes "a" ∷ []) (no_variants ∷ [])) ≡ None
default_of_a_struct_of_no_variants = refl

pub default_of_a_list_of_no_variants : default_of (list_of no_variants) ≡ Some (parts [])
default_of_a_list_of_no_variants = refl

pub default_of_a_variant : (default_of variant ≡ Some (typed null_type null)) × (default_of (or_null variant) ≡ Some null)
default_of_a_variant = (refl, refl)

pub default_of_extensions : (default_of (extension_a i32) ≡ Some (number 0)) × (default_of (extension_a (or_null i32)) ≡ Some null)
default_of_extensions = (refl, refl)

-- What is zero.

pub null_is_not_said_to_be_zero : is_zero_of (or_null i32) null ≡ None
null_is_not_said_to_be_zero = refl

pub numbers_that_are_zero : (is_zero_of i32 (number 0) ≡ Some true) × (is_zero_of i32 (whole (negsuc 0)) ≡ Some false)
numbers_that_are_zero = (refl, refl)

pub texts_that_are_zero : (is_zero_of utf8 (text []) ≡ Some true) × (is_zero_of utf8 (text (codes "a")) ≡ Some false)
texts_that_are_zero = (refl, refl)

-- a list is zero if it is empty, whatever zeros it holds
pub lists_that_are_zero : (is_zero_of (list_of i32) (parts []) ≡ Some true) × (is_zero_of (list_of i32) (parts (number 0 ∷ [])) ≡ Some false)
lists_that_are_zero = (refl, refl)

pub fixed_lists_that_are_zero :
    (is_zero_of (fixed_list_of i32 2) (parts (number 0 ∷ number 0 ∷ [])) ≡ Some true)
    × (is_zero_of (fixed_list_of i32 2) (parts (number 0 ∷ number 5 ∷ [])) ≡ Some false)
    × (is_zero_of (fixed_list_of (or_null i32) 2) (parts (number 0 ∷ null ∷ [])) ≡ Some false)
    × (is_zero_of (fixed_list_of i32 0) (parts []) ≡ Some true)
fixed_lists_that_are_zero = (refl, refl, refl, refl)

pub structs_that_are_zero :
    (is_zero_of (a_and_b i32 utf8) (parts (number 0 ∷ text [] ∷ [])) ≡ Some true)
    × (is_zero_of (a_and_b i32 utf8) (parts (number 5 ∷ text [] ∷ [])) ≡ Some false)
    × (is_zero_of (a_and_b (or_null i32) (or_null i32)) (parts (number 0 ∷ null ∷ [])) ≡ Some false)
structs_that_are_zero = (refl, refl, refl)

-- only the first variant can be zero, and an inner null gives `None`
pub unions_that_are_zero :
    (is_zero_of int_or_string (tagged 9 (text [])) ≡ Some false)
    × (is_zero_of int_or_string (tagged 5 null) ≡ None)
    × (is_zero_of int_or_string (tagged 5 (number 0)) ≡ Some true)
unions_that_are_zero = (refl, refl, refl)

pub variants_that_are_zero :
    (is_zero_of variant (typed null_type null) ≡ Some true)
    × (is_zero_of variant (typed u32 (number 42)) ≡ Some false)
    × (is_zero_of variant (typed u32 (number 0)) ≡ Some true)
variants_that_are_zero = (refl, refl, refl)

-- Sizes.

pub sizes_of_nulls :
    (size_of null_type absent ≡ 0) × (size_of (or_null boolean) absent ≡ 1) × (size_of (or_null i64) absent ≡ 8)
    × (size_of (or_null utf8) absent ≡ 0) × (size_of (or_null (list_of i32)) absent ≡ 0) × (size_of (or_null variant) absent ≡ 0)
sizes_of_nulls = (refl, refl, refl, refl, refl, refl)

pub sizes_of_texts_and_strings : (size_of utf8 (raw_text (codes "abc")) ≡ 3) × (size_of binary (raw_bytes (1 ∷ 0 ∷ [])) ≡ 2)
sizes_of_texts_and_strings = (refl, refl)

pub size_of_a_list : size_of (list_of (or_null i32)) (tuple (int 1 ∷ absent ∷ [])) ≡ 8
size_of_a_list = refl

pub size_of_a_map : size_of unsorted_map (tuple (entry (int 1) (raw_text (codes "one")) ∷ entry (int 2) absent ∷ [])) ≡ 11
size_of_a_map = refl

-- a null of 4 bytes, a string of 3, and a union of 1 and 4
pub size_of_a_struct : size_of (struct_of (codes "a" ∷ codes "b" ∷ codes "c" ∷ []) (or_null i32 ∷ utf8 ∷ int_or_string ∷ []))
    (tuple (absent ∷ raw_text (codes "abc") ∷ raw_union 5 (int 42) ∷ [])) ≡ 12
size_of_a_struct = refl

pub size_of_an_inner_null : size_of int_or_string (raw_union 5 absent) ≡ 5
size_of_an_inner_null = refl

pub size_of_a_variant : (size_of variant (raw_variant utf8 (raw_text (codes "ab"))) ≡ 2) × (size_of variant (raw_variant null_type absent) ≡ 0)
size_of_a_variant = (refl, refl)

pub size_of_an_extension : size_of (extension_a (or_null i64)) absent ≡ 8
size_of_an_extension = refl

-- Order, when types count.

pub null_of_a_nullable_type_against_zero : typed_order (or_null i32) null i32 (number 0) ≡ Some Less
null_of_a_nullable_type_against_zero = refl

pub numbers_of_two_kinds_have_no_order : typed_order i32 (number 1) i64 (number 1) ≡ None
numbers_of_two_kinds_have_no_order = refl

-- Feeds: nullability is not fed.

pub nullable_and_other_feed_the_same : typed_feed (list_of (or_null i32)) (parts (number 1 ∷ [])) ≡ typed_feed (list_of i32) (parts (number 1 ∷ []))
nullable_and_other_feed_the_same = refl

pub variants_of_nullable_and_other_feed_the_same : content_feed (typed (or_null u32) (number 42)) ≡ content_feed (typed u32 (number 42))
variants_of_nullable_and_other_feed_the_same = refl

-- a present 0 feeds a number that a null does not
pub null_feeds_one_byte : content_feed null ≡ (0 ∷ []) ∷ []
null_feeds_one_byte = refl
