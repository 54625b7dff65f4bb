-- Worked cases of what unions and variants hold, each a theorem. Types and values are written in the words of Examples.
use Rattle.std.specs.Prelude.{◌≡◌, true, false, Some, None, refl, codes}
use Rattle.vortex_dtype.specs.TypeTree.{null_type}
use Rattle.vortex_value.specs.Examples.ValueExamples.{i32, u32, utf8, variant, or_null, extension_a, int_or_string, int, letter_a}
use Rattle.vortex_value.specs.Values.RawTree.{absent, raw_union, raw_variant}
use Rattle.vortex_views.specs.Unions.{child_of, chosen_name, chosen_place, chosen_type, id_of}
use Rattle.vortex_views.specs.Variants.{inner_of, is_inner_null}
use Rattle.vortex_views.specs.ViewKinds.{is_of_union, is_of_variant}

-- The union has int, with the id 5 and a nullable i32, and string, with the id 9.

ids : (id_of (raw_union 5 (int 42)) ≡ Some 5) × (id_of (raw_union 9 letter_a) ≡ Some 9)
ids = (refl, refl)

-- the place is not the id
places : (chosen_place int_or_string (raw_union 5 (int 42)) ≡ Some 0) × (chosen_place int_or_string (raw_union 9 letter_a) ≡ Some 1)
places = (refl, refl)

names : (chosen_name int_or_string (raw_union 5 (int 42)) ≡ Some (codes "int")) × (chosen_name int_or_string (raw_union 9 letter_a) ≡ Some (codes "string"))
names = (refl, refl)

types : (chosen_type int_or_string (raw_union 5 (int 42)) ≡ Some (or_null i32)) × (chosen_type int_or_string (raw_union 9 letter_a) ≡ Some utf8)
types = (refl, refl)

child : child_of int_or_string (raw_union 9 letter_a) ≡ Some (utf8, letter_a)
child = refl

-- an inner null has an id and a child, which is null
inner_null : (id_of (raw_union 5 absent) ≡ Some 5) × (child_of int_or_string (raw_union 5 absent) ≡ Some (or_null i32, absent))
inner_null = (refl, refl)

-- an outer null has none
outer_null : (id_of absent ≡ None) × (chosen_place int_or_string absent ≡ None) × (child_of int_or_string absent ≡ None)
outer_null = (refl, refl, refl)

-- no variant has the id 7
no_variant : (chosen_place int_or_string (raw_union 7 (int 42)) ≡ None) × (child_of int_or_string (raw_union 7 (int 42)) ≡ None)
no_variant = (refl, refl)

-- a variant's scalar brings its type along
inner : (inner_of (raw_variant u32 (int 42)) ≡ Some (u32, int 42)) × (is_inner_null (raw_variant u32 (int 42)) ≡ Some false)
inner = (refl, refl)

-- the variant-null holds a null, and a null variant holds nothing
variant_null : (inner_of (raw_variant null_type absent) ≡ Some (null_type, absent)) × (is_inner_null (raw_variant null_type absent) ≡ Some true) × (inner_of absent ≡ None) × (is_inner_null absent ≡ None)
variant_null = (refl, refl, refl, refl)

-- an extension over a union is viewed as no union, nor is a number at a union's type
kinds : (is_of_union int_or_string absent ≡ true) × (is_of_union int_or_string (int 1) ≡ false) × (is_of_union (extension_a int_or_string) absent ≡ false) × (is_of_variant variant absent ≡ true) × (is_of_variant (extension_a variant) absent ≡ false)
kinds = (refl, refl, refl, refl, refl)
