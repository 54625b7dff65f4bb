-- Worked cases of the parts of lists and maps, each a theorem.
use Rattle.std.specs.Prelude.{◌≡◌, pos, false, [], ◌∷◌, Some, None, slice_get, refl, codes}
use Rattle.vortex_dtype.specs.TypeTree.{TypeTree, integer_type, utf8_type, list_type, fixed_size_list_type, map_type}
use Rattle.vortex_dtype.specs.declared.nullability.Nullability.TheVariants.{NonNullable, Nullable}
use Rattle.vortex_dtype.specs.declared.ptype.PType.TheVariants.{I32}
use Rattle.vortex_value.specs.Values.RawTree.{RawTree, absent, raw_integer, raw_text, raw_tuple, no_raws, raw_then}
use Rattle.vortex_views.specs.Parts.{elements_of, entries_of, unless_null}

abbrev i32 : TypeTree
i32 = integer_type I32 NonNullable

abbrev text : TypeTree
text = utf8_type Nullable

abbrev ten : RawTree
ten = raw_integer I32 (pos 10)

abbrev twenty : RawTree
twenty = raw_integer I32 (pos 20)

abbrev one : RawTree
one = raw_text (codes "one")

abbrev both : RawTree → RawTree → RawTree
both v w = raw_tuple (raw_then v (raw_then w no_raws))

abbrev numbers : TypeTree
numbers = list_type i32 NonNullable

abbrev names : TypeTree
names = map_type i32 text false NonNullable

-- the elements of [10, 20] at list(i32), each of type i32, and at a fixed-size list of two
pub elements_of_a_list : elements_of (numbers, both ten twenty) ≡ (i32, ten) ∷ (i32, twenty) ∷ []
elements_of_a_list = refl

pub elements_of_a_fixed_size_list : elements_of (fixed_size_list_type i32 2 NonNullable, both ten twenty) ≡ (i32, ten) ∷ (i32, twenty) ∷ []
elements_of_a_fixed_size_list = refl

-- its second element, and None past the end
pub second_element : slice_get (elements_of (numbers, both ten twenty)) 1 ≡ Some (i32, twenty)
second_element = refl

pub past_the_end : slice_get (elements_of (numbers, both ten twenty)) 2 ≡ None
past_the_end = refl

-- a null has no elements, and is no empty list
pub null_has_no_elements : elements_of (list_type i32 Nullable, absent) ≡ []
null_has_no_elements = refl

pub elements_of_null : unless_null absent (elements_of (numbers, absent)) ≡ None
elements_of_null = refl

pub elements_of_an_empty_list : unless_null (raw_tuple no_raws) (elements_of (numbers, raw_tuple no_raws)) ≡ Some []
elements_of_an_empty_list = refl

-- the entries of {10: "one", 20: null} at map(i32, utf8?): keys of type i32, values of type utf8?
pub entries_of_a_map : entries_of (names, both (both ten one) (both twenty absent)) ≡ ((i32, ten), (text, one)) ∷ ((i32, twenty), (text, absent)) ∷ []
entries_of_a_map = refl
