-- Values are converted back from their raw values. The implementations of `RoundTrip` cite these lemmas.
use Rattle.std.specs.Prelude.{◌≡◌, ℕ, ℤ, pos, List, [], ◌∷◌, Some, None, Ok}
use Rattle.std.proofs.Common.{refl, ap, ◌∙◌}
use Rattle.vortex_dtype.specs.Lemmas.TypeLaws.{same_ptype-Decides}
use Rattle.vortex_dtype.specs.TypeTree.{TypeTree, as_nullable, bool_type, integer_type, utf8_type, binary_type, list_type}
use Rattle.vortex_dtype.specs.declared.nullability.Nullability.{Nullability}
use Rattle.vortex_dtype.specs.declared.nullability.Nullability.TheVariants.{NonNullable, Nullable}
use Rattle.vortex_dtype.specs.declared.ptype.PType.{PType}
use Rattle.vortex_dtype.specs.declared.ptype.PType.TheVariants.{U64}
use Rattle.vortex_pvalue.specs.RangeLaws.{in_range_true}
use Rattle.vortex_value.specs.Conversions.{Taken, as_tuple, each_taken, given_number, given_option, given_usize, taken_bool, taken_bytes, taken_number, taken_option_bool, taken_option_bytes, taken_option_number, taken_option_text, taken_option_usize, taken_text, taken_usize, taken_vec}
use Rattle.vortex_value.specs.Validity.{EachValid}
use Rattle.vortex_value.specs.Values.RawTree.{RawTree, raw_bool, raw_bytes, raw_text, raw_tuple, raw_then}
use Rattle.vortex_array.specs.Conversions.{NamesAsGiven, TakesBack, given_each, given_vec}

pub bool_back : (n : Nullability) → TakesBack raw_bool taken_bool (bool_type n)
bool_back n b valid = refl

pub option_bool_back : (n : Nullability) → TakesBack (given_option raw_bool) taken_option_bool (bool_type n)
option_bool_back n None valid = refl
option_bool_back n (Some b) valid = refl

-- an integer, at the column type of its PType
number_back : {T : Type 0} (k : PType) (n : Nullability) (number : T → ℤ) → TakesBack (given_number k number) (taken_number k) (integer_type k n)
number_back k n number x valid = rw (in_range_true k (number x) valid.1) refl

pub integer_back : {T : Type 0} (k : PType) (t : TypeTree) (number : T → ℤ) → t ≡ integer_type k NonNullable → TakesBack (given_number k number) (taken_number k) t
integer_back k t number e = rw e (number_back k NonNullable number)

-- an optional integer, at the nullable column type
option_number_back : {T : Type 0} (k : PType) (n : Nullability) (number : T → ℤ) → TakesBack (given_option (given_number k number)) (taken_option_number k) (integer_type k n)
option_number_back k n number None valid = rw ((same_ptype-Decides k k).1 refl) refl
option_number_back k n number (Some x) valid = rw ((same_ptype-Decides k k).1 refl, in_range_true k (number x) valid.1) refl

pub option_integer_back : {T : Type 0} (k : PType) (t : TypeTree) (number : T → ℤ) → t ≡ integer_type k NonNullable
    → TakesBack (given_option (given_number k number)) (taken_option_number k) (as_nullable t)
option_integer_back k t number e = rw e (option_number_back k Nullable number)

pub usize_back : (n : Nullability) → TakesBack given_usize taken_usize (integer_type U64 n)
usize_back n x valid = rw (in_range_true U64 (pos x) valid.1) refl

pub option_usize_back : (n : Nullability) → TakesBack (given_option given_usize) taken_option_usize (integer_type U64 n)
option_usize_back n None valid = refl
option_usize_back n (Some x) valid = rw (in_range_true U64 (pos x) valid.1) refl

-- a string, of any Rust type
pub text_back : {T : Type 0} (n : Nullability) (bytes : T → List ℕ) → TakesBack (λ x. raw_text (bytes x)) taken_text (utf8_type n)
text_back n bytes x valid = refl

pub option_text_back : (n : Nullability) → TakesBack (given_option raw_text) taken_option_text (utf8_type n)
option_text_back n None valid = refl
option_text_back n (Some x) valid = refl

pub bytes_back : (n : Nullability) → TakesBack raw_bytes taken_bytes (binary_type n)
bytes_back n x valid = refl

pub option_bytes_back : (n : Nullability) → TakesBack (given_option raw_bytes) taken_option_bytes (binary_type n)
option_bytes_back n None valid = refl
option_bytes_back n (Some x) valid = refl

-- the elements of a Vec, if each is converted back
each_back : {T : Type 0} (given : T → RawTree) (taken : TypeTree → RawTree → Taken) (t : TypeTree) → TakesBack given taken t → (xs : List T)
    → EachValid t (given_each given xs) → each_taken (taken t) (given_each given xs) ≡ Ok (given_each given xs)
each_back given taken t back [] valid = refl
each_back given taken t back (x ∷ xs) valid = rw (back x valid.0, each_back given taken t back xs valid.1) refl

pub vec_back : {T : Type 0} (given : T → RawTree) (taken : TypeTree → RawTree → Taken) (t : TypeTree) (n : Nullability) → TakesBack given taken t
    → TakesBack (given_vec given) (taken_vec taken) (list_type t n)
vec_back given taken t n back v valid = ap as_tuple (each_back given taken t back v.items valid)

each_named : {T : Type 0} (given named : T → RawTree) → NamesAsGiven given named → (xs : List T) → given_each named xs ≡ given_each given xs
each_named given named same [] = refl
each_named given named same (x ∷ xs) = ap (λ v. raw_then v (given_each named xs)) (same x) ∙ ap (raw_then (given x)) (each_named given named same xs)

pub vec_named : {T : Type 0} (given named : T → RawTree) → NamesAsGiven given named → NamesAsGiven (given_vec given) (given_vec named)
vec_named given named same v = ap raw_tuple (each_named given named same v.items)
