-- The look-up of columns.
use Rattle.std.proofs.Common.{◌≡◌, ◌≢◌, ◌+◌, ◌<◌, ◌^◌, ◌==◌, ℕ, Bool, true, false, cond, List, [], ◌∷◌, length, Option, Some, None, Result, Ok, Err, map, refl, sym, ap, nat_lt, arith}
use Rattle.std.specs.Prelude.{slice_get, slice_index}
use Rattle.std.specs.List.{position_from}
use Rattle.std.specs.Option.{option_map}
use Rattle.std.specs.Result.{OkIff, result_ok}
use Rattle.std.specs.Str.{all_ascii_digits, bytes_eq}
use Rattle.std.specs.Str.Parse.{ParsesUnsigned, digits_value}
use Rattle.std.specs.String.{string_bytes}
use Rattle.std.proofs.lemmas.Bool.{eqb-true, eqb-false}
use Rattle.std.proofs.lemmas.Bool.Decides.{nat_tests}
use Rattle.std.proofs.lemmas.Option.{slice_get-map}
use Rattle.std.proofs.lemmas.Str.Parse.{IsNumeralModel, numerals_by_value, tells_all_ascii_digits, parse_plain}
use Rattle.filter_sql.specs.declared.column.Column.{Column}
use Rattle.filter_sql.specs.ColumnNames.{ColumnTree, column_tree, column_trees, digits_number, numbered_place, named_place}

-- the position among what a function gives
position_from-map : {A B : Type 0} (p : B → Bool) (f : A → B) (n : ℕ) (xs : List A) → position_from p n (map f xs) ≡ position_from (λ x. p (f x)) n xs
position_from-map p f n [] = refl
position_from-map p f n (x ∷ xs) = ap (λ (o : Option ℕ). cond (p (f x)) (Some n) o) (position_from-map p f (n + 1) xs)

pub first_named : (columns : List Column) (name : List ℕ) → position_from (λ (c : Column). bytes_eq (string_bytes c.name) name) 0 columns ≡ named_place (column_trees columns) name
first_named columns name = sym (position_from-map (λ (c : ColumnTree). bytes_eq c.name name) column_tree 0 columns)

pub column_there : (columns : List Column) (k : ℕ) → slice_get (column_trees columns) k ≡ option_map column_tree (slice_get columns k)
column_there columns k = slice_get-map column_tree columns k

pub ruleset looked_up = (column_there)

-- ---- numbers

-- no digits begin with a plus sign
pub plus_is_none : (digits : List ℕ) → (slice_index digits 0 == 43) ≡ true → None ≡ digits_number digits
unfolding digits_number
plus_is_none [] plus = absurd cc
plus_is_none (b ∷ bs) plus = let same : b ≡ 43 = eqb-true b 43 plus in rw same refl

own : IsNumeralModel (λ ds. all_ascii_digits ds ≡ true) (digits_value 10)
own = numerals_by_value _ tells_all_ascii_digits

said_by : {E : Type 0} (digits : List ℕ) (r : Result ℕ E) (all some small : Bool) → all_ascii_digits digits ≡ all → nat_lt 0 (length digits) ≡ some → nat_lt (digits_value 10 digits) (2 ^ 64) ≡ small
    → OkIff r ((all_ascii_digits digits ≡ true) × (0 < length digits) × (digits_value 10 digits < 2 ^ 64)) (digits_value 10 digits) → result_ok r ≡ digits_number digits
unfolding digits_number
said_by digits (Ok n) all some small a s m h =
    let one : nat_lt 0 (length digits) ≡ true = grind (arith, nat_tests) in
    let two : nat_lt (digits_value 10 digits) (2 ^ 64) ≡ true = grind (arith, nat_tests) in
    rw (h.0.0, one, two) (ap (λ (k : ℕ). Some k) h.1)
said_by digits (Err e) true true true a s m h = absurd (h (a, grind (arith, nat_tests), grind (arith, nat_tests)))
said_by digits (Err e) true true false a s m h = rw (a, s, m) refl
said_by digits (Err e) true false small a s m h = rw (a, s) refl
said_by digits (Err e) false some small a s m h = rw a refl

pub number_is : {E : Type 0} (digits : List ℕ) (r : Result ℕ E) → ParsesUnsigned 64 10 digits r → (slice_index digits 0 == 43) ≡ false → result_ok r ≡ digits_number digits
number_is digits r parsed plus = said_by digits r _ _ _ refl refl refl (parse_plain own 64 digits r parsed (eqb-false _ 43 plus))

-- where no dollar sign stands first
pub no_dollar : (name : List ℕ) → ((rest : List ℕ) → name ≢ 36 ∷ rest) → None ≡ numbered_place name
unfolding numbered_place
no_dollar [] none = refl
no_dollar (b ∷ bs) none =
    let other : b ≢ 36 = λ same. none bs (ap (λ x. x ∷ bs) same) in
    let differs : (b == 36) ≡ false = grind (arith, nat_tests) in
    rw differs refl
