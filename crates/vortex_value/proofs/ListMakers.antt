-- Children of the right types make valid lists.
use Rattle.std.proofs.Common.{◌≡◌, ◌≤◌, ◌<◌, ◌+◌, ℕ, nat_eq, nat_lt, Bool, true, false, not, cond, if◌then◌else◌, List, [], ◌∷◌, ◌++◌, length, length-append, Option, Some, None, position, get_or, refl, ap, subst, suc, option_map, arith}
use Rattle.std.proofs.lemmas.Bool.{not-false}
use Rattle.std.proofs.lemmas.Bool.Decides.{nat_tests}
use Rattle.std.proofs.lemmas.List.Elements.{All-tail}
use Rattle.std.proofs.lemmas.List.Folds.{position_or_len_push}
use Rattle.std.proofs.lemmas.List.Sums.{fails_before_first, prefix_len-le-length}
use Rattle.std.specs.List.{All, position_or_len}
use Rattle.std.specs.Option.{option_or}
use Rattle.vortex_dtype.specs.TypeEquality.{tree_eq}
use Rattle.vortex_dtype.specs.Lemmas.TypeLaws.{tree_eq-Decides}
use Rattle.vortex_dtype.specs.TypeTree.{TypeTree}
use Rattle.vortex_dtype.specs.declared.error.VortexError.{VortexError}
use Rattle.vortex_value.specs.Makers.{list_cause, child_trees, wrong_place}
use Rattle.vortex_value.specs.Values.RawTree.{count}
use Rattle.vortex_value.specs.Values.Scalars.{IsValid, scalar_raw, scalar_type}
use Rattle.vortex_value.specs.Validity.{EachValid, Valid}
use Rattle.vortex_value.specs.declared.scalars.Scalar.{Scalar}

not_before : (a b : ℕ) → cond (nat_lt a b) (Some a) None ≡ None → b ≤ a
not_before a b h = grind (arith, nat_tests)

-- where no place passes, each element fails
pub none_passes : {X : Type 0} (p : X → Bool) (xs : List X) → position p xs ≡ None → (k : ℕ) (d : X) → k < length xs → p (get_or xs k d) ≡ false
none_passes p xs h k d below =
    let past = not_before (position_or_len p xs) (length xs) h in
    fails_before_first p xs k d (omega arith)

placed : (b : Bool) (place n at size : ℕ) → n ≤ place → place ≤ n → at ≡ cond (nat_eq place n) (n + cond b 0 1) place → size ≡ n + 1
    → cond (nat_lt at size) (Some at) None ≡ (if b then Some n else None)
placed true place n at size past within h long = grind (arith, nat_tests)
placed false place n at size past within h long = grind (arith, nat_tests)

-- where no element passes, one more decides
pub next_place : {X : Type 0} (p : X → Bool) (xs : List X) (x : X) → position p xs ≡ None → position p (xs ++ x ∷ []) ≡ (if p x then Some (length xs) else None)
next_place p xs x h =
    placed (p x) (position_or_len p xs) (length xs) (position_or_len p (xs ++ x ∷ [])) (length (xs ++ x ∷ [])) (not_before (position_or_len p xs) (length xs) h)
    (prefix_len-le-length (λ y. not (p y)) xs) (position_or_len_push p xs x) (length-append xs (x ∷ []))

-- each child is valid for the expected type
pub children_valid : (expected : TypeTree) (xs : List Scalar) → wrong_place expected xs ≡ None → All IsValid xs → All (λ x. Valid expected (scalar_raw x)) xs
children_valid expected xs h valid k d below =
    let x = get_or xs k d in
    let right = not-false (tree_eq (scalar_type x) expected) (none_passes (λ y. not (tree_eq (scalar_type y) expected)) xs h k d below) in
    subst (λ t. Valid t (scalar_raw x)) ((tree_eq-Decides (scalar_type x) expected).0 right) (valid k d below)

each_valid : (e : TypeTree) (xs : List Scalar) → All (λ x. Valid e (scalar_raw x)) xs → EachValid e (child_trees xs)
each_valid e [] valid = tt
each_valid e (x ∷ xs) valid = (valid 0 x (omega arith), each_valid e xs (All-tail (λ y. Valid e (scalar_raw y)) x xs valid))

no_wrong_place : (o : Option ℕ) (f : ℕ → VortexError) (p : Option VortexError) → option_or (option_map f o) p ≡ None → o ≡ None
no_wrong_place None f p h = refl
no_wrong_place (Some i) f p h = cc

-- the children make valid parts of a list
pub list_valid : (e : TypeTree) (xs : List Scalar) → list_cause e xs ≡ None → All IsValid xs → EachValid e (child_trees xs)
list_valid e xs h valid = each_valid e xs (children_valid e xs (no_wrong_place _ _ _ h) valid)

-- there are as many parts as children
pub count_raws : (xs : List Scalar) → count (child_trees xs) ≡ length xs
count_raws [] = refl
count_raws (x ∷ xs) = ap suc (count_raws xs)
