-- Steps of the test for variants.
use Rattle.std.proofs.Common.{◌≡◌, ◌↔◌, ◌||◌, ◌<◌, ◌≤◌, ℕ, zero, suc, ◌+◌, List, [], ◌∷◌, length, drop, get_or, drop-cons, Bool, true, false, refl, sym, subst, ap, ap₂, ◌∙◌, arith, true≢false}
use Rattle.std.proofs.Math.Seq.{drop-nil}
use Rattle.vortex_dtype.specs.TypeTree.{TypeTree, list_type, fixed_size_list_type, map_type, struct_type, union_type, variant_type, extension_type, TypeTrees, no_types, type_then}
use Rattle.vortex_value.specs.TypesWithin.{HasNoVariant, HaveNoVariant}
use Rattle.vortex_dtype.specs.declared.types.DType.{DType}
use Rattle.vortex_dtype.specs.TypeOf.{type_of, dtype_trees}
use Rattle.vortex_dtype.specs.Lemmas.TypeSize.{type_size, types_size, type_size-at}
use Rattle.vortex_cells.specs.Variants.{HasByteIds, HaveByteIds, has_variant, have_variant}
use Rattle.vortex_dtype.specs.Lemmas.TypeLevels.{type_of-List, type_of-FixedSizeList, type_of-Map, type_of-Struct, type_of-Union, type_of-Extension}

pub or_false : (b c : Bool) → b ≡ false → (b || c) ≡ c
or_false b c h = rw h refl

-- a type among several is no larger than they all
pub type_size_item : (ts : List DType) (i : ℕ) (t : DType) → i < length ts → t ≡ get_or ts i t → type_size (type_of t) ≤ types_size (dtype_trees ts)
type_size_item ts i t h is = subst (λ (d : DType). type_size (type_of d) ≤ types_size (dtype_trees ts)) (sym is) (type_size-at ts i t h)

-- the type at a place, and the rest
pub have_variant-at : (i : ℕ) (ts : List DType) (t : DType) → i < length ts → t ≡ get_or ts i t
    → have_variant (dtype_trees (drop i ts)) ≡ (has_variant (type_of t) || have_variant (dtype_trees (drop (suc i) ts)))
have_variant-at i ts t h is = let e = drop-cons ts i t h in rw (e, ← is) refl

-- the test is the one of `HasNoVariant`

or_both : (b c : Bool) → (b || c) ≡ false → (b ≡ false) × (c ≡ false)
or_both false c h = (refl, h)
or_both true c h = cc

mutual
  pub none-from_test : (t : TypeTree) → has_variant t ≡ false → HasNoVariant t
  none-from_test (variant_type n) h = cc
  none-from_test (list_type e n) h = none-from_test e h
  none-from_test (fixed_size_list_type e size n) h = none-from_test e h
  none-from_test (map_type k w sorted n) h = let both = or_both (has_variant k) (has_variant w) h in (none-from_test k both.0, none-from_test w both.1)
  none-from_test (struct_type names ts n) h = none-from_tests ts h
  none-from_test (union_type names ts ids n) h = none-from_tests ts h
  none-from_test (extension_type id metadata t) h = none-from_test t h
  none-from_test _ h = tt

  pub none-from_tests : (ts : TypeTrees) → have_variant ts ≡ false → HaveNoVariant ts
  none-from_tests no_types h = tt
  none-from_tests (type_then t ts) h = let both = or_both (has_variant t) (have_variant ts) h in (none-from_test t both.0, none-from_tests ts both.1)

mutual
  pub test-from_none : (t : TypeTree) → HasNoVariant t → has_variant t ≡ false
  test-from_none (variant_type n) h = absurd h
  test-from_none (list_type e n) h = test-from_none e h
  test-from_none (fixed_size_list_type e size n) h = test-from_none e h
  test-from_none (map_type k w sorted n) h = or_false (has_variant k) (has_variant w) (test-from_none k h.0) ∙ test-from_none w h.1
  test-from_none (struct_type names ts n) h = tests-from_none ts h
  test-from_none (union_type names ts ids n) h = tests-from_none ts h
  test-from_none (extension_type id metadata t) h = test-from_none t h
  test-from_none _ h = refl

  tests-from_none : (ts : TypeTrees) → HaveNoVariant ts → have_variant ts ≡ false
  tests-from_none no_types h = refl
  tests-from_none (type_then t ts) h = or_false (has_variant t) (have_variant ts) (test-from_none t h.0) ∙ tests-from_none ts h.1

-- an answer that is the one of the test says whether there is none
pub tied : (t : TypeTree) (r : Bool) → r ≡ has_variant t → (r ≡ false) ↔ HasNoVariant t
tied t r is = (λ h. none-from_test t (sym is ∙ h), λ n. is ∙ test-from_none t n)

pub tied_all : (ts : TypeTrees) (r : Bool) → r ≡ have_variant ts → (r ≡ false) ↔ HaveNoVariant ts
tied_all ts r is = (λ h. none-from_tests ts (sym is ∙ h), λ n. is ∙ tests-from_none ts n)

pub ruleset shown = (or_false, type_size_item, have_variant-at, tied, tied_all, type_of-List, type_of-FixedSizeList, type_of-Map, type_of-Struct, type_of-Union, type_of-Extension)

-- a variant that was found, and one that was not
pub found_variant : (t : TypeTree) → has_variant t ≡ true → ¬ (HasNoVariant t)
found_variant t h n = true≢false (sym h ∙ test-from_none t n)

pub found_variants : (ts : TypeTrees) → have_variant ts ≡ true → ¬ (HaveNoVariant ts)
found_variants ts h n = true≢false (sym h ∙ tests-from_none ts n)

pub ruleset decided = (none-from_test, none-from_tests, found_variant, found_variants)

-- the ids of the types from a place on

pub rest-decides : (i : ℕ) (ts : List DType) (t : DType) (b c : Bool) → i < length ts → t ≡ get_or ts i t → b ≡ has_variant (type_of t) → b ≡ false → have_variant (dtype_trees (drop i ts)) ≡ c → have_variant (dtype_trees (drop (i + 1) ts)) ≡ c
rest-decides i ts t b c less is e f h =
    let one : i + 1 ≡ suc i = omega arith in
    ap (λ n. have_variant (dtype_trees (drop n ts))) one ∙ sym (or_false (has_variant (type_of t)) (have_variant (dtype_trees (drop (suc i) ts))) (sym e ∙ f)) ∙ sym (have_variant-at i ts t less is) ∙ h

pub ids-from : (i : ℕ) (ts : List DType) (t : DType) → i < length ts → t ≡ get_or ts i t → HasByteIds (type_of t) → (HaveByteIds (dtype_trees (drop i ts)) → HaveByteIds (dtype_trees ts)) → HaveByteIds (dtype_trees (drop (i + 1) ts))
    → HaveByteIds (dtype_trees ts)
ids-from i ts t less is one all more =
    let next : suc i ≡ i + 1 = omega arith in
    let e : drop i ts ≡ t ∷ drop (i + 1) ts = drop-cons ts i t less ∙ ap₂ (λ d n. d ∷ drop n ts) (sym is) next in
    all (subst (λ ds. HaveByteIds (dtype_trees ds)) (sym e) (one, more))

pub ids-end : (i : ℕ) (ts : List DType) → length ts ≤ i → HaveByteIds (dtype_trees (drop i ts))
ids-end i [] h = subst (λ ds. HaveByteIds (dtype_trees ds)) (sym (drop-nil i)) tt
ids-end zero (t ∷ ts) h = absurd (omega arith)
ids-end (suc i) (t ∷ ts) h = ids-end i ts (omega arith)

-- a type at a place that has one, and no place behind the last

pub found-at : (i : ℕ) (ts : List DType) (t : DType) (b : Bool) → i < length ts → t ≡ get_or ts i t → b ≡ has_variant (type_of t) → b ≡ true → have_variant (dtype_trees (drop i ts)) ≡ true
found-at i ts t b less is e f = have_variant-at i ts t less is ∙ ap (λ c. c || have_variant (dtype_trees (drop (suc i) ts))) (sym e ∙ f)

pub none-end : (i : ℕ) (ts : List DType) → length ts ≤ i → have_variant (dtype_trees (drop i ts)) ≡ false
none-end i [] h = ap (λ ds. have_variant (dtype_trees ds)) (drop-nil i)
none-end zero (t ∷ ts) h = absurd (omega arith)
none-end (suc i) (t ∷ ts) h = none-end i ts (omega arith)
