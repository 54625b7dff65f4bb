-- Steps of the test for extensions.
use Rattle.std.proofs.Common.{◌≡◌, ◌||◌, ◌<◌, ◌≤◌, ℕ, suc, ◌+◌, List, length, drop, get_or, drop-cons, Bool, false, refl, sym, subst, ap, ◌∙◌, arith}
use Rattle.vortex_dtype.specs.declared.types.DType.{DType}
use Rattle.vortex_dtype.specs.TypeOf.{type_of, dtype_trees}
use Rattle.vortex_dtype.specs.Lemmas.TypeSize.{type_size, types_size, type_size-at}
use Rattle.vortex_dtype.specs.Lemmas.TypeLevels.{type_of-List, type_of-FixedSizeList, type_of-Map, type_of-Struct, type_of-Union, type_of-Extension}
use Rattle.vortex_filter.specs.Extensions.{has_extension, have_extension}

pub or_false : (b c : Bool) → b ≡ false → (b || c) ≡ c
or_false b c h = rw h refl

-- a type among several is no larger than they all
pub type_size_item : (ts : List DType) (i : ℕ) (t : DType) → i < length ts → t ≡ get_or ts i t → type_size (type_of t) ≤ types_size (dtype_trees ts)
type_size_item ts i t h is = subst (λ (d : DType). type_size (type_of d) ≤ types_size (dtype_trees ts)) (sym is) (type_size-at ts i t h)

-- the type at a place, and the rest
pub have_extension-at : (i : ℕ) (ts : List DType) (t : DType) → i < length ts → t ≡ get_or ts i t
    → have_extension (dtype_trees (drop i ts)) ≡ (has_extension (type_of t) || have_extension (dtype_trees (drop (suc i) ts)))
have_extension-at i ts t h is = let e = drop-cons ts i t h in rw (e, ← is) refl

pub ruleset shown = (or_false, type_size_item, have_extension-at, type_of-List, type_of-FixedSizeList, type_of-Map, type_of-Struct, type_of-Union, type_of-Extension)

pub rest-decides : (i : ℕ) (ts : List DType) (t : DType) (b c : Bool) → i < length ts → t ≡ get_or ts i t → b ≡ has_extension (type_of t) → b ≡ false → have_extension (dtype_trees (drop i ts)) ≡ c → have_extension (dtype_trees (drop (i + 1) ts)) ≡ c
rest-decides i ts t b c less is e f h =
    let one : i + 1 ≡ suc i = omega arith in
    ap (λ n. have_extension (dtype_trees (drop n ts))) one ∙ sym (or_false (has_extension (type_of t)) (have_extension (dtype_trees (drop (suc i) ts))) (sym e ∙ f)) ∙ sym (have_extension-at i ts t less is) ∙ h
