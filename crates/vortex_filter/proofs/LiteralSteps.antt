-- The literals of each kind of filter, that they are valid, and copies of them.
use Rattle.std.proofs.Common.{◌≡◌, ℕ, Vec, Global, Box, List, [], ◌∷◌, ◌++◌, map, Result, Ok, Err, IfOk, MatchResult, sym, subst, ap, ap₂, ◌∙◌, rules}
use Rattle.std.proofs.lemmas.List.{map-append}
use Rattle.like_patterns.specs.declared.case.Case.{Case}
use Rattle.like_patterns.specs.Patterns.{Part}
use Rattle.vortex_dtype.specs.TypeTree.{TypeTree}
use Rattle.vortex_value.specs.Validity.{Valid}
use Rattle.vortex_value.specs.Values.RawTree.{RawTree}
use Rattle.vortex_value.specs.Values.Scalars.{IsMadeOf, IsValid, scalar_raw, scalar_type}
use Rattle.vortex_value.specs.declared.scalars.Scalar.{Scalar}
use Rattle.vortex_filter.specs.declared.error.FilterError.{FilterError}
use Rattle.vortex_filter.specs.declared.filter.Filter.{Filter, Constant, Compare, IsNull, In, Between, StartsWith, Like, And, Or, Not, the_lemmas}
use Rattle.vortex_filter.specs.declared.literals.Position.{Position}
use Rattle.vortex_filter.specs.declared.literals.Position.TheVariants.{Exactly, JustAbove, Lacking}
use Rattle.vortex_filter.specs.declared.operator.CompareOperator.{CompareOperator}
use Rattle.vortex_filter.specs.declared.operator.CompareOperator.TheVariants.{Eq, NotEq, Gt, Gte, Lt, Lte}
use Rattle.vortex_filter.specs.declared.truth.Truth.{Truth}
use Rattle.vortex_filter.specs.FilterLiterals.{AreValid, MakesCopies, MakesValid, exactly_of, literals_of}
use Rattle.vortex_filter.specs.Makes.{OfParts}
use Rattle.vortex_filter.specs.Positions.{compared_scalars, scalars_at, scalars_below, scalars_of}

-- ---- the literals of each kind of filter

pub literals-Constant : (t : Truth) → literals_of (Constant t) ≡ []
literals-Constant t = search (rules, the_lemmas)

pub literals-Compare : (k : ℕ) (op : CompareOperator) (x : Scalar) → literals_of (Compare k op x) ≡ x ∷ []
literals-Compare k op x = search (rules, the_lemmas)

pub literals-IsNull : (k : ℕ) → literals_of (IsNull k) ≡ []
literals-IsNull k = search (rules, the_lemmas)

pub literals-In : (k : ℕ) (xs : Vec Scalar Global) → literals_of (In k xs) ≡ xs.items
literals-In k xs = search (rules, the_lemmas)

pub literals-Between : (k : ℕ) (x y : Scalar) → literals_of (Between k x y) ≡ x ∷ y ∷ []
literals-Between k x y = search (rules, the_lemmas)

pub literals-StartsWith : (k : ℕ) (p : Scalar) → literals_of (StartsWith k p) ≡ p ∷ []
literals-StartsWith k p = search (rules, the_lemmas)

pub literals-Like : (k : ℕ) (parts : List Part) (case : Case) → literals_of (Like k parts case) ≡ []
literals-Like k parts case = search (rules, the_lemmas)

pub literals-And : (f g : Box Filter Global) → literals_of (And f g) ≡ literals_of f.value ++ literals_of g.value
literals-And f g = search (rules, the_lemmas)

pub literals-Or : (f g : Box Filter Global) → literals_of (Or f g) ≡ literals_of f.value ++ literals_of g.value
literals-Or f g = search (rules, the_lemmas)

pub literals-Not : (f : Box Filter Global) → literals_of (Not f) ≡ literals_of f.value
literals-Not f = search (rules, the_lemmas)

pub ruleset literals = (literals-Constant, literals-Compare, literals-IsNull, literals-In, literals-Between, literals-StartsWith, literals-Like, literals-And, literals-Or, literals-Not)

-- ---- valid scalars

pub valid_left : (xs ys : List Scalar) → AreValid (xs ++ ys) → AreValid xs
valid_left [] ys v = tt
valid_left (x ∷ xs) ys v = (v.0, valid_left xs ys v.1)

pub valid_right : (xs ys : List Scalar) → AreValid (xs ++ ys) → AreValid ys
valid_right [] ys v = v
valid_right (x ∷ xs) ys v = valid_right xs ys v.1

valid_both : (xs ys : List Scalar) → AreValid xs → AreValid ys → AreValid (xs ++ ys)
valid_both [] ys v w = w
valid_both (x ∷ xs) ys v w = (v.0, valid_both xs ys v.1 w)

pub valid_same : (xs ys : List Scalar) → xs ≡ ys → AreValid ys → AreValid xs
valid_same xs ys e v = subst AreValid (sym e) v

pub valid_with : (zs xs ys : List Scalar) → zs ≡ xs ++ ys → AreValid xs → AreValid ys → AreValid zs
valid_with zs xs ys e v w = subst AreValid (sym e) (valid_both xs ys v w)

pub constant_valid : (t : Truth) → AreValid (literals_of (Constant t))
constant_valid t = subst AreValid (sym (literals-Constant t)) tt

-- of a position

valid_below : (op : CompareOperator) (x : Scalar) → AreValid (x ∷ []) → AreValid (scalars_below op x)
valid_below Eq x v = tt
valid_below NotEq x v = tt
valid_below Gt x v = v
valid_below Gte x v = v
valid_below Lt x v = v
valid_below Lte x v = v

pub valid_compared : (op : CompareOperator) (p : Position) → AreValid (scalars_of p) → AreValid (compared_scalars op p)
valid_compared op (Exactly x) v = v
valid_compared op (JustAbove x) v = valid_below op x v
valid_compared op (Lacking o) v = v

pub valid_at : (p : Position) → AreValid (scalars_of p) → AreValid (scalars_at p)
valid_at (Exactly x) v = v
valid_at (JustAbove x) v = tt
valid_at (Lacking o) v = v

pub ruleset valid = (valid_same, valid_with, valid_compared, valid_at, constant_valid, literals-Constant, literals-Compare, literals-IsNull, literals-In, literals-Between, literals-StartsWith, literals-Like, literals-And, literals-Or, literals-Not)

-- ---- copies

abbrev pair_of : TypeTree → RawTree → TypeTree × RawTree
pair_of t v = (t, v)

pub copied_exactly : (x y : Scalar) → IsMadeOf (scalar_type x) (scalar_raw x) y → exactly_of y ≡ exactly_of x
copied_exactly x y m = ap₂ pair_of m.typed m.value

pub copy_valid : (x y : Scalar) → exactly_of y ≡ exactly_of x → IsValid x → IsValid y
copy_valid x y e v = subst (λ (p : TypeTree × RawTree). Valid p.0 p.1) (sym e) v

copies_are_valid : (xs ys : List Scalar) → map exactly_of xs ≡ map exactly_of ys → AreValid ys → AreValid xs
copies_are_valid [] [] e v = tt
copies_are_valid [] (y ∷ ys) e v = absurd cc
copies_are_valid (x ∷ xs) [] e v = absurd cc
copies_are_valid (x ∷ xs) (y ∷ ys) e v =
    let both : exactly_of x ∷ map exactly_of xs ≡ exactly_of y ∷ map exactly_of ys = e in
    let first : exactly_of x ≡ exactly_of y = cc in
    let rest : map exactly_of xs ≡ map exactly_of ys = cc in
    (copy_valid y x first v.0, copies_are_valid xs ys rest v.1)

pub copies_valid : (xs : List Scalar) (r : Result Filter FilterError) → MakesCopies xs r → AreValid xs → MakesValid r
copies_valid xs (Ok g) h v = copies_are_valid (literals_of g) xs h v
copies_valid xs (Err e) h v = tt

joined_copies : (zs ls rs xs ys : List Scalar) → zs ≡ ls ++ rs → map exactly_of ls ≡ map exactly_of xs → map exactly_of rs ≡ map exactly_of ys → map exactly_of zs ≡ map exactly_of (xs ++ ys)
joined_copies zs ls rs xs ys e h k = ap (map exactly_of) e ∙ map-append exactly_of ls rs ∙ ap₂ ◌++◌ h k ∙ sym (map-append exactly_of xs ys)

pub both_copies : (xs ys : List Scalar) (l r s : Result Filter FilterError) → MakesCopies xs l → MakesCopies ys r
    → OfParts (λ f g. IfOk s (λ h. literals_of h ≡ literals_of f ++ literals_of g)) (λ e. s ≡ Err e) l r → MakesCopies (xs ++ ys) s
both_copies xs ys (Err e) r s h k w = subst (MakesCopies (xs ++ ys)) (sym w) tt
both_copies xs ys (Ok f) (Err e) s h k w = subst (MakesCopies (xs ++ ys)) (sym w) tt
both_copies xs ys (Ok f) (Ok g) (Ok p) h k w = joined_copies (literals_of p) (literals_of f) (literals_of g) xs ys w h k
both_copies xs ys (Ok f) (Ok g) (Err e) h k w = tt

pub negation_copies : (xs : List Scalar) (l s : Result Filter FilterError) → MakesCopies xs l → MatchResult l (λ f. IfOk s (λ h. literals_of h ≡ literals_of f)) (λ e. s ≡ Err e) → MakesCopies xs s
negation_copies xs (Err e) s h w = subst (MakesCopies xs) (sym w) tt
negation_copies xs (Ok f) (Ok p) h w = ap (map exactly_of) w ∙ h
negation_copies xs (Ok f) (Err e) h w = tt

pub ruleset copied = (both_copies, negation_copies, literals-Constant, literals-Compare, literals-IsNull, literals-In, literals-Between, literals-StartsWith, literals-Like, literals-And, literals-Or, literals-Not)

-- ---- filters of parts

pub both_valid : (l r s : Result Filter FilterError) → OfParts (λ f g. IfOk s (λ h. literals_of h ≡ literals_of f ++ literals_of g)) (λ e. s ≡ Err e) l r → MakesValid l → MakesValid r → MakesValid s
both_valid (Err e) r s w h k = subst MakesValid (sym w) tt
both_valid (Ok f) (Err e) s w h k = subst MakesValid (sym w) tt
both_valid (Ok f) (Ok g) (Ok p) w h k = valid_with (literals_of p) (literals_of f) (literals_of g) w h k
both_valid (Ok f) (Ok g) (Err e) w h k = tt

pub negation_valid : (l s : Result Filter FilterError) → MatchResult l (λ f. IfOk s (λ h. literals_of h ≡ literals_of f)) (λ e. s ≡ Err e) → MakesValid l → MakesValid s
negation_valid (Err e) s w h = subst MakesValid (sym w) tt
negation_valid (Ok f) (Ok p) w h = valid_same (literals_of p) (literals_of f) w h
negation_valid (Ok f) (Err e) w h = tt
