-- How many rows of a constant column match, by the truth of its array.
use Rattle.std.proofs.Common.{◌≡◌, suc, ◌+◌, Bool, true, false, cond, List, [], ◌∷◌, All, count_by, length, refl, sym, ap, ap₂, ◌∙◌, arith}
use Rattle.std.proofs.lemmas.List.Sums.{sum_by-cons}
use Rattle.vortex_value.specs.declared.scalars.Scalar.{Scalar}
use Rattle.vortex_cells.specs.Cells.{cell_of}
use Rattle.vortex_filter.specs.Formula.{Formula, is_match, truth}
use Rattle.vortex_filter.specs.Truths.{is_true}
use Rattle.vortex_filter.specs.declared.truth.Truth.{Truth}
use Rattle.constant_arrays.specs.declared.array.ConstantArray.{ConstantArray}
use Rattle.constant_arrays.specs.Items.{scalar_of}
use Rattle.constant_arrays.specs.Laws.{EqualsColumn}

count_alike : {X : Type 0} (p : X → Bool) (b : Bool) (xs : List X) → All (λ x. p x ≡ b) xs → count_by p xs ≡ cond b (length xs) 0
count_alike p true [] alike = refl
count_alike p false [] alike = refl
count_alike p true (x ∷ xs) alike =
    let first : p x ≡ true = alike 0 x (omega arith) in
    let others : count_by p xs ≡ length xs = count_alike p true xs (λ k d short. alike (suc k) d (omega (arith, short))) in
    sum_by-cons (λ y. cond (p y) 1 0) x xs ∙ ap₂ (λ c n. cond c 1 0 + n) first others ∙ omega arith
count_alike p false (x ∷ xs) alike =
    let first : p x ≡ false = alike 0 x (omega arith) in
    let others : count_by p xs ≡ 0 = count_alike p false xs (λ k d short. alike (suc k) d (omega (arith, short))) in
    sum_by-cons (λ y. cond (p y) 1 0) x xs ∙ ap₂ (λ c n. cond c 1 0 + n) first others

-- all rows match if the array's truth is True, and else none
pub matches_alike : (a : ConstantArray) (xs : List Scalar) (f : Formula) (t : Truth) → EqualsColumn a xs → t ≡ truth f (cell_of (scalar_of a) ∷ [])
    → cond (is_true t) (length xs) 0 ≡ count_by (λ x. is_match f (cell_of x ∷ [])) xs
matches_alike a xs f t equal is =
    sym (count_alike (λ x. is_match f (cell_of x ∷ [])) (is_true t) xs (λ k d short. ap is_true (equal.filters f k d short ∙ sym is)))
