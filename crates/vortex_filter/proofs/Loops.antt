-- A loop over literals that ends early, because what it holds does not change any more.
use Rattle.std.proofs.Common.{◌≡◌, ℕ, ◌<◌, List, [], ◌∷◌, length, take, get_or, map, fold, refl, sym, ap, ◌∙◌}
use Rattle.std.proofs.lemmas.List.Folds.{fold_stuck}
use Rattle.vortex_value.specs.declared.scalars.Scalar.{Scalar}
use Rattle.vortex_cells.specs.Cells.{Cell, cell_of}

fused : {B : Type 0} (f : B → Cell → B) (a : B) (xs : List Scalar) → fold f a (map cell_of xs) ≡ fold (λ t y. f t (cell_of y)) a xs
fused f a [] = refl
fused f a (x ∷ xs) = fused f (f a (cell_of x)) xs

pub stuck_in : {B : Type 0} (f : B → Cell → B) (z : B) → ((c : Cell) → f z c ≡ z) → (a : B) (xs : List Scalar) (i : ℕ) (s : Scalar)
    → i < length xs → s ≡ get_or xs i s → f (fold f a (map cell_of (take i xs))) (cell_of s) ≡ z → z ≡ fold f a (map cell_of xs)
stuck_in f z stays a xs i s h e k =
    fold_stuck (λ t y. f t (cell_of y)) z (λ y. stays (cell_of y)) a xs i s h
    (ap (λ y. f (fold (λ t x. f t (cell_of x)) a (take i xs)) (cell_of y)) (sym e)
    ∙ ap (λ t. f t (cell_of s)) (sym (fused f a (take i xs))) ∙ k)
    ∙ sym (fused f a xs)
