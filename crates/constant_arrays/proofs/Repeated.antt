-- Lists that repeat one item.
use Rattle.std.proofs.Common.{◌≡◌, ℕ, zero, suc, ◌-◌, ◌<◌, ◌≤◌, ◌∷◌, length, map, replicate, take, slice_get, slice_range, Some, refl, sym, ap, ◌∙◌, arith}
use Rattle.std.proofs.lemmas.List.{drop-replicate, length-replicate, take-replicate}

pub map-replicate : {X Y : Type 0} (f : X → Y) (n : ℕ) (x : X) → map f (replicate n x) ≡ replicate n (f x)
map-replicate f zero x = refl
map-replicate f (suc n) x = ap (λ ys. f x ∷ ys) (map-replicate f n x)

-- what is asked of each item is answered once
pub asked_once : {X Y : Type 0} (f : X → Y) (n : ℕ) (x : X) (y : Y) → y ≡ f x → map f (replicate n x) ≡ replicate (length (replicate n x)) y
asked_once f n x y e =
    map-replicate f n x ∙ ap (λ k. replicate k (f x)) (sym (length-replicate n x)) ∙ ap (λ z. replicate (length (replicate n x)) z) (sym e)

pub slice_get-replicate : {X : Type 0} (n i : ℕ) (x y : X) → i < n → y ≡ x → slice_get (replicate n x) i ≡ Some y
slice_get-replicate zero i x y h e = absurd (omega (arith, h))
slice_get-replicate (suc n) zero x y h e = ap Some (sym e)
slice_get-replicate (suc n) (suc i) x y h e = slice_get-replicate n i x y (omega (arith, h)) e

pub slice_range-replicate : {X : Type 0} (n start end : ℕ) (x : X) → start ≤ end → end ≤ n → slice_range (replicate n x) start end ≡ replicate (end - start) x
slice_range-replicate n start end x ordered within =
    let short : end - start ≤ n - start = omega (arith, ordered, within) in
    ap (take (end - start)) (drop-replicate start n x) ∙ take-replicate (end - start) (n - start) x short
