-- The place of an id and the id at a place, where no id stands twice.
use Rattle.std.proofs.Common.{◌≡◌, ℕ, zero, suc, ◌+◌, ◌==◌, Bool, true, false, List, [], ◌∷◌, Some, slice_get, get_or, refl, sym, ap, ◌∙◌, subst, true≢false, arith}
use Rattle.std.specs.Cmp.{unsigned_Decides}
use Rattle.std.specs.List.{list_any, position_from}
use Rattle.std.proofs.lemmas.Bool.{cond-false, cond-true, or_parts}
use Rattle.std.proofs.lemmas.Iterator.Adapters.{position_from-zero}
use Rattle.std.proofs.lemmas.List.Quantifiers.{position-Some}
use Rattle.std.proofs.lemmas.Option.{same_Some, slice_get-get_or}
use Rattle.vortex_dtype.specs.Laws.{PlacesAreInverse}
use Rattle.vortex_dtype.specs.Refusals.{repeats}

-- what is not equal one way round is not the other
not_equal : (x y : ℕ) → (y == x) ≡ false → (x == y) ≡ false
not_equal x y h = known (x == y) refl
  where
    known : (b : Bool) → (x == y) ≡ b → b ≡ false
    known false e = refl
    known true e = absurd (true≢false (sym ((unsigned_Decides y x).1 (sym ((unsigned_Decides x y).0 e))) ∙ h))

-- an id that stands at no place is none of those that do
absent : (x id : ℕ) (xs : List ℕ) (k : ℕ) → list_any (λ y. y == x) xs ≡ false → slice_get xs k ≡ Some id → (x == id) ≡ false
absent x id [] k h e = cc
absent x id (y ∷ ys) zero h e = not_equal x id (subst (λ z. (z == x) ≡ false) (same_Some y id e) (or_parts (y == x) _ h).0)
absent x id (y ∷ ys) (suc k) h e = absent x id ys k (or_parts (y == x) _ h).1 e

found_from : (ids : List ℕ) (j i id : ℕ) → repeats ids ≡ false → slice_get ids i ≡ Some id → position_from (λ x. x == id) j ids ≡ Some (j + i)
found_from [] j i id h e = cc
found_from (x ∷ xs) j zero id h e =
    cond-true (x == id) (Some j) _ ((unsigned_Decides x id).1 (same_Some x id e)) ∙ ap Some (let same : j ≡ j + 0 = omega arith in same)
found_from (x ∷ xs) j (suc k) id h e =
    cond-false (x == id) (Some j) _ (absent x id xs k (or_parts _ _ h).0 e)
    ∙ found_from xs (j + 1) k id (or_parts _ _ h).1 e
    ∙ ap Some (let same : (j + 1) + k ≡ j + suc k = omega arith in same)

pub places_are_inverse : PlacesAreInverse
places_are_inverse ids i id h = (
  λ e. position_from-zero (λ x. x == id) ids ∙ found_from ids 0 i id h e ∙ ap Some (let same : 0 + i ≡ i = omega arith in same),
  λ e.
      let found = position-Some (λ x. x == id) ids i 0 e in
      slice_get-get_or ids i 0 found.0 ∙ ap Some ((unsigned_Decides (get_or ids i 0) id).0 found.1),
)
