-- Rows within a range, one more at a time, and all at once by the extremes.
use Rattle.std.proofs.Common.{◌≡◌, ◌∙◌, ℕ, ℤ, ◌+◌, ◌<◌, ◌≤ℤ◌, List, Option, Some, None, IsSomeAnd, below_more, slice_get, subst, sym}
use Rattle.std.proofs.lemmas.Option.{get_or_from_slice_get, slice_get_within}
use Rattle.std.specs.List.{All}
use Rattle.std.specs.Prelude.{MatchOption}
use Rattle.std.specs.Option.{IfSome}
use Rattle.arrow_columns.specs.Ranges.{AreWithinBefore, IsFirstOutside, IsWithin}
use Rattle.arrow_columns.specs.Statistics.{IsGreatestOf, IsLeastOf}
use Rattle.arrow_columns.proofs.RowSteps.{some_says, through}

same_cell : {X : Type 0} (x y : X) → Some x ≡ Some y → x ≡ y
same_cell x y e = cc

pub within_more : (least greatest : ℤ) (cells : List (Option ℤ)) (row : ℕ) (cell : Option ℤ) → slice_get cells row ≡ Some cell → IfSome cell (IsWithin least greatest)
    → AreWithinBefore least greatest cells row → AreWithinBefore least greatest cells (row + 1)
within_more least greatest cells row cell e h b =
    let P : ℕ → Type 0 = λ k. (z : ℤ) → slice_get cells k ≡ Some (Some z) → IsWithin least greatest z in
    let before : (k : ℕ) → k < row → P k = λ k l z s. b k z l s in
    let here : P row = λ z s. some_says (IsWithin least greatest) cell z (same_cell cell (Some z) (sym e ∙ s)) h in
    λ k z l s. below_more P row before here k l z s

pub outside_found : (least greatest : ℤ) (cells : List (Option ℤ)) (row : ℕ) (cell : Option ℤ) → slice_get cells row ≡ Some cell
    → IsSomeAnd cell (λ z. ¬ (IsWithin least greatest z)) → AreWithinBefore least greatest cells row → IsFirstOutside least greatest cells row
outside_found least greatest cells row (Some z) e h b = record { number = z; stands = e; outside = h; before = b }
outside_found least greatest cells row None e h b = absurd h

-- what holds of each cell holds of that of a row
pub got_holds : {X : Type 0} (P : X → Type 0) (cells : List X) (row : ℕ) (x : X) → All P cells → slice_get cells row ≡ Some x → P x
got_holds P cells row x h e = subst P (get_or_from_slice_get cells row x x e) (h row x (slice_get_within cells row x e))

pub extremes_within : (least greatest low high : ℤ) (cells : List (Option ℤ)) (end : ℕ) → least ≤ℤ low → high ≤ℤ greatest → IsLeastOf cells low → IsGreatestOf cells high
    → AreWithinBefore least greatest cells end
extremes_within least greatest low high cells end a b p q =
    λ k z l s. (
      through least low z a (got_holds (λ cell. IfSome cell (λ x. low ≤ℤ x)) cells k (Some z) p.1 s),
      through z high greatest (got_holds (λ cell. IfSome cell (λ x. x ≤ℤ high)) cells k (Some z) q.1 s) b,
    )

-- the same range
pub within_same : (least greatest l g : ℤ) (cells : List (Option ℤ)) (end : ℕ) → least ≡ l → greatest ≡ g → AreWithinBefore least greatest cells end → AreWithinBefore l g cells end
within_same least greatest l g cells end a b h =
    subst (λ x. AreWithinBefore x g cells end) a (subst (λ y. AreWithinBefore least y cells end) b h)

pub found_same : (least greatest l g : ℤ) (cells : List (Option ℤ)) (end : ℕ) (o : Option ℕ) → least ≡ l → greatest ≡ g
    → MatchOption o (AreWithinBefore least greatest cells end) (IsFirstOutside least greatest cells) → MatchOption o (AreWithinBefore l g cells end) (IsFirstOutside l g cells)
found_same least greatest l g cells end o a b h =
    subst (λ x. MatchOption o (AreWithinBefore x g cells end) (IsFirstOutside x g cells)) a
    (subst (λ y. MatchOption o (AreWithinBefore least y cells end) (IsFirstOutside least y cells)) b h)
