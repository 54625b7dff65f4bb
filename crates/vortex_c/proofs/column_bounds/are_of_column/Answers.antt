use Rattle.std.proofs.Common.{◌≡◌, ◌-◌, ◌+◌, ℕ, Bool, true, false, List, MatchBool, ap, length, refl, slice_index, arith}
use Rattle.std.specs.List.Sorted.{IsNonDecreasing}
use Rattle.std.proofs.lemmas.Bool.{leb-false, leb-true}
use Rattle.std.proofs.lemmas.List.Sorted.{non_decreasing_from_is_sorted}
use Rattle.vortex_c.specs.ColumnBounds.{HasValue, IsColumn}
use Rattle.vortex_c.proofs.column_bounds.are_of_column.Goals as goal
use lib.Dec.{leb}

-- sorted offsets are those of a column exactly if the last one is not past the end
of_last : (bytes offsets : List ℕ) (b : Bool) → HasValue offsets 0 → IsNonDecreasing offsets → leb (slice_index offsets (length offsets - 1)) (length bytes) ≡ b
    → MatchBool b (IsColumn bytes offsets) (¬ (IsColumn bytes offsets))
of_last bytes offsets true value up e = λ k h.
    (up k (k + 1) 0 (omega arith) h, omega (arith, leb-true _ _ e, up (k + 1) (length offsets - 1) 0 (omega arith) (omega arith)))
of_last bytes offsets false value up e = λ h.
    let last : length offsets - 2 + 1 ≡ length offsets - 1 = omega arith in
    absurd (omega (arith, leb-false _ _ e, (h (length offsets - 2) (omega arith)).1, ap (slice_index offsets) last))

pub returns-then-is_sorted : goal.returns-then-is_sorted
returns-then-is_sorted c =
    of_last c.args.bytes.now c.args.offsets.now _ c.requires.value (non_decreasing_from_is_sorted c.args.offsets.now true c.if-is_sorted.ensures.cases) refl
