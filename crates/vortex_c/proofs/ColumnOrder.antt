-- The least and the greatest of the values so far, with one value more.
use Rattle.std.proofs.Common.{◌≡◌, ℕ, ◌+◌, ◌<◌, inl, inr, List, sym, subst, ◌∙◌, ap, below_more, arith}
use Rattle.arrow_columns.proofs.ByteOrder.{Ranks, upward}
use Rattle.arrow_columns.specs.Spans.{Keeps}
use Rattle.vortex_bounds.specs.Strings.{NotAbove}

-- the place that is kept is the best of the first k values and of value k
pub best_so_far : (R : List ℕ → List ℕ → Type 0) → Ranks R → (V : ℕ → List ℕ) (k old new : ℕ) (x kept next : List ℕ) → x ≡ V k → kept ≡ V old → Keeps R x kept next k old new → old < k
    → ((j : ℕ) → j < k → R (V old) (V j)) → (new < k + 1) × (next ≡ V new) × ((j : ℕ) → j < k + 1 → R (V new) (V j))
best_so_far R r V k old new x kept next p q c l h =
    elim c [
      | inl t ↦
          let better : R (V k) (V old) = subst (λ y. R y (V old)) p (subst (R x) q t.0) in (
            omega (arith, t.2),
            t.1 ∙ p ∙ ap V (sym t.2),
            subst (λ i. (j : ℕ) → j < k + 1 → R (V i) (V j)) (sym t.2) (below_more _ _ (λ j b. r.on (V k) (V old) (V j) better (h j b)) (r.same (V k))),
          )
      | inr t ↦
          let worse : R (V old) (V k) = subst (λ y. R y (V k)) q (subst (R kept) p t.0) in (
            omega (arith, t.2, l),
            t.1 ∙ q ∙ ap V (sym t.2),
            subst (λ i. (j : ℕ) → j < k + 1 → R (V i) (V j)) (sym t.2) (below_more _ _ h worse),
          )
    ]

itself : (x : List ℕ) → NotAbove x x
itself x = let r : Ranks NotAbove = upward in r.same x

-- the first value is the least and the greatest of one
pub only_value : (V : ℕ → List ℕ) (j : ℕ) → j < 1 → NotAbove (V 0) (V j)
only_value V j l = below_more (λ i. NotAbove (V 0) (V i)) 0 (λ i h. absurd (omega arith)) (itself (V 0)) j l

pub only_value_back : (V : ℕ → List ℕ) (j : ℕ) → j < 1 → NotAbove (V j) (V 0)
only_value_back V j l = below_more (λ i. NotAbove (V i) (V 0)) 0 (λ i h. absurd (omega arith)) (itself (V 0)) j l
