-- Steps of the order of raw values: a place that decides, and the end of the shorter tuple.
use Rattle.std.proofs.Common.{◌≡◌, ◌≢◌, ◌⊎◌, inl, inr, ℕ, ◌+◌, List, [], ◌∷◌, length, Option, Some, None, Ordering, Less, Equal, Greater, nat_cmp, ◌<◌, refl, arith}
use Rattle.std.proofs.Math.Nat.{suc-ne-zero}
use Rattle.std.proofs.lemmas.Bool.Decides.{nat_tests}
use Rattle.std.specs.Ordering.{partial_ordering_then}
use Rattle.vortex_value.specs.Values.Content.{contents}
use Rattle.vortex_value.specs.Order.{orders}
use Rattle.vortex_value.specs.Values.RawOf.{value_trees}
use Rattle.vortex_value.specs.declared.values.ScalarValue.{ScalarValue}
use Rattle.vortex_value.proofs.ValueSteps.{value_tree-Tuple, value_tree-Union, value_tree-Variant, variant_tree-parts, union_tree-parts}

-- a place that is not Equal decides
pub decided : (o : Option Ordering) (p : Option Ordering) → o ≢ Some Equal → partial_ordering_then o p ≡ o
decided None p h = refl
decided (Some Less) p h = refl
decided (Some Equal) p h = absurd (h refl)
decided (Some Greater) p h = refl

-- where one side ends, the lengths decide
pub ended : (vs ws : List (Option ScalarValue)) (n m : ℕ) → (length vs ≡ 0) ⊎ (length ws ≡ 0) → length vs + m ≡ length ws + n
    → orders (contents (value_trees vs)) (contents (value_trees ws)) ≡ Some (nat_cmp n m)
ended [] [] n m h e = let same : n ≡ m = omega arith in grind (arith, nat_tests)
ended [] (w ∷ ws) n m h e = let less : n < m = omega arith in grind (arith, nat_tests)
ended (v ∷ vs) [] n m h e = let more : m < n = omega arith in grind (arith, nat_tests)
ended (v ∷ vs) (w ∷ ws) n m h e = absurd (elim h [ inl p ↦ suc-ne-zero _ p | inr p ↦ suc-ne-zero _ p ])

pub ruleset shown = (decided, ended, value_tree-Tuple, value_tree-Union, value_tree-Variant, variant_tree-parts, union_tree-parts)
