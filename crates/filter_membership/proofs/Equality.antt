-- A cell that is equal to a literal has its hash.
use Rattle.std.proofs.Common.{◌≡◌, ℕ, Bool, true, false, ◌||◌, cond, List, [], ◌∷◌, fold, map, Option, Some, None, Ordering, Less, Equal, Greater, refl, sym, ap, ◌∙◌}
use Rattle.std.specs.List.{list_any}
use Rattle.std.proofs.lemmas.Bool.{false≢true}
use Rattle.vortex_cells.specs.Cells.{Cell, cell_order, is_null_cell}
use Rattle.value_membership.specs.Members.{hash_of}
use Rattle.value_membership.proofs.Equality.{equal_values_have_one_hash}
use Rattle.vortex_filter.specs.Formula.{compare_truth, order_truth}
use Rattle.vortex_filter.specs.Truths.{truth_or}
use Rattle.vortex_filter.specs.declared.operator.CompareOperator.TheVariants.{Eq}
use Rattle.vortex_filter.specs.declared.truth.Truth.{Truth}
use Rattle.vortex_filter.specs.declared.truth.Truth.TheVariants.{False, Unknown, True}
use Rattle.filter_pruning.proofs.Tests.{or_false}
use Rattle.filter_membership.specs.Filters.{is_keyed, literal_hash}
use Rattle.filter_membership.specs.Predicates.{may_have}

equal_order : (o : Option Ordering) → order_truth Eq o ≡ True → o ≡ Some Equal
equal_order None h = cc
equal_order (Some Less) h = cc
equal_order (Some Equal) h = refl
equal_order (Some Greater) h = cc

-- a comparison that is True is one of values, which have an order
true_order : (b : Bool) (t : Truth) → cond b Unknown t ≡ True → (b ≡ false) × (t ≡ True)
true_order true t h = cc
true_order false t h = (refl, h)

-- of a cell that is equal to the literal: it is a value, and has the literal's hash
pub equal_hash : (x literal : Cell) → compare_truth Eq x literal ≡ True → (is_null_cell x ≡ false) × (hash_of x ≡ hash_of literal)
equal_hash x literal h =
    let parts = true_order (is_null_cell x || is_null_cell literal) (order_truth Eq (cell_order x literal)) h in
    ((or_false _ _ parts.0).0, equal_values_have_one_hash x literal (equal_order (cell_order x literal) parts.1))

-- ---- literals

-- the hash of a cell may be had, if the cell is a value
pub HasCell : (ℕ → Bool) → Cell → Type 0
HasCell may x = is_null_cell x ≡ false → may (hash_of x) ≡ true

pub cell_had : (may : ℕ → Bool) (x : Cell) → (is_null_cell x ≡ false → may (hash_of x) ≡ true) → HasCell may x
unfolding HasCell
cell_had may x h = h

by_key : (b : Bool) (may : ℕ → Bool) (hash : ℕ) → may_have may (cond b (Some hash) None) ≡ false → may hash ≡ false
by_key true may hash h = h
by_key false may hash h = absurd (false≢true (sym h))

-- a literal that may not be had is not equal to the cell
pub not_equal : (may : ℕ → Bool) (x literal : Cell) → HasCell may x → may_have may (literal_hash literal) ≡ false → compare_truth Eq x literal ≡ True → ⊥
unfolding HasCell
not_equal may x literal has none h =
    let equal = equal_hash x literal h in
    false≢true (sym (by_key (is_keyed literal) may (hash_of literal) none) ∙ ap may (sym equal.1) ∙ has equal.0)

or_not_true : (s t : Truth) → (s ≡ True → ⊥) → (t ≡ True → ⊥) → truth_or s t ≡ True → ⊥
or_not_true True t p q h = p refl
or_not_true Unknown True p q h = q refl
or_not_true Unknown Unknown p q h = cc
or_not_true Unknown False p q h = cc
or_not_true False True p q h = q refl
or_not_true False Unknown p q h = cc
or_not_true False False p q h = cc

-- literals that may not be had are not equal to the cell
pub none_equal : (may : ℕ → Bool) (x : Cell) (literals : List Cell) (t : Truth) → HasCell may x → list_any (may_have may) (map literal_hash literals) ≡ false
    → (t ≡ True → ⊥) → fold (λ t l. truth_or t (compare_truth Eq x l)) t literals ≡ True → ⊥
none_equal may x [] t has none p h = p h
none_equal may x (l ∷ ls) t has none p h =
    let parts = or_false (may_have may (literal_hash l)) (list_any (may_have may) (map literal_hash ls)) none in
    none_equal may x ls (truth_or t (compare_truth Eq x l)) has parts.1 (or_not_true t (compare_truth Eq x l) p (not_equal may x l has parts.0)) h
