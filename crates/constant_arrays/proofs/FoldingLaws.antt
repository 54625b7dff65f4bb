-- What is left of a formula says the same, and names no constant column.
use Rattle.std.proofs.Common.{◌≡◌, ◌↔◌, ℕ, Bool, true, false, List, ◌⊎◌, inl, inr, Result, Ok, Err, IfOk, refl, sym, subst, ap, ap₂, ◌∙◌}
use Rattle.std.proofs.lemmas.Bool.{false≢true}
use Rattle.vortex_cells.specs.Cells.{Cell}
use Rattle.vortex_filter.specs.declared.error.FilterError.{FilterError}
use Rattle.vortex_filter.specs.declared.filter.Filter.{Filter}
use Rattle.vortex_filter.specs.Formula.{Formula, constant, comparison, null_test, membership, range, prefix_test, pattern_test, both, either, negation, formula, truth}
use Rattle.vortex_filter.specs.Makes.{MakesUnlessBare}
use Rattle.vortex_filter.specs.Named.{IsNamed}
use Rattle.vortex_filter.specs.Truths.{truth_and, truth_not, truth_or}
use Rattle.vortex_filter.proofs.NamedLaws.{named_columns_decide}
use Rattle.constant_arrays.specs.Folding.{IsNamedOther, IsRowWithConstants, SaysTheSame, decided, folded, is_flagged}

-- ---- truth

module _ (flags : List Bool) (constants other row : List Cell) where
  -- a test of one column
  test_same : (t : Formula) (j : ℕ) → ((k : ℕ) → IsNamed t k → j ≡ k) → IsRowWithConstants flags t constants other row
      → truth (decided (is_flagged flags j) constants t) other ≡ truth t row
  test_same t j only is = by_flag (is_flagged flags j) refl
    where
      by_flag : (b : Bool) → is_flagged flags j ≡ b → truth (decided b constants t) other ≡ truth t row
      by_flag true e = named_columns_decide t constants row (λ k n. sym (is.flagged k n (subst (λ i. is_flagged flags i ≡ true) (only k n) e)))
      by_flag false e = named_columns_decide t other row (λ k n. sym (is.unflagged k n (subst (λ i. is_flagged flags i ≡ false) (only k n) e)))

  left_of : (f g : Formula) → IsRowWithConstants flags (both f g) constants other row → IsRowWithConstants flags f constants other row
  left_of f g is = record { flagged = λ k n e. is.flagged k (inl n) e; unflagged = λ k n e. is.unflagged k (inl n) e }

  right_of : (f g : Formula) → IsRowWithConstants flags (both f g) constants other row → IsRowWithConstants flags g constants other row
  right_of f g is = record { flagged = λ k n e. is.flagged k (inr n) e; unflagged = λ k n e. is.unflagged k (inr n) e }

  as_both : (f g : Formula) → IsRowWithConstants flags (either f g) constants other row → IsRowWithConstants flags (both f g) constants other row
  as_both f g is = record { flagged = is.flagged; unflagged = is.unflagged }

  inner_of : (f : Formula) → IsRowWithConstants flags (negation f) constants other row → IsRowWithConstants flags f constants other row
  inner_of f is = record { flagged = is.flagged; unflagged = is.unflagged }

  same_truth : (f : Formula) → IsRowWithConstants flags f constants other row → truth (folded flags constants f) other ≡ truth f row
  same_truth (constant t) is = refl
  same_truth (comparison k op x) is = test_same (comparison k op x) k (λ j n. n) is
  same_truth (null_test k) is = test_same (null_test k) k (λ j n. n) is
  same_truth (membership k xs) is = test_same (membership k xs) k (λ j n. n) is
  same_truth (range k x y) is = test_same (range k x y) k (λ j n. n) is
  same_truth (prefix_test k p) is = test_same (prefix_test k p) k (λ j n. n) is
  same_truth (pattern_test k case parts) is = test_same (pattern_test k case parts) k (λ j n. n) is
  same_truth (both f g) is = ap₂ truth_and (same_truth f (left_of f g is)) (same_truth g (right_of f g is))
  same_truth (either f g) is = ap₂ truth_or (same_truth f (left_of f g (as_both f g is))) (same_truth g (right_of f g (as_both f g is)))
  same_truth (negation f) is = ap truth_not (same_truth f (inner_of f is))

pub says_the_same : (flags : List Bool) (constants : List Cell) (f : Formula) → SaysTheSame flags constants f (folded flags constants f)
says_the_same flags constants f other row is = same_truth flags constants other row f is

-- ---- columns that are named

each_way : {A B C D : Type 0} → (A → C) → (B → D) → A ⊎ B → C ⊎ D
each_way f g (inl a) = inl (f a)
each_way f g (inr b) = inr (g b)

module _ (flags : List Bool) (constants : List Cell) (k : ℕ) where
  test_names : (t : Formula) (j : ℕ) → ((i : ℕ) → IsNamed t i → j ≡ i) → IsNamed (decided (is_flagged flags j) constants t) k → IsNamedOther flags t k
  test_names t j only n = by_flag (is_flagged flags j) refl n
    where
      by_flag : (b : Bool) → is_flagged flags j ≡ b → IsNamed (decided b constants t) k → IsNamedOther flags t k
      by_flag true e m = absurd m
      by_flag false e m = record { named = m; unflagged = subst (λ i. is_flagged flags i ≡ false) (only k m) e }

  named_left : (f g : Formula) → IsNamedOther flags f k → IsNamedOther flags (both f g) k
  named_left f g n = record { named = inl n.named; unflagged = n.unflagged }

  named_right : (f g : Formula) → IsNamedOther flags g k → IsNamedOther flags (both f g) k
  named_right f g n = record { named = inr n.named; unflagged = n.unflagged }

  either_named : (f g : Formula) → IsNamedOther flags (both f g) k → IsNamedOther flags (either f g) k
  either_named f g n = record { named = n.named; unflagged = n.unflagged }

  pub named_other : (f : Formula) → IsNamed (folded flags constants f) k → IsNamedOther flags f k
  named_other (constant t) n = absurd n
  named_other (comparison j op x) n = test_names (comparison j op x) j (λ i m. m) n
  named_other (null_test j) n = test_names (null_test j) j (λ i m. m) n
  named_other (membership j xs) n = test_names (membership j xs) j (λ i m. m) n
  named_other (range j x y) n = test_names (range j x y) j (λ i m. m) n
  named_other (prefix_test j p) n = test_names (prefix_test j p) j (λ i m. m) n
  named_other (pattern_test j case parts) n = test_names (pattern_test j case parts) j (λ i m. m) n
  named_other (both f g) (inl n) = named_left f g (named_other f n)
  named_other (both f g) (inr n) = named_right f g (named_other g n)
  named_other (either f g) (inl n) = either_named f g (named_left f g (named_other f n))
  named_other (either f g) (inr n) = either_named f g (named_right f g (named_other g n))
  named_other (negation f) n =
      let inner = named_other f n in
      record { named = inner.named; unflagged = inner.unflagged }

  test_named : (t : Formula) (j : ℕ) → ((i : ℕ) → IsNamed t i → j ≡ i) → IsNamedOther flags t k → IsNamed (decided (is_flagged flags j) constants t) k
  test_named t j only n = by_flag (is_flagged flags j) refl
    where
      by_flag : (b : Bool) → is_flagged flags j ≡ b → IsNamed (decided b constants t) k
      by_flag true e = absurd (false≢true (sym (subst (λ i. is_flagged flags i ≡ false) (sym (only k n.named)) n.unflagged) ∙ e))
      by_flag false e = n.named

  pub other_named : (f : Formula) → IsNamedOther flags f k → IsNamed (folded flags constants f) k
  other_named (constant t) n = absurd n.named
  other_named (comparison j op x) n = test_named (comparison j op x) j (λ i m. m) n
  other_named (null_test j) n = test_named (null_test j) j (λ i m. m) n
  other_named (membership j xs) n = test_named (membership j xs) j (λ i m. m) n
  other_named (range j x y) n = test_named (range j x y) j (λ i m. m) n
  other_named (prefix_test j p) n = test_named (prefix_test j p) j (λ i m. m) n
  other_named (pattern_test j case parts) n = test_named (pattern_test j case parts) j (λ i m. m) n
  other_named (both f g) n =
      each_way (λ m. other_named f (record { named = m; unflagged = n.unflagged })) (λ m. other_named g (record { named = m; unflagged = n.unflagged })) n.named
  other_named (either f g) n =
      each_way (λ m. other_named f (record { named = m; unflagged = n.unflagged })) (λ m. other_named g (record { named = m; unflagged = n.unflagged })) n.named
  other_named (negation f) n = other_named f (record { named = n.named; unflagged = n.unflagged })

-- ---- what was made

pub left-same : (flags : List Bool) (constants : List Cell) (f : Formula) (r : Result Filter FilterError) → MakesUnlessBare (folded flags constants f) r → IfOk r (λ left. SaysTheSame flags constants f (formula left))
left-same flags constants f (Ok g) made = subst (SaysTheSame flags constants f) (sym made) (says_the_same flags constants f)
left-same flags constants f (Err e) made = tt

pub left-names : (flags : List Bool) (constants : List Cell) (f : Formula) (r : Result Filter FilterError) → MakesUnlessBare (folded flags constants f) r
    → IfOk r (λ left. (k : ℕ) → IsNamed (formula left) k ↔ IsNamedOther flags f k)
left-names flags constants f (Ok g) made = subst (λ p. (k : ℕ) → IsNamed p k ↔ IsNamedOther flags f k) (sym made) (λ k. (named_other flags constants k f, other_named flags constants k f))
left-names flags constants f (Err e) made = tt
