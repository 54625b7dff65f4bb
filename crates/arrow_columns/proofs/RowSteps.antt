-- One more row: the lesser or the greater of its value and of what was so far.
use Rattle.std.proofs.Common.{◌≡◌, ◌∙◌, ℕ, ℤ, ◌+◌, ◌-◌, ◌<◌, add-zero, ◌≤◌, ◌≤ℤ◌, ◌⊎◌, ap, arith, below_more, cond, inl, inr, int_lt, refl, subst, sym, true, false, Bool, Option, Some, None}
use Rattle.std.proofs.lemmas.Int.{ints, clamps}
use Rattle.std.specs.Int.{int_max, int_min}
use Rattle.std.specs.Option.{IfSome, is_none}
use Rattle.arrow_columns.specs.Running.{AreGathered, IsGreatestBefore, IsLeastBefore}
use Rattle.arrow_columns.proofs.CellLists.{all_nulls, count_more}

which : {X : Type 0} (b : Bool) (x y : X) → (cond b y x ≡ x) ⊎ (cond b y x ≡ y)
which b x y = elim b as (λ v. (cond v y x ≡ x) ⊎ (cond v y x ≡ y)) [ true ↦ inr refl | false ↦ inl refl ]

min_which : (x y : ℤ) → (int_min x y ≡ x) ⊎ (int_min x y ≡ y)
min_which x y = which (int_lt y x) x y

max_which : (x y : ℤ) → (int_max x y ≡ y) ⊎ (int_max x y ≡ x)
max_which x y = which (int_lt y x) y x

pub min_left : (x y : ℤ) → int_min x y ≤ℤ x
min_left x y = omega (arith, ints, clamps)

min_right : (x y : ℤ) → int_min x y ≤ℤ y
min_right x y = omega (arith, ints, clamps)

pub max_left : (x y : ℤ) → x ≤ℤ int_max x y
max_left x y = omega (arith, ints, clamps)

max_right : (x y : ℤ) → y ≤ℤ int_max x y
max_right x y = omega (arith, ints, clamps)

min_stays : (x y : ℤ) → x ≤ℤ y → int_min x y ≡ x
min_stays x y h = omega (arith, ints, clamps)

max_stays : (x y : ℤ) → y ≤ℤ x → int_max x y ≡ x
max_stays x y h = omega (arith, ints, clamps)

pub through : (x y z : ℤ) → x ≤ℤ y → y ≤ℤ z → x ≤ℤ z
through x y z h k = omega (arith, ints)

pub itself : (x : ℤ) → x ≤ℤ x
itself x = omega (arith, ints)

-- what is below a number stays below it, and above
pub still_low : (old new next known : ℤ) → new ≡ int_min old next → old ≤ℤ known → new ≤ℤ known
still_low old new next known e h = subst (λ z. z ≤ℤ known) (sym e) (through _ old known (min_left old next) h)

pub still_high : (old new next known : ℤ) → new ≡ int_max old next → known ≤ℤ old → known ≤ℤ new
still_high old new next known e h = subst (λ z. known ≤ℤ z) (sym e) (through known old _ h (max_left old next))

lower : (o : Option ℤ) (y z : ℤ) → z ≤ℤ y → IfSome o (λ x. y ≤ℤ x) → IfSome o (λ x. z ≤ℤ x)
lower (Some x) y z h k = through z y x h k
lower None y z h k = tt

higher : (o : Option ℤ) (y z : ℤ) → y ≤ℤ z → IfSome o (λ x. x ≤ℤ y) → IfSome o (λ x. x ≤ℤ z)
higher (Some x) y z h k = through x y z k h
higher None y z h k = tt

pub at_value : {X : Type 0} (P : X → Type 0) (o : Option X) (x : X) → o ≡ Some x → P x → IfSome o P
at_value P o x e h = subst (λ v. IfSome v P) (sym e) h

pub at_null : {X : Type 0} (P : X → Type 0) (o : Option X) → o ≡ None → IfSome o P
at_null P o e = subst (λ v. IfSome v P) (sym e) tt

-- the first row that is no null
pub least_first : (cell : ℕ → Option ℤ) (from i : ℕ) (z : ℤ) → from ≤ i → cell i ≡ Some z → ((k : ℕ) → k < i → from ≤ k → cell k ≡ None) → IsLeastBefore cell from (i + 1) z
least_first cell from i z f e n = record {
  among = (i, f, omega arith, e);
  below = below_more _ _ (λ k l g. at_null _ (cell k) (n k l g)) (λ g. at_value _ (cell i) z e (itself z));
}

pub greatest_first : (cell : ℕ → Option ℤ) (from i : ℕ) (z : ℤ) → from ≤ i → cell i ≡ Some z → ((k : ℕ) → k < i → from ≤ k → cell k ≡ None) → IsGreatestBefore cell from (i + 1) z
greatest_first cell from i z f e n = record {
  among = (i, f, omega arith, e);
  above = below_more _ _ (λ k l g. at_null _ (cell k) (n k l g)) (λ g. at_value _ (cell i) z e (itself z));
}

-- a value
pub least_more : (cell : ℕ → Option ℤ) (from i : ℕ) (old new next : ℤ) → IsLeastBefore cell from i old → from ≤ i → cell i ≡ Some next → new ≡ int_min old next → IsLeastBefore cell from (i + 1) new
least_more cell from i old new next s f v e = record {
  among = elim (min_which old next) [
    | inl q ↦ (s.among.0, s.among.1, omega (arith, s.among.2), s.among.3 ∙ ap Some (sym (e ∙ q)))
    | inr q ↦ (i, f, omega arith, v ∙ ap Some (sym (e ∙ q)))
  ];
  below = subst (λ z. (k : ℕ) → k < i + 1 → from ≤ k → IfSome (cell k) (λ x. z ≤ℤ x)) (sym e)
      (below_more _ _ (λ k h g. lower (cell k) old _ (min_left old next) (s.below k h g))
      (λ g. at_value _ (cell i) next v (min_right old next)));
}

pub greatest_more : (cell : ℕ → Option ℤ) (from i : ℕ) (old new next : ℤ) → IsGreatestBefore cell from i old → from ≤ i → cell i ≡ Some next → new ≡ int_max old next → IsGreatestBefore cell from (i + 1) new
greatest_more cell from i old new next s f v e = record {
  among = elim (max_which old next) [
    | inl q ↦ (i, f, omega arith, v ∙ ap Some (sym (e ∙ q)))
    | inr q ↦ (s.among.0, s.among.1, omega (arith, s.among.2), s.among.3 ∙ ap Some (sym (e ∙ q)))
  ];
  above = subst (λ z. (k : ℕ) → k < i + 1 → from ≤ k → IfSome (cell k) (λ x. x ≤ℤ z)) (sym e)
      (below_more _ _ (λ k h g. higher (cell k) old _ (max_left old next) (s.above k h g))
      (λ g. at_value _ (cell i) next v (max_right old next)));
}

-- a null
pub least_kept : (cell : ℕ → Option ℤ) (from i : ℕ) (old new : ℤ) → IsLeastBefore cell from i old → cell i ≡ None → new ≡ old → IsLeastBefore cell from (i + 1) new
least_kept cell from i old new s v e = subst (IsLeastBefore cell from (i + 1)) (sym e) (record {
  among = (s.among.0, s.among.1, omega (arith, s.among.2), s.among.3);
  below = below_more _ _ s.below (λ g. at_null _ (cell i) v);
})

pub greatest_kept : (cell : ℕ → Option ℤ) (from i : ℕ) (old new : ℤ) → IsGreatestBefore cell from i old → cell i ≡ None → new ≡ old → IsGreatestBefore cell from (i + 1) new
greatest_kept cell from i old new s v e = subst (IsGreatestBefore cell from (i + 1)) (sym e) (record {
  among = (s.among.0, s.among.1, omega (arith, s.among.2), s.among.3);
  above = below_more _ _ s.above (λ g. at_null _ (cell i) v);
})

-- a row whose value is taken only if it has one, and else one that is known
pub least_chosen : (cell : ℕ → Option ℤ) (from i : ℕ) (old new value known : ℤ) (is_valid : Bool) → IsLeastBefore cell from i old → from ≤ i → old ≤ℤ known
    → cell i ≡ cond is_valid (Some value) None → new ≡ int_min old (cond is_valid value known) → IsLeastBefore cell from (i + 1) new
least_chosen cell from i old new value known true s f h v e = least_more cell from i old new value s f v e
least_chosen cell from i old new value known false s f h v e = least_kept cell from i old new s v (e ∙ min_stays old known h)

pub greatest_chosen : (cell : ℕ → Option ℤ) (from i : ℕ) (old new value known : ℤ) (is_valid : Bool) → IsGreatestBefore cell from i old → from ≤ i → known ≤ℤ old
    → cell i ≡ cond is_valid (Some value) None → new ≡ int_max old (cond is_valid value known) → IsGreatestBefore cell from (i + 1) new
greatest_chosen cell from i old new value known true s f h v e = greatest_more cell from i old new value s f v e
greatest_chosen cell from i old new value known false s f h v e = greatest_kept cell from i old new s v (e ∙ max_stays old known h)

-- what is gathered at the first row that is no null
pub gathered_first : {T : Type 0} (number : T → ℤ) (cell : ℕ → Option ℤ) (from start : ℕ) (x : T) → from ≤ start → cell start ≡ Some (number x)
    → ((k : ℕ) → k < start → from ≤ k → cell k ≡ None)
    → AreGathered number cell from (start + 1) (record { null_count = start - from; least = x; greatest = x })
gathered_first number cell from start x f e n = record {
  nulls = count_more is_none cell from start _ _ (Some (number x)) f e (all_nulls cell from (start - from) start (omega arith) n) (sym (add-zero _));
  within = omega arith;
  least = least_first cell from start (number x) f e n;
  greatest = greatest_first cell from start (number x) f e n;
}

-- a function of one of two
pub of_choice : {X Y : Type 0} (f : X → Y) (b : Bool) (x y : X) → f (cond b x y) ≡ cond b (f x) (f y)
of_choice f true x y = refl
of_choice f false x y = refl

-- what holds of a value, if there is one, holds of this
pub some_says : {X : Type 0} (P : X → Type 0) (o : Option X) (x : X) → o ≡ Some x → IfSome o P → P x
some_says P o x e h = subst (λ v. IfSome v P) e h
