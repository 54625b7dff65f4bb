-- Items that are written one after another.
use Rattle.std.proofs.Common.{◌≡◌, ◌∙◌, ℕ, ℤ, pos, ◌+◌, ◌-◌, ◌*◌, ◌<◌, ◌≤◌, ◌≤ℤ◌, [], Bool, MatchBool, MatchOption, ◌&&◌, List, None, Option, Some, inl, inr, map, slice_get, ap, arith, cond, drop, false, length, refl, slice_range, subst, sym, take, true, unwrap_or}
use Rattle.std.proofs.Math.Nat.{mul-le-mul_right}
use Rattle.std.proofs.lemmas.Bool.{cases_lt}
use Rattle.std.proofs.lemmas.List.{drop-drop}
use Rattle.std.proofs.lemmas.List.FromFn.{length-map-range_with_len, take-map-range_with_len}
use Rattle.std.proofs.lemmas.Option.{slice_get_cases}
use Rattle.std.proofs.lemmas.Slice.{between_is, take-put_mid_below}
use Rattle.std.specs.Bool.{OnTrue}
use Rattle.std.specs.List.{range_with_len}
use Rattle.std.specs.Option.{IfSome, IsSomeAnd}
use Rattle.arrow_columns.specs.Bitmaps.{is_valid}
use Rattle.arrow_columns.specs.Casts.{AllFit, IsFirstUnfit, IsFirstWithout}
use Rattle.arrow_columns.specs.Cells.{cell_at}
use Rattle.arrow_columns.specs.Integers.{IsOfKind, greatest_of, least_of}
use Rattle.arrow_columns.specs.Running.{IsGreatestBefore, IsLeastBefore}
use Rattle.arrow_columns.specs.declared.kinds.IntegerKind.{IntegerKind}
use Rattle.arrow_columns.proofs.CellLists.{cell_got}
use Rattle.arrow_columns.proofs.RowSteps.{some_says, through}
use borrow.Rule.Slice.PartMut.{put_mid}

pub one_more : (j m : ℕ) → (j + 1) * m ≡ j * m + m
one_more j m = grind arith

pub below_item : (j k m : ℕ) → j < k → j * m + m ≤ k * m
below_item j k m h =
    let l : (j + 1) * m ≤ k * m = mul-le-mul_right m (omega arith) in
    omega (arith, l, one_more j m)

-- what lies before what is written
pub kept_before : (a k : ℕ) (xs ys : List ℕ) (i e : ℕ) → e ≤ a → a ≤ length xs → slice_range (put_mid a k xs ys) i e ≡ slice_range xs i e
kept_before a k xs ys i e h l = between_is (put_mid a k xs ys) i e ∙ ap (drop i) (take-put_mid_below a k xs ys e h l) ∙ sym (between_is xs i e)

-- lists that are alike from p on are alike from n on
pub alike_further : (p n : ℕ) (xs ys : List ℕ) → p ≤ n → drop p xs ≡ drop p ys → drop n xs ≡ drop n ys
alike_further p n xs ys h e =
    let q : n ≡ p + (n - p) = omega arith in
    ap (λ k. drop k xs) q ∙ sym (drop-drop (n - p) p xs) ∙ ap (drop (n - p)) e ∙ drop-drop (n - p) p ys ∙ ap (λ k. drop k ys) (sym q)

either : (t : Bool) (x : ℤ) → cond t x (pos 0) ≡ unwrap_or (cond t (Some x) None) (pos 0)
either true x = refl
either false x = refl

-- the value of a cell, or 0 where it is null
pub value_or_zero : (validity : List ℕ) (value : ℕ → ℤ) (i : ℕ) (b : Bool) (whole : ℤ) → b ≡ is_valid validity i → whole ≡ value i → cond b whole (pos 0) ≡ unwrap_or (cell_at validity value i) (pos 0)
value_or_zero validity value i b whole e w =
    ap (λ x. cond b x (pos 0)) w ∙ ap (λ t. cond t (value i) (pos 0)) e ∙ either (is_valid validity i) (value i)

-- what a test says if it was passed
pub on_true : (b : Bool) (P Q : Type 0) → MatchBool b P Q → OnTrue b P
on_true true P Q h = h
on_true false P Q h = tt

-- both of two tests were passed
pub both_passed : (one other : Bool) (P Q R : Type 0) → OnTrue one P → OnTrue other Q → (P → Q → R) → OnTrue (one && other) R
both_passed true true P Q R p q f = f p q
both_passed true false P Q R p q f = tt
both_passed false true P Q R p q f = tt
both_passed false false P Q R p q f = tt

-- what lies between two integers of a kind is of the kind
pub all_within : (kind : IntegerKind) (value : ℕ → ℤ) (from end : ℕ) (least greatest : ℤ) → IsLeastBefore (cell_at [] value) from end least → IsGreatestBefore (cell_at [] value) from end greatest
    → IsOfKind kind least → IsOfKind kind greatest → (k : ℕ) → k < end → from ≤ k → IsOfKind kind (value k)
all_within kind value from end least greatest low high p q = λ k l f. (
  through (least_of kind) least (value k) p.0 (some_says (λ x. least ≤ℤ x) (cell_at [] value k) (value k) refl (low.below k l f)),
  through (value k) greatest (greatest_of kind) (some_says (λ x. x ≤ℤ greatest) (cell_at [] value k) (value k) refl (high.above k l f)) q.1,
)

-- what a test says that was passed
pub passed : (b : Bool) (P Q : Type 0) → MatchBool b P Q → b ≡ true → P
passed b P Q h e = subst (λ t. MatchBool t P Q) e h

some_value : (P : ℤ → Type 0) (o : Option ℤ) → IsSomeAnd o P → (z : ℤ) × (o ≡ Some z) × P z
some_value P (Some z) h = (z, refl, h)
some_value P None h = absurd h

the_value : (o : Option ℤ) (x : ℤ) → Some o ≡ Some (Some x) → o ≡ Some x
the_value o x e = cc

-- the first row without, by number and in the list
pub first_without_given : (kind : IntegerKind) (cell : ℕ → Option ℤ) (from n i : ℕ) → from ≤ i → i < from + n
    → ((j : ℕ) → j < i → from ≤ j → IfSome (cell j) (IsOfKind kind)) → IsSomeAnd (cell i) (λ z. ¬ (IsOfKind kind z))
    → IsFirstWithout kind (map cell (range_with_len from n)) (i - from)
first_without_given kind cell from n i f l b h =
    let s : (z : ℤ) × (cell i ≡ Some z) × (¬ (IsOfKind kind z)) = some_value (λ z. ¬ (IsOfKind kind z)) (cell i) h in
    let place : from + (i - from) ≡ i = omega arith in (
      s.0,
      cell_got cell from n (i - from) (Some s.0) (omega arith) (ap cell place ∙ s.1),
      s.2,
      λ k x d e.
          let got : slice_get (map cell (range_with_len from n)) k ≡ Some (cell (from + k)) = cell_got cell from n k (cell (from + k)) (omega arith) refl in
          some_says (IsOfKind kind) (cell (from + k)) x (the_value (cell (from + k)) x (sym got ∙ e)) (b (from + k) (omega arith) (omega arith)),
    )

same_value : (o p : Option ℤ) → Some o ≡ Some p → o ≡ p
same_value o p e = cc

none_is_not : (o : Option ℤ) → None ≡ Some o → ⊥
none_is_not o e = cc

-- what was written for each row, by number and for the list
pub cast_given : (cell : ℕ → Option ℤ) (from n : ℕ) (written : ℕ → ℤ) → ((k : ℕ) → k < n → written k ≡ unwrap_or (cell (from + k)) (pos 0))
    → (row : ℕ) (o : Option ℤ) → slice_get (map cell (range_with_len from n)) row ≡ Some o → written row ≡ unwrap_or o (pos 0)
cast_given cell from n written h row o e =
    let cells : List (Option ℤ) = map cell (range_with_len from n) in
    elim (slice_get_cases cells row).1 [
      | inl p ↦
          let within : row < n = omega (arith, p.1, length-map-range_with_len cell from n) in
          let got : slice_get cells row ≡ Some (cell (from + row)) = cell_got cell from n row (cell (from + row)) within refl in
          h row within ∙ ap (λ c. unwrap_or c (pos 0)) (same_value (cell (from + row)) o (sym got ∙ e))
      | inr q ↦ absurd (none_is_not o (sym q.1 ∙ e))
    ]

-- what was written for the first of them
pub front_given : (cell : ℕ → Option ℤ) (from n m : ℕ) (written : ℕ → ℤ) → m ≤ n → ((k : ℕ) → k < m → written k ≡ unwrap_or (cell (from + k)) (pos 0))
    → (row : ℕ) (o : Option ℤ) → slice_get (take m (map cell (range_with_len from n))) row ≡ Some o → written row ≡ unwrap_or o (pos 0)
front_given cell from n m written l h row o e =
    cast_given cell from m written h row o (subst (λ cells. slice_get cells row ≡ Some o) (take-map-range_with_len cell from n m l) e)

-- what holds of each row before a block and of each row in it
pub more_rows : (P : ℕ → Type 0) (from start n : ℕ) → ((k : ℕ) → k < start → from ≤ k → P k) → ((j : ℕ) → j < n → P (start + j)) → (k : ℕ) → k < start + n → from ≤ k → P k
more_rows P from start n before block k l f = elim (cases_lt k start) [
  | inl b ↦ before k b f
  | inr a ↦
      let place : start + (k - start) ≡ k = omega arith in
      subst P place (block (k - start) (omega arith))
]

fit_joined : (kind : IntegerKind) (cell : ℕ → Option ℤ) (from start end : ℕ) → AllFit kind cell from start → AllFit kind cell start end → AllFit kind cell from end
fit_joined kind cell from start end before after k l f = elim (cases_lt k start) [ inl b ↦ before k b f | inr a ↦ after k l a ]

-- where the rows before the first unfit one end
pub stop_within : (kind : IntegerKind) (cell : ℕ → Option ℤ) (from end : ℕ) (found : Option ℕ) → from ≤ end → MatchOption found (AllFit kind cell from end) (IsFirstUnfit kind cell from end)
    → (from ≤ unwrap_or found end) × (unwrap_or found end ≤ end)
stop_within kind cell from end None l h = (l, omega arith)
stop_within kind cell from end (Some i) l h = (h.1, omega (arith, h.0))

pub fit_before : (kind : IntegerKind) (cell : ℕ → Option ℤ) (from end : ℕ) (found : Option ℕ) → MatchOption found (AllFit kind cell from end) (IsFirstUnfit kind cell from end)
    → AllFit kind cell from (unwrap_or found end)
fit_before kind cell from end None h = h
fit_before kind cell from end (Some i) h = h.2

-- the first unfit row after rows that fit
pub found_after : (kind : IntegerKind) (cell : ℕ → Option ℤ) (from start end : ℕ) (found : Option ℕ) → from ≤ start → AllFit kind cell from start
    → MatchOption found (AllFit kind cell start end) (IsFirstUnfit kind cell start end) → MatchOption found (AllFit kind cell from end) (IsFirstUnfit kind cell from end)
found_after kind cell from start end None l before h = fit_joined kind cell from start end before h
found_after kind cell from start end (Some i) l before h = (h.0, omega (arith, h.1), fit_joined kind cell from start i before h.2, h.3)
