-- Counts of nulls, and what they leave open.
use Rattle.std.proofs.Common.{◌≡◌, ℕ, suc, ◌+◌, ◌<◌, ◌≤◌, ◌^◌, Bool, true, false, cond, nat_lt, List, [], ◌∷◌, ◌++◌, length, count_by, Contains, get_or, zero, Option, Some, None, IfSome, IsSome, is_some, refl, sym, ap, ◌∙◌, arith}
use Rattle.std.proofs.lemmas.Bool.{false≢true, lt-ltb, ltb-false, ltb-true}
use Rattle.std.proofs.lemmas.List.Sums.{count_by-le-length, sum_by-append, sum_by-cons}
use Rattle.vortex_cells.specs.Cells.{Cell, HasValue, is_null_cell}
use Rattle.vortex_statistics.specs.Merging.{sum_of}
use Rattle.vortex_statistics.specs.Statistics.{AreRight, Known, LeaveNoNull, LeaveNoValue, may_be_null, may_be_value, some_null, some_value}

weight-most : (b : Bool) → cond b 1 0 ≤ 1
weight-most true = omega arith
weight-most false = omega arith

weight-fail : (b : Bool) → b ≡ false → cond b 1 0 ≤ 0
weight-fail true e = absurd (false≢true (sym e))
weight-fail false e = omega arith

weight-pass : (b : Bool) → b ≡ true → 1 ≤ cond b 1 0
weight-pass true e = omega arith
weight-pass false e = absurd (false≢true e)

-- where not all pass, there is one that does not
one_fails : {X : Type 0} (p : X → Bool) (xs : List X) → count_by p xs < length xs → (x : X) × Contains xs x × (p x ≡ false)
one_fails p [] h = absurd (omega (arith, h))
one_fails {X} p (y ∷ ys) h = by_test (p y) refl (one_fails p ys)
  where
    by_test : (b : Bool) → p y ≡ b → (count_by p ys < length ys → (x : X) × Contains ys x × (p x ≡ false)) → (x : X) × Contains (y ∷ ys) x × (p x ≡ false)
    by_test false e below = (y, (0, omega arith, refl), e)
    by_test true e below =
        let w = below (omega (arith, h, sum_by-cons (λ z. cond (p z) 1 0) y ys, weight-pass (p y) e)) in
        (w.0, (suc w.1.0, omega (arith, w.1.1), w.1.2), w.2)

-- where one fails, not all pass
fewer_pass : {X : Type 0} (p : X → Bool) (xs : List X) (x : X) (k : ℕ) → k < length xs → get_or xs k x ≡ x → p x ≡ false → count_by p xs < length xs
fewer_pass p [] x k l g e = absurd (omega (arith, l))
fewer_pass p (y ∷ ys) x zero l g e = omega (arith, sum_by-cons (λ z. cond (p z) 1 0) y ys, weight-fail (p y) (ap p g ∙ e), count_by-le-length p ys)
fewer_pass p (y ∷ ys) x (suc k) l g e = omega (arith, sum_by-cons (λ z. cond (p z) 1 0) y ys, weight-most (p y), fewer_pass p ys x k (omega (arith, l)) g e)

-- ---- what counts leave open

pub no_value : (s : Known) → may_be_value s ≡ false → LeaveNoValue s
no_value s e cells right x h = by_count s.null_count right.nulls e
  where
    fewer : count_by is_null_cell cells < length cells
    fewer = fewer_pass is_null_cell cells x h.cell.0 h.cell.1 h.cell.2 h.value

    by_count : (n : Option ℕ) → IfSome n (λ k. k ≡ count_by is_null_cell cells) → some_value s.row_count n ≡ false → ⊥
    by_count None k t = let few : s.row_count ≤ 0 = ltb-false 0 s.row_count t in omega (arith, fewer, right.rows, few)
    by_count (Some n) k t = let few : s.row_count ≤ n = ltb-false n s.row_count t in omega (arith, fewer, right.rows, few, k)

pub no_null : (s : Known) → may_be_null s ≡ false → LeaveNoNull s
no_null s e cells right = by_count s.null_count right.nulls e
  where
    most : count_by is_null_cell cells ≤ length cells
    most = count_by-le-length is_null_cell cells

    by_count : (n : Option ℕ) → IfSome n (λ k. k ≡ count_by is_null_cell cells) → some_null s.row_count n ≡ false → count_by is_null_cell cells ≡ 0
    by_count None k t = let few : s.row_count ≤ 0 = ltb-false 0 s.row_count t in omega (arith, most, right.rows, few)
    by_count (Some n) k t = let few : n ≤ 0 = ltb-false 0 n t in omega (arith, few, k)

-- where the nulls are counted and a value may be, there is one
pub value_there : (s : Known) (cells : List Cell) → AreRight s cells → IsSome s.null_count → may_be_value s ≡ true → (x : Cell) × HasValue cells x
value_there s cells right counted v = by_count s.null_count right.nulls counted v
  where
    by_count : (n : Option ℕ) → IfSome n (λ k. k ≡ count_by is_null_cell cells) → IsSome n → some_value s.row_count n ≡ true → (x : Cell) × HasValue cells x
    by_count None k c t = absurd (false≢true c)
    by_count (Some n) k c t =
        let rows : s.row_count ≡ length cells = right.rows in
        let fewer : n < s.row_count = ltb-true n s.row_count t in
        let w = one_fails is_null_cell cells (omega (arith, fewer, k, rows)) in
        (w.0, record { cell = w.1; value = w.2 })

-- ---- sums

pub count-append : (cells others : List Cell) → count_by is_null_cell (cells ++ others) ≡ count_by is_null_cell cells + count_by is_null_cell others
count-append cells others = sum_by-append (λ x. cond (is_null_cell x) 1 0) cells others

pub count-one : (x : Cell) → count_by is_null_cell (x ∷ []) ≡ cond (is_null_cell x) 1 0
count-one x = weighed (is_null_cell x)
  where
    weighed : (b : Bool) → 0 + cond b 1 0 ≡ cond b 1 0
    weighed true = refl
    weighed false = refl

pub sum_right : (cells others : List Cell) (m n : Option ℕ) → IfSome m (λ k. k ≡ count_by is_null_cell cells) → IfSome n (λ k. k ≡ count_by is_null_cell others) → IfSome (sum_of m n) (λ k. k ≡ count_by is_null_cell (cells ++ others))
sum_right cells others None n h k = tt
sum_right cells others (Some m) None h k = tt
sum_right cells others (Some m) (Some n) h k = fits (nat_lt (m + n) (2 ^ 64))
  where
    fits : (b : Bool) → IfSome (cond b (Some (m + n)) None) (λ j. j ≡ count_by is_null_cell (cells ++ others))
    fits true = omega (arith, count-append cells others)
    fits false = tt

pub sum_fits : (cells others : List Cell) (rows more : ℕ) (m n : Option ℕ) → IsSome m → IsSome n → rows ≡ length cells → more ≡ length others
    → IfSome m (λ k. k ≡ count_by is_null_cell cells) → IfSome n (λ k. k ≡ count_by is_null_cell others) → rows + more < 2 ^ 64 → IsSome (sum_of m n)
sum_fits cells others rows more None n a b r q h k fits = absurd (false≢true a)
sum_fits cells others rows more (Some m) None a b r q h k fits = absurd (false≢true b)
sum_fits cells others rows more (Some m) (Some n) a b r q h k fits =
    let small : m + n < 2 ^ 64 = omega (arith, count_by-le-length is_null_cell cells, count_by-le-length is_null_cell others) in
    let test : nat_lt (m + n) (2 ^ 64) ≡ true = lt-ltb (m + n) (2 ^ 64) small in
    ap (λ b. is_some (cond b (Some (m + n)) None)) test
