-- Tests of rows, null or not: a test of all values, and then Unknown where a row is null.
use Rattle.std.proofs.Common.{[], ◌≡◌, ◌∙◌, ◌||◌, ◌==◌, ◌+◌, ◌<◌, Bool, List, None, Option, Some, ap, arith, false, if◌then◌else◌, length, map, not, refl, slice_get, slice_index_or, sym, true, ℕ, ℤ}
use Rattle.std.proofs.lemmas.List.FromFn.{get_or-map-range_with_len, length-map-range_with_len}
use Rattle.std.proofs.lemmas.Option.{slice_get-get_or}
use Rattle.std.specs.List.{range_with_len}
use Rattle.std.specs.Ordering.{int_cmp}
use Rattle.std.specs.Simd.{first_chunks}
use Rattle.arrow_columns.specs.Bitmaps.{bit_of, is_valid}
use Rattle.arrow_columns.proofs.BufferItems.{item_is}
use Rattle.arrow_columns.specs.Cells.{cell_at}
use Rattle.arrow_columns.specs.Integers.{item_at, number_of, width_of_item}
use Rattle.arrow_columns.specs.declared.columns.Column.{Column}
use Rattle.arrow_columns.specs.declared.kinds.ItemKind.{ItemKind}
use Rattle.truth_bitmaps.specs.Truths.{under_null}
use Rattle.truth_bitmaps.specs.declared.words.TruthWord.{TruthWord}
use Rattle.vortex_filter.specs.declared.operator.CompareOperator.{CompareOperator}
use Rattle.column_kernels.specs.Truths.{AreTruths, compared, if_value, number_cell, tested}

under-test : {X : Type 0} (test : X → Bool) (b : Bool) (x : X) → under_null b (Some (test x)) ≡ tested test (if b then Some x else None)
under-test test true x = refl
under-test test false x = refl

under-value : {X : Type 0} (test : X → Bool) (b : Bool) (x : X) → under_null b (Some (if_value test (if b then Some x else None))) ≡ tested test (if b then Some x else None)
under-value test true x = refl
under-value test false x = refl

-- of a test of what stands there, null or not
pub test-marked : {X : Type 0} (test : X → Bool) (validity : List ℕ) (value : ℕ → X) (i : ℕ) (old new : Option Bool) → new ≡ under_null (is_valid validity i) old → old ≡ Some (test (value i)) → new ≡ tested test (cell_at validity value i)
test-marked test validity value i old new is was = is ∙ ap (under_null (is_valid validity i)) was ∙ under-test test (is_valid validity i) (value i)

-- of a test that is False of a null
pub value-marked : {X : Type 0} (test : X → Bool) (validity : List ℕ) (value : ℕ → X) (i : ℕ) (old new : Option Bool) → new ≡ under_null (is_valid validity i) old → old ≡ Some (if_value test (cell_at validity value i)) → new ≡ tested test (cell_at validity value i)
value-marked test validity value i old new is was = is ∙ ap (under_null (is_valid validity i)) was ∙ under-value test (is_valid validity i) (value i)

-- ---- validity

by-none : (none bit : Bool) (t : Option Bool) → none ≡ true → t ≡ under_null (none || bit) t
by-none true bit t e = refl
by-none false bit t e = cc

by-bitmap : (none bit : Bool) → none ≡ false → bit ≡ (none || bit)
by-bitmap true bit e = cc
by-bitmap false bit e = refl

-- without a bitmap each row stays
pub stays : (validity : List ℕ) (i : ℕ) (t : Option Bool) → (length validity == 0) ≡ true → t ≡ under_null (is_valid validity i) t
stays validity i t none = by-none (length validity == 0) (bit_of validity i) t none

-- by a bitmap, whose bit has this place
pub marked : (validity : List ℕ) (i j : ℕ) (old new : Option Bool) → (length validity == 0) ≡ false → i ≡ j → new ≡ under_null (bit_of validity i) old → new ≡ under_null (is_valid validity j) old
marked validity i j old new some place is = is ∙ ap (λ k. under_null (bit_of validity k) old) place ∙ ap (λ b. under_null b old) (by-bitmap (length validity == 0) (bit_of validity j) some)

cleared : (b : Bool) → (if b then false else true) ≡ not b
cleared true = refl
cleared false = refl

-- which rows are null, by a bitmap
pub null-told : (validity : List ℕ) (i j : ℕ) (truth : Option Bool) → (length validity == 0) ≡ false → i ≡ j → truth ≡ Some (if (bit_of validity i) then false else true) → truth ≡ Some (not (is_valid validity j))
null-told validity i j truth some place is = is ∙ ap (λ k. Some (if (bit_of validity k) then false else true)) place ∙ ap Some (cleared (bit_of validity j)) ∙ ap (λ b. Some (not b)) (by-bitmap (length validity == 0) (bit_of validity j) some)

-- without one
none-null : (none bit : Bool) → none ≡ true → not (none || bit) ≡ false
none-null true bit e = refl
none-null false bit e = cc

pub no-null : (validity : List ℕ) (i : ℕ) (truth : Option Bool) → (length validity == 0) ≡ true → truth ≡ Some false → truth ≡ Some (not (is_valid validity i))
no-null validity i truth none is = is ∙ ap Some (sym (none-null (length validity == 0) (bit_of validity i) none))

-- ---- cells that were read

-- the cell of a row is what was read there
pub cell-read : {X : Type 0} (cell : ℕ → Option X) (offset count row : ℕ) (o : Option X) → row < count → slice_get (map cell (range_with_len offset count)) row ≡ Some o → cell (offset + row) ≡ o
cell-read {X = X} cell offset count row o below got =
    sym (get_or-map-range_with_len cell offset count row (offset + row) None below refl)
    ∙ ap inner (sym (slice_get-get_or (map cell (range_with_len offset count)) row None (omega (arith, length-map-range_with_len cell offset count))) ∙ got)
  where
    inner : Option (Option X) → Option X
    inner None = None
    inner (Some c) = c

-- a test of it
pub test-read : {X : Type 0} (test : X → Bool) (cell : ℕ → Option X) (offset count row : ℕ) (o : Option X) (b : Bool) → row < count → slice_get (map cell (range_with_len offset count)) row ≡ Some o → b ≡ if_value test o → b ≡ if_value test (cell (offset + row))
test-read test cell offset count row o b below got is = is ∙ sym (ap (if_value test) (cell-read cell offset count row o below got))

-- ---- items

-- a test of the number of an item, as it stands in the buffer
pub item-told : (kind : ItemKind) (n m : ℕ) (buffer : List ℕ) (items : List (List ℕ)) (test : ℤ → Bool) (offset from row : ℕ) (truth : Option Bool) → items ≡ first_chunks n m buffer → offset + (from + row) < m
    → truth ≡ Some (test (number_of kind (slice_index_or items (offset + from + row) []))) → truth ≡ Some (test (number_of kind (item_at n buffer (offset + (from + row)))))
item-told kind n m buffer items test offset from row truth chunks within is =
    let place : offset + from + row ≡ offset + (from + row) = omega arith in
    is ∙ ap (λ i. Some (test (number_of kind (slice_index_or items i [])))) place ∙ ap (λ bytes. Some (test (number_of kind bytes))) (item_is n m buffer items (offset + (from + row)) chunks within)

-- ---- bits

-- one of two answers, by a bit
pub by-bit : (test : Bool → Bool) (bit a b : Bool) (truth : Option Bool) → a ≡ test true → b ≡ test false → truth ≡ Some (if bit then a else b) → truth ≡ Some (test bit)
by-bit test true a b truth p q is = is ∙ ap Some p
by-bit test false a b truth p q is = is ∙ ap Some q

-- the bit of a row, whose place is counted in another way
pub at-place : (test : Bool → Bool) (bits : List ℕ) (i j : ℕ) (truth : Option Bool) → i ≡ j → truth ≡ Some (test (bit_of bits i)) → truth ≡ Some (test (bit_of bits j))
at-place test bits i j truth place is = is ∙ ap (λ k. Some (test (bit_of bits k))) place

-- ---- operators and widths

-- what holds of one that is known holds of the one that it is
pub with-known : {X : Type 0} (says : X → ℕ → Option Bool) (x known : X) (count : ℕ) (words : List TruthWord) → x ≡ known → AreTruths (says known) count words → AreTruths (says x) count words
with-known says x known count words e told = λ row below. told row below ∙ ap (λ y. says y row) (sym e)

-- ---- kinds

-- what is told of items of one kind is told of those of the kind that it is, by a literal that went through another
pub of-kind : (op : CompareOperator) (literal z : ℤ) (kind k : ItemKind) (column : Column) (from count : ℕ) (words : List TruthWord) → kind ≡ k → z ≡ literal
    → AreTruths (λ row. compared op (λ x. int_cmp x z) (number_cell (width_of_item k) k column (from + row))) count words
    → AreTruths (λ row. compared op (λ x. int_cmp x literal) (number_cell (width_of_item kind) kind column (from + row))) count words
of-kind op literal z kind k column from count words is e told = λ row below.
    told row below
    ∙ ap (λ y. compared op (λ x. int_cmp x y) (number_cell (width_of_item k) k column (from + row))) e
    ∙ ap (λ m. compared op (λ x. int_cmp x literal) (number_cell (width_of_item m) m column (from + row))) (sym is)
