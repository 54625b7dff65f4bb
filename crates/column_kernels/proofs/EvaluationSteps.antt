-- Steps of what filters say of a block of rows.
use Rattle.std.proofs.Common.{[], ◌∷◌, ◌≡◌, ◌∙◌, ◌+◌, ◌<◌, ◌≤◌, ◌⊎◌, List, None, Some, ap, ap₂, arith, false, fold, get_or, inl, inr, length, map, option_map, refl, replicate, slice_get, slice_index_or, subst, sym, take, true, ℕ}
use Rattle.std.proofs.lemmas.Bool.{cases_lt}
use Rattle.std.proofs.lemmas.List.{get_or-replicate, get_or_past, length-replicate, map-append, take_all, take_more}
use Rattle.std.proofs.lemmas.List.Sums.{fold-append}
use Rattle.std.proofs.lemmas.Option.{slice_get-map}
use Rattle.arrow_columns.specs.declared.tested_rows.Rows.{Rows}
use Rattle.arrow_columns.specs.declared.tested_rows.Rows.TheVariants.{Nulls}
use Rattle.vortex_dtype.specs.TypeTree.{null_type}
use Rattle.vortex_value.specs.Values.Content.{Content, null}
use Rattle.vortex_value.specs.declared.scalars.Scalar.{Scalar}
use Rattle.vortex_cells.specs.Cells.{Cell, cell_of, cell_or_null}
use Rattle.vortex_filter.proofs.Loops.{stuck_in}
use Rattle.vortex_filter.specs.Formula.{Formula, both, cell_at, compare_truth, either, member_truth, negation, range_truth, truth}
use Rattle.vortex_filter.specs.Truths as truths
use Rattle.vortex_filter.specs.declared.operator.CompareOperator.TheVariants.{Eq, Gte, Lte}
use Rattle.vortex_filter.specs.declared.truth.Truth.{Truth}
use Rattle.vortex_filter.specs.declared.truth.Truth.TheVariants.{False, Unknown, True}
use Rattle.truth_bitmaps.specs.Truths.{AreAll, truth_and, truth_at, truth_not, truth_or}
use Rattle.truth_bitmaps.specs.declared.words.TruthWord.{TruthWord}
use Rattle.column_kernels.specs.Words.{AreTruths, cell_of_row, cells_of_row, option_of}

-- ---- a column at a place

null-at : (count row : ℕ) → slice_index_or (replicate count null) row null ≡ null
null-at count row = by_place (cases_lt row count)
  where
    by_place : (row < count) ⊎ (count ≤ row) → slice_index_or (replicate count null) row null ≡ null
    by_place (inl below) = get_or-replicate count row null null below
    by_place (inr past) = get_or_past (replicate count null) row null (omega (arith, length-replicate count null))

-- where there is no column, the cells are nulls
pub no-column : (columns : List Rows) (k count row : ℕ) → slice_get columns k ≡ None → cell_of_row (Nulls count) row ≡ cell_at (cells_of_row columns row) k
no-column columns k count row none =
    let cell : Content → Cell = λ x. record { typed = null_type; content = x } in
    ap cell (null-at count row) ∙ sym (ap cell_or_null (slice_get-map (λ (r : Rows). cell_of_row r row) columns k ∙ ap (option_map (λ (r : Rows). cell_of_row r row)) none))

-- the words have what a filter says of the rows
abbrev pub Says : Formula → List Rows → ℕ → ℕ → List TruthWord → Type 0
Says f columns from count words = AreTruths (λ row. option_of (truth f (cells_of_row columns (from + row)))) count words

-- by another name of its formula
pub says-along : (f g : Formula) (columns : List Rows) (from count : ℕ) (words : List TruthWord) → f ≡ g → Says g columns from count words → Says f columns from count words
says-along f g columns from count words e h = subst (λ p. Says p columns from count words) (sym e) h

-- a test of the column at a place is one of that column
pub test-at : (rows : Rows) (columns : List Rows) (k from count : ℕ) (words : List TruthWord) (test : Cell → Truth) → ((row : ℕ) → cell_of_row rows row ≡ cell_at (cells_of_row columns row) k)
    → AreTruths (λ row. option_of (test (cell_of_row rows (from + row)))) count words → AreTruths (λ row. option_of (test (cell_at (cells_of_row columns (from + row)) k))) count words
test-at rows columns k from count words test same are row below = are row below ∙ ap (λ x. option_of (test x)) (same (from + row))

-- ---- truth values as words have them

pub option-and : (t u : Truth) → truth_and (option_of t) (option_of u) ≡ option_of (truths.truth_and t u)
option-and False u = refl
option-and Unknown False = refl
option-and Unknown Unknown = refl
option-and Unknown True = refl
option-and True False = refl
option-and True Unknown = refl
option-and True True = refl

pub option-or : (t u : Truth) → truth_or (option_of t) (option_of u) ≡ option_of (truths.truth_or t u)
option-or True u = refl
option-or Unknown True = refl
option-or Unknown Unknown = refl
option-or Unknown False = refl
option-or False False = refl
option-or False Unknown = refl
option-or False True = refl

pub option-not : (t : Truth) → truth_not (option_of t) ≡ option_of (truths.truth_not t)
option-not False = refl
option-not Unknown = refl
option-not True = refl

only-true : (t : Truth) → option_of t ≡ Some true → t ≡ True
only-true False e = cc
only-true Unknown e = cc
only-true True e = refl

-- ---- connectives, with the parts that the code borrows

pub says-and : (f g h : Formula) (columns : List Rows) (from count : ℕ) (old new : List TruthWord) → f ≡ both g h → Says g columns from count old
    → AreTruths (λ row. truth_and (truth_at old row) (option_of (truth h (cells_of_row columns (from + row))))) count new → Says f columns from count new
says-and f g h columns from count old new e first second = says-along f (both g h) columns from count new e (λ row below.
    let cells = cells_of_row columns (from + row) in
    second row below ∙ ap (λ t. truth_and t (option_of (truth h cells))) (first row below) ∙ option-and (truth g cells) (truth h cells))

pub says-or : (f g h : Formula) (columns : List Rows) (from count : ℕ) (old new : List TruthWord) → f ≡ either g h → Says g columns from count old
    → AreTruths (λ row. truth_or (truth_at old row) (option_of (truth h (cells_of_row columns (from + row))))) count new → Says f columns from count new
says-or f g h columns from count old new e first second = says-along f (either g h) columns from count new e (λ row below.
    let cells = cells_of_row columns (from + row) in
    second row below ∙ ap (λ t. truth_or t (option_of (truth h cells))) (first row below) ∙ option-or (truth g cells) (truth h cells))

pub says-not : (f g : Formula) (columns : List Rows) (from count n : ℕ) (old new : List TruthWord) → f ≡ negation g → count ≤ n → Says g columns from count old
    → ((row : ℕ) → row < n → truth_at new row ≡ truth_not (truth_at old row)) → Says f columns from count new
says-not f g columns from count n old new e within first second = says-along f (negation g) columns from count new e (λ row below.
    second row (omega arith) ∙ ap truth_not (first row below) ∙ option-not (truth g (cells_of_row columns (from + row))))

-- what another filter says, joined to the words

pub join-and : (f : Formula) (columns : List Rows) (from count n : ℕ) (old others new : List TruthWord) → count ≤ n → Says f columns from count others
    → ((row : ℕ) → row < n → truth_at new row ≡ truth_and (truth_at old row) (truth_at others row)) → AreTruths (λ row. truth_and (truth_at old row) (option_of (truth f (cells_of_row columns (from + row))))) count new
join-and f columns from count n old others new within said join row below = join row (omega arith) ∙ ap (truth_and (truth_at old row)) (said row below)

pub join-or : (f : Formula) (columns : List Rows) (from count n : ℕ) (old others new : List TruthWord) → count ≤ n → Says f columns from count others
    → ((row : ℕ) → row < n → truth_at new row ≡ truth_or (truth_at old row) (truth_at others row)) → AreTruths (λ row. truth_or (truth_at old row) (option_of (truth f (cells_of_row columns (from + row))))) count new
join-or f columns from count n old others new within said join row below = join row (omega arith) ∙ ap (truth_or (truth_at old row)) (said row below)

-- both ends of a range
pub range-of : (rows : Rows) (from count n : ℕ) (lower upper : Cell) (first second new : List TruthWord) → count ≤ n → AreTruths (λ row. option_of (compare_truth Gte (cell_of_row rows (from + row)) lower)) count first
    → AreTruths (λ row. option_of (compare_truth Lte (cell_of_row rows (from + row)) upper)) count second → ((row : ℕ) → row < n → truth_at new row ≡ truth_and (truth_at first row) (truth_at second row))
    → AreTruths (λ row. option_of (range_truth (cell_of_row rows (from + row)) lower upper)) count new
range-of rows from count n lower upper first second new within above up_to join row below =
    let x = cell_of_row rows (from + row) in
    join row (omega arith) ∙ ap₂ truth_and (above row below) (up_to row below) ∙ option-and (compare_truth Gte x lower) (compare_truth Lte x upper)

-- where each row is decided, the other side changes nothing

pub decided-and : (f : Formula) (columns : List Rows) (from count n : ℕ) (words : List TruthWord) → count ≤ n → AreAll (Some false) words n
    → AreTruths (λ row. truth_and (truth_at words row) (option_of (truth f (cells_of_row columns (from + row))))) count words
decided-and f columns from count n words within all row below =
    let is = all row (omega arith) in
    is ∙ sym (ap (λ t. truth_and t (option_of (truth f (cells_of_row columns (from + row))))) is)

pub decided-or : (f : Formula) (columns : List Rows) (from count n : ℕ) (words : List TruthWord) → count ≤ n → AreAll (Some true) words n
    → AreTruths (λ row. truth_or (truth_at words row) (option_of (truth f (cells_of_row columns (from + row))))) count words
decided-or f columns from count n words within all row below =
    let is = all row (omega arith) in
    is ∙ sym (ap (λ t. truth_or t (option_of (truth f (cells_of_row columns (from + row))))) is)

-- ---- the literals of `in`, one by one

-- the words say whether each row is equal to one of the literals
abbrev pub AreMembers : Rows → ℕ → ℕ → List Scalar → List TruthWord → Type 0
AreMembers rows from count literals words = AreTruths (λ row. option_of (member_truth (cell_of_row rows (from + row)) (map cell_of literals))) count words

-- what joins one literal by `or`
abbrev pub JoinsEqual : Rows → ℕ → ℕ → Scalar → List TruthWord → List TruthWord → Type 0
JoinsEqual rows from count literal old new = AreTruths (λ row. truth_or (truth_at old row) (option_of (compare_truth Eq (cell_of_row rows (from + row)) (cell_of literal)))) count new

pub members-none : (rows : Rows) (from count n : ℕ) (words : List TruthWord) → count ≤ n → AreAll (Some false) words n → AreMembers rows from count [] words
members-none rows from count n words within all row below = all row (omega arith)

member-more : (x : Cell) (literals : List Scalar) (i : ℕ) (literal : Scalar) → i < length literals → literal ≡ get_or literals i literal
    → truths.truth_or (member_truth x (map cell_of (take i literals))) (compare_truth Eq x (cell_of literal)) ≡ member_truth x (map cell_of (take (i + 1) literals))
member-more x literals i literal here is =
    let join : Truth → Cell → Truth = λ t y. truths.truth_or t (compare_truth Eq x y) in
    ap (λ y. join (member_truth x (map cell_of (take i literals))) (cell_of y)) is
    ∙ sym (ap (λ xs. fold join False (map cell_of xs)) (take_more literals i literal here) ∙ ap (fold join False) (map-append cell_of (take i literals) (get_or literals i literal ∷ []))
    ∙ fold-append join False (map cell_of (take i literals)) (cell_of (get_or literals i literal) ∷ []))

joined : (rows : Rows) (from count i row : ℕ) (literals : List Scalar) (literal : Scalar) (old new : List TruthWord) → row < count → AreMembers rows from count (take i literals) old → JoinsEqual rows from count literal old new
    → truth_at new row ≡ option_of (truths.truth_or (member_truth (cell_of_row rows (from + row)) (map cell_of (take i literals))) (compare_truth Eq (cell_of_row rows (from + row)) (cell_of literal)))
joined rows from count i row literals literal old new below all join =
    let x = cell_of_row rows (from + row) in
    join row below ∙ ap (λ t. truth_or t (option_of (compare_truth Eq x (cell_of literal)))) (all row below)
    ∙ option-or (member_truth x (map cell_of (take i literals))) (compare_truth Eq x (cell_of literal))

pub members-more : (rows : Rows) (from count i : ℕ) (literals : List Scalar) (literal : Scalar) (old new : List TruthWord) → i < length literals → literal ≡ get_or literals i literal → AreMembers rows from count (take i literals) old
    → JoinsEqual rows from count literal old new → AreMembers rows from count (take (i + 1) literals) new
members-more rows from count i literals literal old new here is all join row below =
    joined rows from count i row literals literal old new below all join ∙ ap option_of (member-more (cell_of_row rows (from + row)) literals i literal here is)

-- where each row is equal to one, the others change nothing
pub members-decided : (rows : Rows) (from count i n : ℕ) (literals : List Scalar) (literal : Scalar) (old new : List TruthWord) → i < length literals → literal ≡ get_or literals i literal → AreMembers rows from count (take i literals) old
    → JoinsEqual rows from count literal old new → count ≤ n → AreAll (Some true) new n → AreMembers rows from count literals new
members-decided rows from count i n literals literal old new here is all join within true' row below =
    let x = cell_of_row rows (from + row) in
    let now = true' row (omega arith) in
    let is_true = only-true _ (sym (joined rows from count i row literals literal old new below all join) ∙ now) in
    now ∙ ap option_of (stuck_in (λ t y. truths.truth_or t (compare_truth Eq x y)) True (λ y. refl) False literals i literal here is is_true)

pub members-all : (rows : Rows) (from count i : ℕ) (literals : List Scalar) (words : List TruthWord) → length literals ≤ i → AreMembers rows from count (take i literals) words → AreMembers rows from count literals words
members-all rows from count i literals words end all = subst (λ xs. AreMembers rows from count xs words) (take_all i literals end) all
