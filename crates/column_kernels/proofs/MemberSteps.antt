-- Steps of `in` over the strings, or bytes, of a few literals.
use Rattle.std.proofs.Common.{[], ◌∷◌, ◌≡◌, ◌∙◌, ◌||◌, ◌+◌, ◌-◌, ◌<◌, ◌≤◌, All, Any, Bool, List, None, Option, Some, ap, arith, false, fold, get_or, length, map, min, nat_cmp, refl, slice_get, slice_index_or, suc, sym, true, zero, ℕ}
use Rattle.std.proofs.lemmas.Bool.Decides.{same_from_decides}
use Rattle.std.proofs.lemmas.List.{get_or_default}
use Rattle.std.proofs.lemmas.List.Folds.{Any-from_list_any, list_any-from_Any}
use Rattle.std.proofs.lemmas.Option.{slice_get-get_or}
use Rattle.std.proofs.lemmas.Map.Text.{is_eq-slice_cmp}
use Rattle.std.specs.Cmp.Lexicographic.{slice_cmp}
use Rattle.std.specs.List.{list_any}
use Rattle.std.specs.Str.{bytes_eq}
use Rattle.arrow_columns.specs.Columns.{offset_in}
use Rattle.arrow_columns.specs.Offsets.{bytes_between}
use Rattle.arrow_columns.specs.declared.tested_rows.ByteRows.{ByteRows}
use Rattle.arrow_columns.specs.declared.tested_rows.Rows.{Rows}
use Rattle.arrow_columns.specs.declared.tested_rows.Rows.TheVariants.{Bytes, Strings}
use Rattle.column_cells.specs.Contents.{contents_of_rows}
use Rattle.column_cells.specs.Types.{type_of_rows}
use Rattle.vortex_cells.specs.Cells.{Cell, cell_of}
use Rattle.vortex_filter.specs.Formula.{compare_truth, member_truth}
use Rattle.vortex_filter.specs.Truths as truths
use Rattle.vortex_filter.specs.declared.operator.CompareOperator.TheVariants.{Eq}
use Rattle.vortex_filter.specs.declared.truth.Truth.{Truth}
use Rattle.vortex_filter.specs.declared.truth.Truth.TheVariants.{False, Unknown, True}
use Rattle.vortex_value.specs.Equality.{same_type}
use Rattle.vortex_value.specs.Values.Content.{string, text}
use Rattle.vortex_value.specs.Values.Scalars.{scalar_content, scalar_type}
use Rattle.vortex_value.specs.declared.scalars.Scalar.{Scalar}
use Rattle.column_kernels.specs.Members.{AreNeedlesOf, IsNeedleOf, bytes_of_row}
use Rattle.column_kernels.specs.Rows.{bytes_in, cell_of_row, content_compared, option_of, text_in}
use Rattle.column_kernels.specs.Truths.{byte_cell, compared, tested}
use Rattle.column_kernels.specs.declared.needles.Needle.{Needle}
use Rattle.column_kernels.proofs.RowTests.{bytes-compared, counted, option-of-bool, range-known, row-told, same-compared, shown, text-compared}

-- ---- truths that are known

unknown-is : (t : Truth) → option_of t ≡ None → t ≡ Unknown
unknown-is False e = cc
unknown-is Unknown e = refl
unknown-is True e = cc

known-is : (t : Truth) (b : Bool) → option_of t ≡ Some b → t ≡ truths.truth_of (truths.is_true t)
known-is False b e = refl
known-is Unknown b e = cc
known-is True b e = refl

true-is : (t : Truth) (b : Bool) → option_of t ≡ Some b → truths.is_true t ≡ b
true-is False false e = refl
true-is False true e = cc
true-is Unknown b e = cc
true-is True false e = cc
true-is True true e = refl

or-known : (a b : Bool) → truths.truth_or (truths.truth_of a) (truths.truth_of b) ≡ truths.truth_of (a || b)
or-known true true = refl
or-known true false = refl
or-known false true = refl
or-known false false = refl

or-more : (a b c : Bool) → ((a || b) || c) ≡ (a || (b || c))
or-more true b c = refl
or-more false b c = refl

or-none : (a : Bool) → a ≡ (a || false)
or-none true = refl
or-none false = refl

-- ---- an `or` of comparisons

module _ (x : Cell) where
  abbrev step : Truth → Cell → Truth
  step t y = truths.truth_or t (compare_truth Eq x y)

  known-all : (test : Scalar → Bool) (literals : List Scalar) (a : Bool) → All (λ literal. compare_truth Eq x (cell_of literal) ≡ truths.truth_of (test literal)) literals
      → fold step (truths.truth_of a) (map cell_of literals) ≡ truths.truth_of (a || list_any test literals)
  known-all test [] a all = ap truths.truth_of (or-none a)
  known-all test (literal ∷ literals) a all =
      ap (λ t. fold step t (map cell_of literals)) (ap (truths.truth_or (truths.truth_of a)) (all 0 literal (omega arith)) ∙ or-known a (test literal))
      ∙ known-all test literals (a || test literal) (λ k d h. all (suc k) d (omega (arith, h)))
      ∙ ap truths.truth_of (or-more a (test literal) (list_any test literals))

  unknown-more : (literals : List Scalar) → All (λ literal. compare_truth Eq x (cell_of literal) ≡ Unknown) literals → fold step Unknown (map cell_of literals) ≡ Unknown
  unknown-more [] all = refl
  unknown-more (literal ∷ literals) all =
      ap (λ t. fold step t (map cell_of literals)) (ap (truths.truth_or Unknown) (all 0 literal (omega arith))) ∙ unknown-more literals (λ k d h. all (suc k) d (omega (arith, h)))

  unknown-all : (literals : List Scalar) → 0 < length literals → All (λ literal. compare_truth Eq x (cell_of literal) ≡ Unknown) literals → member_truth x (map cell_of literals) ≡ Unknown
  unknown-all [] some all = absurd (omega (arith, some))
  unknown-all (literal ∷ literals) some all =
      ap (λ t. fold step t (map cell_of literals)) (ap (truths.truth_or False) (all 0 literal (omega arith))) ∙ unknown-more literals (λ k d h. all (suc k) d (omega (arith, h)))

  -- of a row whose bytes, if it has some, tell of each literal by a needle
  by-cell : (literals : List Scalar) (needles : List Needle) (cell : Option (List ℕ)) → 0 < length literals
      → All (λ literal. Any (λ needle. option_of (compare_truth Eq x (cell_of literal)) ≡ tested (λ bytes. bytes_eq bytes needle.bytes.now) cell) needles) literals
      → All (λ needle. Any (λ literal. option_of (compare_truth Eq x (cell_of literal)) ≡ tested (λ bytes. bytes_eq bytes needle.bytes.now) cell) literals) needles
      → tested (λ bytes. list_any (λ needle. bytes_eq bytes needle.bytes.now) needles) cell ≡ option_of (member_truth x (map cell_of literals))
  by-cell literals needles None some each others = sym (ap option_of (unknown-all literals some (λ k d h. unknown-is _ (each k d h).4)))
  by-cell literals needles (Some bytes) some each others =
      let test : Scalar → Bool = λ literal. truths.is_true (compare_truth Eq x (cell_of literal)) in
      let equal : Needle → Bool = λ needle. bytes_eq bytes needle.bytes.now in
      let same : list_any equal needles ≡ list_any test literals =
      same_from_decides (list_any equal needles) (list_any test literals) (
        λ e.
            let one = Any-from_list_any equal needles e in
            let its = others one.0 one.1 one.2 in
            list_any-from_Any test literals (its.0, its.1, its.2, its.3, true-is _ _ its.4 ∙ ap equal one.3 ∙ one.4),
        λ e.
            let one = Any-from_list_any test literals e in
            let its = each one.0 one.1 one.2 in
            list_any-from_Any equal needles (its.0, its.1, its.2, its.3, sym (true-is _ _ its.4) ∙ ap test one.3 ∙ one.4),
      )
      (λ e. e, λ e. e) in
      ap Some same
      ∙ sym (ap option_of (known-all test literals false (λ k d h. known-is _ _ (each k d h).4)) ∙ option-of-bool (list_any test literals))

pub members-told : (rows : Rows) (literals : List Scalar) (needles : List Needle) (row : ℕ) → row < length (contents_of_rows rows) → AreNeedlesOf rows literals needles
    → tested (λ bytes. list_any (λ needle. bytes_eq bytes needle.bytes.now) needles) (bytes_of_row rows row) ≡ option_of (member_truth (cell_of_row rows row) (map cell_of literals))
members-told rows literals needles row below are =
    by-cell (cell_of_row rows row) literals needles (bytes_of_row rows row) are.some
    (λ k d h. let one = are.each k d h in (one.0, one.1, one.2, one.3, one.4 row below))
    (λ k d h. let one = are.no_others k d h in (one.0, one.1, one.2, one.3, one.4 row below))

-- ---- needles

tested-equal : (needle : Needle) (bytes : List ℕ) → needle.bytes.now ≡ bytes → (cell : Option (List ℕ)) → tested (λ value. bytes_eq value needle.bytes.now) cell ≡ compared Eq (λ value. slice_cmp nat_cmp value bytes) cell
tested-equal needle bytes e None = refl
tested-equal needle bytes e (Some value) = ap (λ b. Some (bytes_eq value b)) e ∙ ap Some (sym (is_eq-slice_cmp value bytes))

-- what tells of the contents of a column tells of its cells beside a literal of the same type
needle-told : (rows known : Rows) (spans : ByteRows) (literal : Scalar) (bytes : List ℕ) (needle : Needle) (row : ℕ) → rows ≡ known
    → ((r : ℕ) → bytes_of_row known r ≡ byte_cell spans.width spans.column r)
    → compared Eq (λ value. slice_cmp nat_cmp value bytes) (byte_cell spans.width spans.column row) ≡ option_of (content_compared Eq (cell_of_row known row).content (scalar_content literal))
    → same_type (type_of_rows rows) (scalar_type literal) ≡ true → needle.bytes.now ≡ bytes
    → option_of (compare_truth Eq (cell_of_row rows row) (cell_of literal)) ≡ tested (λ value. bytes_eq value needle.bytes.now) (bytes_of_row rows row)
needle-told rows known spans literal bytes needle row e cells contents same given =
    sym (
    ap (tested (λ value. bytes_eq value needle.bytes.now)) (ap (λ r. bytes_of_row r row) e ∙ cells row) ∙ tested-equal needle bytes given (byte_cell spans.width spans.column row)
    ∙ same-compared Eq (cell_of_row rows row) (cell_of literal) _ same (shown (λ d. option_of (content_compared Eq d (scalar_content literal))) rows known row _ e contents)
    )

pub text-needle : (rows : Rows) (spans : ByteRows) (literal : Scalar) (bytes : List ℕ) (needle : Needle) → rows ≡ Strings spans → same_type (type_of_rows rows) (scalar_type literal) ≡ true → Some bytes ≡ text_in (scalar_content literal) → needle.bytes.now ≡ bytes
    → IsNeedleOf rows literal needle
text-needle rows spans literal bytes needle e same is given row below =
    let column = spans.column in
    let value : ℕ → List ℕ = bytes_between column.values.now (offset_in spans.width column) in
    let inside = counted text column.validity.now value column.offset column.length (row + 1) (range-known rows (Strings spans) (row + 1) e (omega (arith, below))) in
    needle-told rows (Strings spans) spans literal bytes needle row e (λ r. refl)
    (row-told (λ d. option_of (content_compared Eq d (scalar_content literal))) text (compared Eq (λ v. slice_cmp nat_cmp v bytes)) column.validity.now value column.offset column.length row _ (omega (arith, inside)) (text-compared Eq (scalar_content literal) bytes is) refl) same given

pub byte-needle : (rows : Rows) (spans : ByteRows) (literal : Scalar) (bytes : List ℕ) (needle : Needle) → rows ≡ Bytes spans → same_type (type_of_rows rows) (scalar_type literal) ≡ true → Some bytes ≡ bytes_in (scalar_content literal) → needle.bytes.now ≡ bytes
    → IsNeedleOf rows literal needle
byte-needle rows spans literal bytes needle e same is given row below =
    let column = spans.column in
    let value : ℕ → List ℕ = bytes_between column.values.now (offset_in spans.width column) in
    let inside = counted string column.validity.now value column.offset column.length (row + 1) (range-known rows (Bytes spans) (row + 1) e (omega (arith, below))) in
    needle-told rows (Bytes spans) spans literal bytes needle row e (λ r. refl)
    (row-told (λ d. option_of (content_compared Eq d (scalar_content literal))) string (compared Eq (λ v. slice_cmp nat_cmp v bytes)) column.validity.now value column.offset column.length row _ (omega (arith, inside))
    (bytes-compared Eq string (λ v. v) (scalar_content literal) bytes (λ v. refl) is) refl) same given

-- ---- eight needles

first-of : {X : Type 0} (xs : List X) → 0 < length xs → X
first-of [] some = absurd (omega (arith, some))
first-of (x ∷ xs) some = x

-- the needle of each place, by the literal at it or the last one
abbrev pub AtPlace : Rows → List Scalar → ℕ → Needle → Type 0
AtPlace rows literals place needle = (literal : Scalar) → slice_get literals (min place (length literals - 1)) ≡ Some literal → IsNeedleOf rows literal needle

module _ (rows : Rows) (literals : List Scalar) (some : 0 < length literals) (few : length literals ≤ 8) (a b c d e f g h : Needle) (p : AtPlace rows literals 0 a) (q : AtPlace rows literals 1 b) (r : AtPlace rows literals 2 c) (s : AtPlace rows literals 3 d)
    (t : AtPlace rows literals 4 e) (u : AtPlace rows literals 5 f) (v : AtPlace rows literals 6 g) (w : AtPlace rows literals 7 h) where
  abbrev pub eight : List Needle
  eight = a ∷ b ∷ c ∷ d ∷ e ∷ f ∷ g ∷ h ∷ []

  at : (k : ℕ) (x : Needle) → k < 8 → AtPlace rows literals k (slice_index_or eight k x)
  at zero x l = p
  at (suc zero) x l = q
  at (suc (suc zero)) x l = r
  at (suc (suc (suc zero))) x l = s
  at (suc (suc (suc (suc zero)))) x l = t
  at (suc (suc (suc (suc (suc zero))))) x l = u
  at (suc (suc (suc (suc (suc (suc zero)))))) x l = v
  at (suc (suc (suc (suc (suc (suc (suc zero))))))) x l = w
  at (suc (suc (suc (suc (suc (suc (suc (suc k)))))))) x l = absurd (omega (arith, l))

  got : (k : ℕ) (y : Scalar) → k < length literals → slice_get literals k ≡ Some (get_or literals k y)
  got k y l = slice_get-get_or literals k y l

  pub eight-needles : AreNeedlesOf rows literals eight
  eight-needles = record {
    some = some;
    each = λ k y l.
        let x = slice_index_or eight k a in
        let place : min k (length literals - 1) ≡ k = omega (arith, l) in
        (k, x, omega (arith, l, few), get_or_default eight k x a (omega (arith, l, few)), at k a (omega (arith, l, few)) (get_or literals k y) (ap (slice_get literals) place ∙ got k y l));
    no_others = λ k x l.
        let place = min k (length literals - 1) in
        let y = first-of literals some in
        (place, get_or literals place y, omega (arith, some), get_or_default literals place (get_or literals place y) y (omega (arith, some)), at k x (omega (arith, l)) (get_or literals place y) (got place y (omega (arith, some))));
  }
