-- A column without rows begins with its buffers: it has as many rows and the same cells.
use Rattle.std.proofs.Common.{◌≡◌, ◌∙◌, ℕ, ◌==◌, if◌then◌else◌, Bool, true, false, map, arith, ap, refl, sym, Option}
use Rattle.std.specs.List.{range_with_len}
use Rattle.std.proofs.lemmas.Bool.Decides.{nat_tests}
use Rattle.arrow_columns.specs.Cells.{cell_at}
use Rattle.arrow_columns.specs.Columns.{integer_cells, with_start}
use Rattle.arrow_columns.specs.Integers.{integer_of, item_at, width_of}
use Rattle.arrow_columns.specs.declared.columns.Column.{Column}
use Rattle.arrow_columns.specs.declared.kinds.IntegerKind.{IntegerKind}

with_cases : (column : Column) (P : Column → Type 0) → (column.length ≡ 0 → P (record column { offset = 0 })) → P column → P (with_start column)
with_cases column P none same = by_test (column.length == 0) refl
  where
    by_test : (b : Bool) → (column.length == 0) ≡ b → P (if b then record column { offset = 0 } else column)
    by_test true e = none (grind (arith, nat_tests))
    by_test false e = same

pub start-length : (column : Column) → (with_start column).length ≡ column.length
start-length column = with_cases column (λ c. c.length ≡ column.length) (λ e. refl) refl

no-cells : {X : Type 0} (cell : ℕ → Option X) (from other n : ℕ) → n ≡ 0 → map cell (range_with_len from n) ≡ map cell (range_with_len other n)
no-cells cell from other n e = ap (λ k. map cell (range_with_len from k)) e ∙ sym (ap (λ k. map cell (range_with_len other k)) e)

pub start-cells : (kind : IntegerKind) (column : Column) → integer_cells kind (with_start column) ≡ integer_cells kind column
start-cells kind column =
    with_cases column (λ c. integer_cells kind c ≡ integer_cells kind column) (λ e. no-cells (cell_at column.validity.now (λ i. integer_of kind (item_at (width_of kind) column.values.now i))) 0 column.offset column.length e) refl
