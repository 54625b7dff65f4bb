use Rattle.std.proofs.Common.{[], ◌≡◌, ◌+◌, ◌-◌, ◌*◌, ◌/◌, ◌≤◌, Option, Some, ap, arith, length, map, pos, slice_get, slice_index_or, subst, take, unwrap_or, ℕ, ℤ}
use Rattle.std.proofs.lemmas.Nat.{le-div}
use Rattle.std.specs.List.{range_with_len}
use Rattle.arrow_columns.specs.Casts.{IsFirstWithout}
use Rattle.arrow_columns.specs.Cells.{cell_at}
use Rattle.arrow_columns.specs.Columns.{end_of}
use Rattle.arrow_columns.specs.Integers.{integer_of, item_at, number_of}
use Rattle.arrow_columns.proofs.BufferItems.{item_is}
use Rattle.arrow_columns.proofs.CellLists.{values_alike}
use Rattle.arrow_columns.proofs.BufferSteps.{cast_given, first_without_given, front_given}
use Rattle.arrow_columns.proofs.casts.cast_between.Goals as goal

pub write_by-requires : goal.write_by-requires
write_by-requires g c =
    let column = c.args.column in
    let within = le-div (end_of column) (length column.values.now) g.row.N c.requires.some c.requires.values in
    let count : column.length ≡ column.offset + column.length - column.offset = omega arith in (
      omega (arith, c.requires.narrow),
      (
        c.requires.narrow,
        (
          c.requires.narrow_to,
          (
            omega arith,
            (
              omega (arith, within, c.as_chunks.ensures.front_len),
              (c.requires.rows.1, subst (λ k. k * g.row.M ≤ length c.args.buffer.now) count c.requires.buffer),
            ),
          ),
        ),
      ),
    )

pub returns-in-Some-clause-fault : goal.returns-in-Some-clause-fault
returns-in-Some-clause-fault g c =
    let column = c.args.column in
    let n : ℕ = length column.values.now / g.row.N in
    let items = c.as_chunks.result.0.now in
    let F : ℕ → ℤ = λ i. number_of g.T.Item.kind (slice_index_or items i []) in
    let G : ℕ → ℤ = λ i. number_of g.T.Item.kind (item_at g.row.N column.values.now i) in
    let count : ℕ = column.offset + column.length - column.offset in
    let within : end_of column ≤ n = le-div (end_of column) (length column.values.now) g.row.N c.requires.some c.requires.values in
    let alike : map (cell_at column.validity.now F) (range_with_len column.offset count) ≡ map (cell_at column.validity.now G) (range_with_len column.offset column.length) =
    values_alike column.validity.now F G column.offset count column.length n (omega arith) (omega (arith, within))
    (λ k l. ap (number_of g.T.Item.kind) (item_is g.row.N n column.values.now items k c.as_chunks.ensures.front l)) in
    let i : ℕ = c.in-Some.i in
    let found = c.in-Some.ensures.found in
    subst (λ cells. IsFirstWithout g.U.Integer.kind cells (i - column.offset)) alike
    (first_without_given g.U.Integer.kind (cell_at column.validity.now F) column.offset count i found.1 (omega (arith, found.0)) found.2 found.3)

pub returns-in-Some-clause-front : goal.returns-in-Some-clause-front
returns-in-Some-clause-front g c =
    let column = c.args.column in
    let n : ℕ = length column.values.now / g.row.N in
    let items = c.as_chunks.result.0.now in
    let F : ℕ → ℤ = λ i. number_of g.T.Item.kind (slice_index_or items i []) in
    let G : ℕ → ℤ = λ i. number_of g.T.Item.kind (item_at g.row.N column.values.now i) in
    let count : ℕ = column.offset + column.length - column.offset in
    let within : end_of column ≤ n = le-div (end_of column) (length column.values.now) g.row.N c.requires.some c.requires.values in
    let alike : map (cell_at column.validity.now F) (range_with_len column.offset count) ≡ map (cell_at column.validity.now G) (range_with_len column.offset column.length) =
    values_alike column.validity.now F G column.offset count column.length n (omega arith) (omega (arith, within))
    (λ k l. ap (number_of g.T.Item.kind) (item_is g.row.N n column.values.now items k c.as_chunks.ensures.front l)) in
    let found = c.in-Some.ensures.found in
    let m : ℕ = c.in-Some.i - column.offset in
    λ once. subst (λ cells. (row : ℕ) (cell : Option ℤ) → slice_get (take m cells) row ≡ Some cell → integer_of g.U.Integer.kind (item_at g.row.M c.write_by.new.buffer row) ≡ unwrap_or cell (pos 0)) alike
    (front_given (cell_at column.validity.now F) column.offset count m (λ k. integer_of g.U.Integer.kind (item_at g.row.M c.write_by.new.buffer k)) (omega (arith, found.0, found.1)) (c.in-Some.ensures.front once))

pub returns-in-None-clause-cast : goal.returns-in-None-clause-cast
returns-in-None-clause-cast g c =
    let column = c.args.column in
    let n : ℕ = length column.values.now / g.row.N in
    let items = c.as_chunks.result.0.now in
    let F : ℕ → ℤ = λ i. number_of g.T.Item.kind (slice_index_or items i []) in
    let G : ℕ → ℤ = λ i. number_of g.T.Item.kind (item_at g.row.N column.values.now i) in
    let count : ℕ = column.offset + column.length - column.offset in
    let within : end_of column ≤ n = le-div (end_of column) (length column.values.now) g.row.N c.requires.some c.requires.values in
    let alike : map (cell_at column.validity.now F) (range_with_len column.offset count) ≡ map (cell_at column.validity.now G) (range_with_len column.offset column.length) =
    values_alike column.validity.now F G column.offset count column.length n (omega arith) (omega (arith, within))
    (λ k l. ap (number_of g.T.Item.kind) (item_is g.row.N n column.values.now items k c.as_chunks.ensures.front l)) in
    subst (λ cells. (row : ℕ) (cell : Option ℤ) → slice_get cells row ≡ Some cell → integer_of g.U.Integer.kind (item_at g.row.M c.write_by.new.buffer row) ≡ unwrap_or cell (pos 0)) alike
    (cast_given (cell_at column.validity.now F) column.offset count (λ k. integer_of g.U.Integer.kind (item_at g.row.M c.write_by.new.buffer k)) c.in-None.ensures.written)
