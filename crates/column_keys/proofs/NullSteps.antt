-- The keys of a column of nulls.
use Rattle.std.proofs.Common.{◌≡◌, ◌∙◌, ℕ, zero, suc, ◌^◌, ◌<◌, ◌≤◌, length, replicate, get_or, arith, ap, subst}
use Rattle.std.proofs.lemmas.List.{get_or-replicate, length-replicate}
use Rattle.arrow_columns.specs.declared.tested_rows.Rows.{Rows}
use Rattle.arrow_columns.specs.declared.tested_rows.Rows.TheVariants.{Nulls}
use Rattle.column_cells.specs.Contents.{contents_of_rows}
use Rattle.vortex_value.specs.Size.{capped}
use Rattle.vortex_value.specs.Values.Content.{null}
use Rattle.vortex_row.specs.Keys.{key}
use Rattle.column_keys.specs.Keys.{column_length}

-- each has one byte
pub nulls-length : (n row : ℕ) → row ≤ n → column_length (replicate n null) row ≡ row
nulls-length n zero l = omega arith
nulls-length n (suc row) l =
    let before = nulls-length n row (omega (arith, l)) in
    let one : length (key (get_or (replicate n null) row null)) ≡ 1 = ap (λ c. length (key c)) (get_or-replicate n row null null (omega (arith, l))) in
    omega (arith, before, one)

-- so many rows of nulls have so many bytes
pub null-rows : (rows : Rows) (n count : ℕ) → rows ≡ Nulls n → count ≤ length (contents_of_rows rows) → count < 2 ^ 64 → count ≡ capped (column_length (contents_of_rows rows) count)
null-rows rows n count e l fits =
    let within = subst (λ r. count ≤ length (contents_of_rows r)) e l in
    let few : count ≤ n = omega (arith, within, length-replicate n null) in
    let all : column_length (contents_of_rows rows) count ≡ count = ap (λ r. column_length (contents_of_rows r) count) e ∙ nulls-length n count few in
    omega (arith, all, fits)
