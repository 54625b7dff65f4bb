-- The column of each kind.
use Rattle.std.proofs.Common.{◌≤◌, ap, arith, length, map, subst, sym}
use Rattle.std.specs.List.{All}
use Rattle.arrow_columns.specs.Bitmaps.{bitmap_length}
use Rattle.column_cells.specs.Types.{type_of_kind}
use Rattle.vortex_value.specs.Validity.{Valid}
use Rattle.vortex_value.specs.Values.Content.{content}
use Rattle.column_keys.specs.Cells.{raws_in}
use Rattle.column_keys.specs.Layout.{IsColumnOf}
use Rattle.column_keys.proofs.CellColumns.{boolean-column, integer-column, null-column, string-column, strings-of, value-column}
use Rattle.column_keys.proofs.RowsRead.{raws-count}
use Rattle.column_keys.proofs.writing.write_whole.Goals as goal

pub returns-in-Integer : goal.returns-in-Integer
returns-in-Integer c =
    let raws = raws_in c.args.rows.now c.args.which in
    let bits = c.write_validity.new.validity in
    let values = c.write_integers.new.values in
    let long : bitmap_length (length (map content raws)) ≤ length bits = omega (arith, c.requires.bits, c.write_validity.auto.validity, ap bitmap_length (raws-count c.args.rows.now c.args.which)) in
    let typed = subst (λ k. All (Valid (type_of_kind k)) raws) c.in-Integer.is c.requires.typed in
    subst (λ k. IsColumnOf k (map content raws) bits values c.args.offsets.now) (sym c.in-Integer.is) (integer-column c.in-Integer.kind raws bits values c.args.offsets.now typed long c.write_validity.ensures c.write_integers.ensures)

pub returns-in-Boolean : goal.returns-in-Boolean
returns-in-Boolean c =
    let raws = raws_in c.args.rows.now c.args.which in
    let bits = c.write_validity.new.validity in
    let values = c.write_booleans.new.values in
    let long : bitmap_length (length (map content raws)) ≤ length bits = omega (arith, c.requires.bits, c.write_validity.auto.validity, ap bitmap_length (raws-count c.args.rows.now c.args.which)) in
    let typed = subst (λ k. All (Valid (type_of_kind k)) raws) c.in-Boolean.is c.requires.typed in
    subst (λ k. IsColumnOf k (map content raws) bits values c.args.offsets.now) (sym c.in-Boolean.is) (boolean-column raws bits values c.args.offsets.now typed long c.write_validity.ensures c.write_booleans.ensures)

pub returns-in-Utf8 : goal.returns-in-Utf8
returns-in-Utf8 c =
    let raws = raws_in c.args.rows.now c.args.which in
    let bits = c.write_validity.new.validity in
    let long : bitmap_length (length (map content raws)) ≤ length bits = omega (arith, c.requires.bits, c.write_validity.auto.validity, ap bitmap_length (raws-count c.args.rows.now c.args.which)) in
    string-column c.args.kind raws bits c.write_strings.new.values c.write_strings.new.offsets (strings-of c.args.kind c.in-Utf8.is) c.requires.typed long c.write_validity.ensures c.write_strings.ensures

pub returns-in-Null : goal.returns-in-Null
returns-in-Null c =
    let raws = raws_in c.args.rows.now c.args.which in
    let bits = c.write_validity.new.validity in
    let typed = subst (λ k. All (Valid (type_of_kind k)) raws) c.in-Null.is c.requires.typed in
    subst (λ k. IsColumnOf k (map content raws) bits c.args.values.now c.args.offsets.now) (sym c.in-Null.is) (null-column raws bits c.args.values.now c.args.offsets.now typed c.write_validity.ensures)

pub returns-in-Logical : goal.returns-in-Logical
returns-in-Logical c =
    let raws = raws_in c.args.rows.now c.args.which in
    let bits = c.write_validity.new.validity in
    let values = c.write_values.new.values in
    let long : bitmap_length (length (map content raws)) ≤ length bits = omega (arith, c.requires.bits, c.write_validity.auto.validity, ap bitmap_length (raws-count c.args.rows.now c.args.which)) in
    subst (λ k. IsColumnOf k (map content raws) bits values c.args.offsets.now) (sym c.in-Logical.is) (value-column c.in-Logical.format (map content raws) bits values c.args.offsets.now long c.write_validity.ensures c.write_values.ensures)
