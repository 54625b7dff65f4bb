-- One integer more.
use Rattle.std.proofs.Common.{◌∙◌, ◌<◌, arith, length, map, subst, sym}
use Rattle.std.proofs.lemmas.List.{length-map}
use Rattle.vortex_dtype.specs.TypeTree.{integer_type}
use Rattle.vortex_dtype.specs.declared.nullability.Nullability.TheVariants.{Nullable}
use Rattle.vortex_value.specs.Validity.{Valid}
use Rattle.vortex_value.specs.Values.Content.{content}
use Rattle.vortex_value.specs.Values.RawTree.{absent}
use Rattle.vortex_value.specs.Values.Scalars.{scalar_content, scalar_raw}
use Rattle.column_cells.specs.Types.{ptype_of_kind}
use Rattle.column_keys.specs.Cells.{raws_in}
use Rattle.column_keys.proofs.NumberSteps.{integers-done, integers-more, integers-none, number-fits, number-buffer}
use Rattle.column_keys.proofs.RowsRead.{content-at, raws-count}
use Rattle.column_keys.proofs.writing.write_integers.Goals as goal

pub loop-row-init : goal.loop-row-init
loop-row-init c = integers-none c.args.kind (map content (raws_in c.args.rows.now c.args.which)) c.args.values.now

pub number_or_zero-requires : goal.number_or_zero-requires
number_or_zero-requires c =
    let raws = raws_in c.args.rows.now c.args.which in
    let count = raws-count c.args.rows.now c.args.which in
    let within : c.loop-row.row < length raws = omega (arith, count, length-map raws content, c.loop-row-test.true) in
    subst (λ p. Valid (integer_type p Nullable) (scalar_raw c.cell_at-cell.result.now)) (sym c.ptype_of-ptype.ensures)
    (subst (Valid (integer_type (ptype_of_kind c.args.kind) Nullable)) (sym c.cell_at-cell.ensures) (c.requires.typed c.loop-row.row absent within))

pub put_number-requires : goal.put_number-requires
put_number-requires c =
    number-buffer c.args.kind _ c.loop-row.row (length c.args.rows.now) (length c.loop-row.values) (c.number_or_zero.ensures.typed ∙ c.ptype_of-ptype.ensures) c.loop-row-test.true (omega (arith, c.requires.buffer, c.loop-row.auto.values))

pub loop-row-preserved : goal.loop-row-preserved
loop-row-preserved c =
    let raws = raws_in c.args.rows.now c.args.which in
    let x = c.cell_at-cell.result.now in
    let count = raws-count c.args.rows.now c.args.which in
    let within : c.loop-row.row < length raws = omega (arith, count, length-map raws content, c.loop-row-test.true) in
    let valid = subst (Valid (integer_type (ptype_of_kind c.args.kind) Nullable)) (sym c.cell_at-cell.ensures) (c.requires.typed c.loop-row.row absent within) in
    integers-more c.args.kind (map content raws) c.loop-row.row c.loop-row.values c.put_number.new.values (scalar_content x) _ _ (content-at raws c.loop-row.row x c.cell_at-cell.ensures) c.loop-row.invariant
    (c.number_or_zero.ensures.typed ∙ c.ptype_of-ptype.ensures) c.number_or_zero.ensures.number (number-fits (ptype_of_kind c.args.kind) (scalar_raw x) valid) c.put_number.ensures.item c.put_number.ensures.before

pub returns : goal.returns
returns c =
    let count = raws-count c.args.rows.now c.args.which in
    integers-done c.args.kind (map content (raws_in c.args.rows.now c.args.which)) c.loop-row.row c.loop-row.values (omega (arith, count)) c.loop-row.invariant
