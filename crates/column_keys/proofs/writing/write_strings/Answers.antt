-- One string more.
use Rattle.std.proofs.Common.{◌≡◌, ◌≤◌, ◌+◌, ◌-◌, ◌++◌, ◌<◌, ◌∙◌, [], ap, arith, length, map, refl, set, take, length-append}
use Rattle.std.proofs.lemmas.List.{get_or-set_same, length-set}
use Rattle.std.proofs.lemmas.Slice.{take-put_mid}
use borrow.Rule.Slice.PartMut.{put_mid}
use Rattle.vortex_value.specs.Values.Content.{content}
use Rattle.vortex_value.specs.Values.Scalars.{scalar_content}
use Rattle.column_keys.specs.Cells.{raws_in}
use Rattle.column_keys.proofs.RowsRead.{content-at, raws-count}
use Rattle.column_keys.proofs.StringSteps.{length-fits, strings-done, strings-more, strings-none}
use Rattle.column_keys.proofs.writing.write_strings.Goals as goal

pub loop-row-init : goal.loop-row-init
loop-row-init c =
    let some : 0 < length c.args.offsets.now = omega (arith, c.requires.offsets) in
    (strings-none (map content (raws_in c.args.rows.now c.args.which)) [] (set c.args.offsets.now 0 0) refl (get_or-set_same c.args.offsets.now 0 0 0 some), refl)

pub slice_bounds-copy_from_slice-end : goal.slice_bounds-copy_from_slice-end
slice_bounds-copy_from_slice-end c =
    let raws = raws_in c.args.rows.now c.args.which in
    let x = c.cell_at.result.now in
    let count = raws-count c.args.rows.now c.args.which in
    let within : c.loop-row.row < length (map content raws) = omega (arith, count, c.loop-row-test.true) in
    let fits = length-fits (map content raws) c.loop-row.row c.loop-row.start (scalar_content x) within (content-at raws c.loop-row.row x c.cell_at.ensures) (c.loop-row.invariant.1 ∙ c.loop-row.invariant.0.size) in
    let same = ap length c.bytes_or_none-bytes.ensures in
    omega (arith, fits, same, c.requires.values, c.loop-row.auto.values)

pub loop-row-preserved : goal.loop-row-preserved
loop-row-preserved c =
    let raws = raws_in c.args.rows.now c.args.which in
    let x = c.cell_at.result.now in
    let bytes = c.bytes_or_none-bytes.result.now in
    let start = c.loop-row.start in
    let values = c.loop-row.values in
    let put = c.copy_from_slice.new.self in
    let count = raws-count c.args.rows.now c.args.which in
    let within : c.loop-row.row < length (map content raws) = omega (arith, count, c.loop-row-test.true) in
    let inside : c.loop-row.row + 1 < length c.loop-row.offsets = omega (arith, c.loop-row-test.true, c.requires.offsets, c.loop-row.auto.offsets, length-set c.args.offsets.now 0 0) in
    let there = content-at raws c.loop-row.row x c.cell_at.ensures in
    let fits = length-fits (map content raws) c.loop-row.row start (scalar_content x) within there (c.loop-row.invariant.1 ∙ c.loop-row.invariant.0.size) in
    let sized = ap length c.bytes_or_none-bytes.ensures in
    let is : put ≡ bytes = c.copy_from_slice.ensures.after in
    let less : start ≤ length values = omega (arith, fits, c.requires.values, c.loop-row.auto.values) in
    let front : take (start + length bytes) (put_mid start (start + length bytes - start) values put) ≡ take start values ++ put = take-put_mid start (start + length bytes - start) values put (start + length bytes) (omega (arith, ap length is)) less in
    let long : start + length bytes ≡ length (take (start + length bytes) (put_mid start (start + length bytes - start) values put)) = omega (arith, ap length front, length-append (take start values) put, ap length is, c.loop-row.invariant.1) in
    (strings-more (map content raws) c.loop-row.row (start + length bytes) (take start values) _ c.loop-row.offsets (scalar_content x) within inside there c.loop-row.invariant.0 (front ∙ ap (λ bs. take start values ++ bs) (is ∙ c.bytes_or_none-bytes.ensures)) long, long)

pub returns : goal.returns
returns c =
    let count = raws-count c.args.rows.now c.args.which in
    strings-done (map content (raws_in c.args.rows.now c.args.which)) c.loop-row.row c.loop-row.start c.loop-row.values c.loop-row.offsets (omega (arith, count)) (omega (arith, c.requires.values, c.loop-row.auto.values)) c.loop-row.invariant.1 c.loop-row.invariant.0
