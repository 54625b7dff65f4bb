-- One block more.
use Rattle.std.proofs.Common.{◌≡◌, ◌+◌, ◌-◌, ◌*◌, ◌/◌, ◌≤◌, ◌<◌, arith, length, min, subst, ℕ}
use Rattle.vortex_filter.specs.Formula.{formula}
use Rattle.column_kernels.specs.FilterWords.{IsMask, bitmap_length, cells_of_row, matching}
use Rattle.column_kernels.proofs.MaskSteps.{mask-more, rest-more}
use Rattle.column_kernels.proofs.masks.write_mask.Goals as goal

pub loop-block-preserved : goal.loop-block-preserved
loop-block-preserved c =
    let from : ℕ = 2048 * c.loop-block.block in
    let rows : ℕ = c.min-rows.result in
    let mask = c.loop-block.mask in
    let is_one = matching (formula c.args.filter.now) (cells_of_row c.args.columns.now) in
    let below : from < c.args.count = omega (arith, c.loop-block-test.true, c.div_ceil-block-end.ensures) in
    let many : rows ≡ min 2048 (c.args.count - from) = c.min-rows.ensures in
    let room : from / 8 ≤ length mask = omega (arith, c.requires.buffer, c.loop-block.auto.mask) in
    let so_far : IsMask is_one from mask = subst (λ n. IsMask is_one n mask) (omega arith) c.loop-block.invariant.0 in (
      mask-more is_one from (from / 8) rows (min (2048 * (c.loop-block.block + 1)) c.args.count) mask c.write_block.new.mask room (omega arith) (omega arith) so_far c.write_block.ensures.masked,
      rest-more (from / 8) rows (bitmap_length c.args.count) mask c.write_block.new.mask c.args.mask.now room (omega arith) c.write_block.ensures.rest c.loop-block.invariant.1,
    )
