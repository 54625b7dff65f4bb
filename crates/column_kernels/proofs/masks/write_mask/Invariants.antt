-- The bits of the blocks so far, and the bytes that stay.
use Rattle.std.proofs.Common.{◌≡◌, ◌*◌, drop, min}
use Rattle.vortex_filter.specs.Formula.{formula}
use Rattle.column_kernels.specs.FilterWords.{IsMask, bitmap_length, cells_of_row, matching}
use Rattle.column_kernels.proofs.masks.write_mask.Given as goal

abbrev pub invariant-loop-block : goal.invariant-loop-block
invariant-loop-block l = IsMask (matching (formula l.filter) (cells_of_row l.columns)) (min (2048 * l.block) l.count) l.mask × (drop (bitmap_length l.count) l.mask ≡ drop (bitmap_length l.count) l.fn.mask)
