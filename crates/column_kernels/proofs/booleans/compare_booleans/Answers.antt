use Rattle.std.proofs.Common.{◌+◌, Bool, arith, rules}
use Rattle.arrow_columns.specs.Bitmaps.{bit_of}
use Rattle.truth_bitmaps.specs.Truths.{truth_at}
use Rattle.vortex_filter.specs.Operators.{holds}
use Rattle.vortex_value.specs.Order.{truth_cmp}
use Rattle.column_kernels.proofs.CellSteps.{at-place, by-bit, test-marked}
use Rattle.column_kernels.proofs.booleans.compare_booleans.Goals as goal

pub returns-clause-truth : goal.returns-clause-truth
returns-clause-truth c = λ row below.
    let column = c.args.rows.now.column in
    let test : Bool → Bool = λ b. holds c.args.operator (truth_cmp b c.args.literal) in
    let bits = column.values.now in
    let old = truth_at c.write_bits.new.words row in
    test-marked test column.validity.now (bit_of bits) (column.offset + (c.args.from + row)) old _ (c.mark_null_rows.ensures.truth row below)
    (at-place test bits (column.offset + c.args.from + row) (column.offset + (c.args.from + row)) old (omega arith) (by-bit test (bit_of bits (column.offset + c.args.from + row)) c.holds-if_true.result c.holds-if_false.result old (search rules) (search rules) (c.write_bits.ensures.rows row below)))
