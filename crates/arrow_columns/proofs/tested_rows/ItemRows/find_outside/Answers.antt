use Rattle.std.proofs.Common.{arith, ℤ, List, Option, Some, to_z, of_z}
use Rattle.std.proofs.lemmas.Int.{ints}
use Rattle.std.specs.Int.{w128}
use Rattle.arrow_columns.specs.Columns.{item_cells}
use Rattle.arrow_columns.proofs.RangeSteps.{found_same, outside_found, within_more, within_same}
use Rattle.arrow_columns.proofs.tested_rows.ItemRows.find_outside.Goals as goal

pub returns-then-is_outside : goal.returns-then-is_outside
returns-then-is_outside c =
    let column = c.args.self.now.column in
    let cells : List (Option ℤ) = item_cells c.args.self.now.kind column in
    let least : ℤ = to_z w128 (of_z w128 c.args.least) in
    let greatest : ℤ = to_z w128 (of_z w128 c.args.greatest) in
    found_same least greatest c.args.least c.args.greatest cells column.length (Some c.loop-row.row) (omega (arith, ints)) (omega (arith, ints))
    (outside_found least greatest cells c.loop-row.row c.number_at.result c.number_at.ensures c.if-is_outside.ensures c.loop-row.invariant)

pub loop-row-preserved : goal.loop-row-preserved
loop-row-preserved c =
    let cells : List (Option ℤ) = item_cells c.args.self.now.kind c.args.self.now.column in
    let least : ℤ = to_z w128 (of_z w128 c.args.least) in
    let greatest : ℤ = to_z w128 (of_z w128 c.args.greatest) in
    within_more least greatest cells c.loop-row.row c.number_at.result c.number_at.ensures c.if-is_outside.ensures c.loop-row.invariant

pub returns : goal.returns
returns c =
    let column = c.args.self.now.column in
    let cells : List (Option ℤ) = item_cells c.args.self.now.kind column in
    let least : ℤ = to_z w128 (of_z w128 c.args.least) in
    let greatest : ℤ = to_z w128 (of_z w128 c.args.greatest) in
    within_same least greatest c.args.least c.args.greatest cells column.length (omega (arith, ints)) (omega (arith, ints)) (λ k z l s. c.loop-row.invariant k z (omega arith) s)
