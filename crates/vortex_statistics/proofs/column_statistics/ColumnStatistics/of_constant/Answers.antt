use Rattle.std.proofs.Common.{◌≡◌, ◌<◌, ◌^◌, true, false, fold, replicate, option_map, refl, ap, subst, ◌∙◌, arith, rules}
use Rattle.vortex_value.specs.Values.RawTree.{is_absent}
use Rattle.vortex_value.specs.Values.Refs.{ref_raw}
use Rattle.vortex_value.specs.Values.Scalars.{scalar_raw}
use Rattle.vortex_cells.specs.Cells.{Cell, cell_of, cell_of_ref}
use Rattle.vortex_statistics.specs.Merging.{nothing}
use Rattle.vortex_statistics.specs.Observing.{observed}
use Rattle.vortex_statistics.specs.Statistics.{AreComplete, known, known_bound}
use Rattle.vortex_statistics.proofs.ConstantLaws.{constant_step, null_constant_step}
use Rattle.vortex_statistics.proofs.RepeatedLaws.{known_nulls, known_values}
use Rattle.vortex_cells.proofs.CellLaws.{ref_cell}
use Rattle.vortex_statistics.proofs.column_statistics.ColumnStatistics.of_constant.Goals as goal

pub returns-then-is_null-clause-complete : goal.returns-then-is_null-clause-complete
returns-then-is_null-clause-complete c =
    let void : is_absent (scalar_raw c.args.value.now) ≡ true = cc in
    null_constant_step c.args.rows (cell_of c.args.value.now) (scalar_raw c.args.value.now) void refl

pub returns-then-is_null-clause-value : goal.returns-then-is_null-clause-value
returns-then-is_null-clause-value c =
    let void : is_absent (scalar_raw c.args.value.now) ≡ true = cc in
    let fits : c.args.rows < 2 ^ 64 = search rules in
    known_nulls c.args.rows (cell_of c.args.value.now) (scalar_raw c.args.value.now) void refl fits

pub returns-in-Ok-clause-value : goal.returns-in-Ok-clause-value
returns-in-Ok-clause-value c =
    let absent : is_absent (scalar_raw c.args.value.now) ≡ false = cc in
    let there : is_absent (ref_raw c.of-value.result) ≡ false = ap is_absent c.of-value.ensures.made.value ∙ absent in
    let some : 0 < c.args.rows = omega arith in
    let made = c.change_bounds.new.self in
    let P : Cell → Type 0 = λ y. known made ≡ fold observed nothing (replicate c.args.rows y) in
    subst P (ref_cell c.args.value.now c.of-value.result c.of-value.ensures.made)
    (known_values c.order_is_reversed.ensures.contents c.order_is_transitive.ensures.contents c.args.rows (cell_of_ref c.of-value.result) (ref_raw c.of-value.result) c.replacing-change.result made.row_count made.null_count
    (option_map known_bound made.lower) (option_map known_bound made.upper) there refl some c.replacing-change.ensures c.change_bounds.ensures.rows c.change_bounds.ensures.nulls c.in-Ok.ensures.lower c.in-Ok.ensures.upper)

pub returns-in-Ok-clause-valid : goal.returns-in-Ok-clause-valid
returns-in-Ok-clause-valid c = λ valid. c.in-Ok.ensures.valid (c.of-value.ensures.valid valid) (record { lower = tt; upper = tt })

pub returns-in-Ok-clause-complete : goal.returns-in-Ok-clause-complete
returns-in-Ok-clause-complete c =
    let absent : is_absent (scalar_raw c.args.value.now) ≡ false = cc in
    let there : is_absent (ref_raw c.of-value.result) ≡ false = ap is_absent c.of-value.ensures.made.value ∙ absent in
    let some : 0 < c.args.rows = omega arith in
    let made = c.change_bounds.new.self in
    let P : Cell → Type 0 = λ y. AreComplete (known made) (replicate c.args.rows y) in
    subst P (ref_cell c.args.value.now c.of-value.result c.of-value.ensures.made)
    (constant_step c.order_is_reversed.ensures.contents c.order_is_transitive.ensures.contents c.args.rows (cell_of_ref c.of-value.result) (ref_raw c.of-value.result) c.replacing-change.result made.row_count made.null_count
    (option_map known_bound made.lower) (option_map known_bound made.upper) there refl some c.replacing-change.ensures c.change_bounds.ensures.rows c.change_bounds.ensures.nulls c.in-Ok.ensures.lower c.in-Ok.ensures.upper)
