-- A column more.
use Rattle.std.proofs.Common.{◌<◌, arith, length, map}
use Rattle.record_search.specs.Searched.{row_cells}
use Rattle.record_columns.specs.Columns.{IsCountOf}
use Rattle.record_columns.proofs.BufferSteps.{changed_after, tells_more}
use Rattle.record_columns.proofs.buffers.count_wanted.Goals as goal

pub loop-which-preserved : goal.loop-which-preserved
loop-which-preserved c =
    let within : c.loop-which.which < length c.loop-which.columns = omega (arith, c.loop-which-test.true, c.requires.count, c.loop-which.auto.columns) in
    let s = c.args.schema.now in
    let one = c.count_one-suffices.new.column in
    record {
      counted = changed_after (IsCountOf s (map row_cells c.args.rows.now)) c.args.wanted.now c.loop-which.which c.args.columns.now c.loop-which.columns _ one c.loop-which.invariant.counted within c.count_one-suffices.ensures.counted;
      ready = tells_more s (map row_cells c.args.rows.now) c.args.wanted.now c.loop-which.which c.loop-which.columns one c.count_one-suffices.result c.loop-which.suffices within c.count_one-suffices.ensures.ready c.loop-which.invariant.ready;
    }
