-- One column more, or a piece of a named one that says nothing.
use Rattle.std.proofs.Common.{◌≡◌, arith, length}
use Rattle.vortex_filter.specs.Formula.{formula}
use Rattle.column_filters.proofs.ZoneSteps.{head-named, head-other, read-more, read-skip, zone_refused}
use Rattle.column_filters.proofs.zones.outcome_of_zone.Goals as goal
use Rattle.column_filters.proofs.zones.outcome_of_zone.Goals.{in-Some+in_ok-read_piece, in_default}

pub loop-column-preserved : goal.loop-column-preserved
loop-column-preserved c =
    let f = formula c.args.filter.now in
    let types = c.args.types.now in
    let k = c.loop-column.column in
    let long : length c.loop-column.read ≡ length types = omega arith in
    elim c.match-heads-column.branch [
      | in-Some+in_ok-read_piece w ↦
          read-more f types c.args.statistics.now c.args.offsets.now c.args.first k w.index-types-column.result c.loop-column.read c.match-heads-column.read w.read_piece.new.read c.loop-column-test.true long w.index-types-column.is
          (head-named f types c.args.heads.now k c.index-heads-column.result w.in-Some.head c.requires.heads c.loop-column-test.true c.index-heads-column.is w.in-Some.is) c.loop-column.invariant w.in_ok-read_piece.ensures.said w.read-is
      | in_default w ↦
          read-skip f types c.args.statistics.now c.args.offsets.now c.args.first k c.loop-column.read c.match-heads-column.read (head-other f types c.args.heads.now k c.index-heads-column.result c.requires.heads c.loop-column-test.true c.index-heads-column.is w.in_default.is)
          c.loop-column.invariant w.read-is
    ]

pub returns-in_err-read_piece-clause-refused : goal.returns-in_err-read_piece-clause-refused
returns-in_err-read_piece-clause-refused c =
    let f = formula c.args.filter.now in
    let types = c.args.types.now in
    let k = c.loop-column.column in
    zone_refused f types c.args.statistics.now c.args.offsets.now c.args.first k c.index-types-column.result c.loop-column.read _ _ c.from_residual.ensures c.loop-column-test.true c.index-types-column.is
    (head-named f types c.args.heads.now k c.index-heads-column.result c.in-Some.head c.requires.heads c.loop-column-test.true c.index-heads-column.is c.in-Some.is) c.loop-column.invariant c.in_err-read_piece.ensures.refused
