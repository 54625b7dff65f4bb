-- No piece, no encoding, and a column more.
use Rattle.std.proofs.Common.{◌≡◌, ◌+◌, None, Option, Some, arith, get_or, map, rules, set, subst, take}
use Rattle.record_rows.specs.declared.schema.ColumnType.{ColumnType}
use Rattle.vortex_statistics.specs.Statistics.{Known, known}
use Rattle.zone_index.proofs.ReadSteps.{is_set}
use Rattle.record_search.specs.Decoding.{piece_in, statistics_in}
use Rattle.record_search.proofs.DescribeLaws.{some_column}
use Rattle.record_search.proofs.ReadColumns.{column_read, no_encoding, no_piece}
use Rattle.record_search.proofs.reading.read_all.Goals as goal

pub returns-in_default : goal.returns-in_default
returns-in_default c =
    no_piece c.args.columns.now c.loop-place.place some_column (map known (take c.loop-place.place c.loop-place.all)) c.args.bytes.now c.loop-place.rest.now c.loop-place-test.true (search rules) c.loop-place.invariant

pub returns-then-not-is_encoding : goal.returns-then-not-is_encoding
returns-then-not-is_encoding c =
    let cut : Some (c.in-Some.piece.now, c.in-Some.after.now) ≡ piece_in c.loop-place.rest.now = search rules in
    let column = c.index-columns-place.result in
    let here : column ≡ get_or c.args.columns.now c.loop-place.place column = search rules in
    let said : None ≡ statistics_in (get_or c.args.columns.now c.loop-place.place column) c.in-Some.piece.now =
    subst (λ (k : ColumnType). let o : Option Known = None in o ≡ statistics_in k c.in-Some.piece.now) here (rw c.if-not-is_encoding.true at c.in_ok-is_encoding.ensures) in
    no_encoding c.args.columns.now c.loop-place.place column (map known (take c.loop-place.place c.loop-place.all)) c.args.bytes.now c.loop-place.rest.now c.in-Some.piece.now c.in-Some.after.now c.loop-place-test.true cut said c.loop-place.invariant

pub loop-place-preserved : goal.loop-place-preserved
loop-place-preserved c =
    let all = c.loop-place.all in
    let place = c.loop-place.place in
    let read = c.read_column.new.statistics in
    let cut : Some (c.in-Some.piece.now, c.in-Some.after.now) ≡ piece_in c.loop-place.rest.now = search rules in
    let more = (is_set all place read read (omega (arith, c.loop-place-test.true, c.loop-place.auto.all, c.requires))).front in
    let column = c.index-columns-place.result in
    let here : column ≡ get_or c.args.columns.now place column = search rules in
    let said : Some (known read) ≡ statistics_in (get_or c.args.columns.now place column) c.in-Some.piece.now =
    subst (λ (k : ColumnType). Some (known read) ≡ statistics_in k c.in-Some.piece.now) here (rw c.if-not-is_encoding.false at c.in_ok-is_encoding.ensures) in
    column_read c.args.columns.now place column (take place all) (take (place + 1) (set all place read)) read c.args.bytes.now c.loop-place.rest.now c.in-Some.piece.now c.in-Some.after.now c.loop-place-test.true cut said more c.loop-place.invariant
