-- One column more, and the first error of a named one.
use Rattle.std.proofs.Common.{◌≡◌, ◌∙◌, ◌<◌, arith, length, map}
use Rattle.std.proofs.lemmas.List.{length-map}
use Rattle.vortex_dtype.specs.TypeOf.{type_of}
use Rattle.vortex_filter.specs.Formula.{formula}
use Rattle.column_filters.proofs.ColumnSteps.{flag_is, is_named, place-more, read_if_typed, table-fault-typed, table-refused}
use Rattle.column_filters.specs.declared.errors.MaskError.TheVariants.{OutOfMemory}
use Rattle.column_filters.proofs.tables.read_columns.Goals as goal

pub returns-in_err-named-clause-fault : goal.returns-in_err-named-clause-fault
returns-in_err-named-clause-fault c =
    let types = map type_of c.args.types.now in
    let counts : length c.args.columns.now ≡ length types = omega (arith, c.if-columns-types.false, length-map c.args.types.now type_of) in
    table-refused (formula c.args.filter.now) c.args.columns.now types c.args.count _ OutOfMemory c.from_residual.ensures counts

pub returns-in_err-table-clause-fault : goal.returns-in_err-table-clause-fault
returns-in_err-table-clause-fault c =
    let types = map type_of c.args.types.now in
    let counts : length c.args.columns.now ≡ length types = omega (arith, c.if-columns-types.false, length-map c.args.types.now type_of) in
    table-refused (formula c.args.filter.now) c.args.columns.now types c.args.count _ OutOfMemory c.from_residual-in_err-table.ensures counts

pub returns-in_err-rows-clause-fault : goal.returns-in_err-rows-clause-fault
returns-in_err-rows-clause-fault c =
    let f = formula c.args.filter.now in
    let columns = c.args.columns.now in
    let place = c.loop-place.place in
    let flag = flag_is place c.is_set.result c.deref.result.now c.in_ok-named.named.items c.is_set.ensures c.deref.ensures.value in
    table-refused f columns (map type_of c.args.types.now) c.args.count _ _ c.from_residual-in_err-rows.ensures
    (table-fault-typed f columns c.args.types.now c.args.count place _ c.index-types-place.result _ (omega (arith, c.if-columns-types.false)) c.loop-place-test.true (is_named f (length columns) place c.in_ok-named.named.items c.in_ok-named.ensures c.loop-place-test.true (flag ∙ c.in_err-rows.ensures.fault.0))
    c.index-types-place.is c.loop-place.invariant.1 c.in_err-rows.ensures.fault.1)

pub loop-place-preserved : goal.loop-place-preserved
loop-place-preserved c =
    let f = formula c.args.filter.now in
    let columns = c.args.columns.now in
    let types = c.args.types.now in
    let place = c.loop-place.place in
    let here = c.loop-place-test.true in
    let typed : place < length types = omega (arith, c.if-columns-types.false, here) in
    let many : length c.loop-place.table.items ≡ place = omega (arith, c.loop-place.invariant.2) in
    let flag = flag_is place c.is_set.result c.deref.result.now c.in_ok-named.named.items c.is_set.ensures c.deref.ensures.value in
    let read = read_if_typed types place c.index-types-place.result _ _ c.args.count _ typed c.index-types-place.is c.in_ok-rows.ensures.read in
    let more = place-more f columns (map type_of types) c.args.count place (length columns) _ c.loop-place.table.items c.push_reserved.new.self.items _ c.is_set.result c.in_ok-named.named.items here here many c.in_ok-named.ensures flag c.loop-place.invariant.0 c.loop-place.invariant.1 read c.push_reserved.ensures.items in (
      more.0,
      more.1,
      omega (arith, c.push_reserved.ensures.len, c.loop-place.invariant.2),
      omega (arith, c.push_reserved.ensures.capacity, c.loop-place.invariant.3),
    )
