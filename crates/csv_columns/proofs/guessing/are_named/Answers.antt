-- The name at hand is that of the column at its place.
use Rattle.std.proofs.Common.{◌<◌, [], arith, below_more, get_or, length, subst, sym}
use Rattle.std.specs.Prelude.{Contains}
use Rattle.std.proofs.lemmas.List.{get_or_default, length-map}
use Rattle.csv_columns.specs.Guesses.{column_names}
use Rattle.csv_columns.specs.Names.{texts}
use Rattle.csv_columns.proofs.Columns.{column_at, name_bytes}
use Rattle.csv_columns.proofs.guessing.are_named.Goals as goal

pub returns-then-not-stands_in : goal.returns-then-not-stands_in
returns-then-not-stands_in c = λ all.
    let columns = c.args.columns.now in
    let k = c.loop-named.named-index in
    let here = column_at columns k c.named-item.result c.deref.result.now c.loop-named-test.true c.named-item.is c.deref.ensures in
    let inside : k < length (column_names columns) = omega (arith, length-map columns name_bytes, c.loop-named-test.true) in
    c.if-not-stands_in.ensures (subst (Contains (texts c.args.names.now)) (sym here) (all k [] inside))

pub loop-named-preserved : goal.loop-named-preserved
loop-named-preserved c =
    let columns = c.args.columns.now in
    let k = c.loop-named.named-index in
    let here = column_at columns k c.named-item.result c.deref.result.now c.loop-named-test.true c.named-item.is c.deref.ensures in
    below_more (λ j. Contains (texts c.args.names.now) (get_or (column_names columns) j [])) k c.loop-named.invariant
    (subst (Contains (texts c.args.names.now)) here c.if-not-stands_in.ensures)

pub returns : goal.returns
returns c = λ k d h.
    let columns = column_names c.args.columns.now in
    let before : k < c.loop-named.named-index = omega (arith, length-map c.args.columns.now name_bytes) in
    subst (Contains (texts c.args.names.now)) (get_or_default columns k [] d h) (c.loop-named.invariant k before)
