-- One column more.
use Rattle.std.proofs.Common.{◌≡◌, ◌<◌, arith, length, refl, subst}
use Rattle.column_keys.proofs.ColumnsRead.{TellsSpace, counted-after, counted-none, space-none, tells-next}
use Rattle.column_keys.proofs.counting.count_columns.Goals as goal

pub count_column-suffices-requires-clause-cells : goal.count_column-suffices-requires-clause-cells
count_column-suffices-requires-clause-cells c = c.requires.cells c.loop-which.which c.loop-which-test.true

pub loop-which-init : goal.loop-which-init
loop-which-init c = (counted-none c.args.kinds.now c.args.rows.now c.args.columns.now, space-none c.args.kinds.now c.args.rows.now c.args.columns.now)

pub loop-which-preserved : goal.loop-which-preserved
loop-which-preserved c =
    let within : c.loop-which.which < length c.loop-which.columns = omega (arith, c.loop-which-test.true, c.requires.counts, c.loop-which.auto.columns) in
    let kind = c.known_kind-kind.result in
    let one = c.count_column-suffices.new.column in (
      counted-after c.args.kinds.now c.args.rows.now c.loop-which.which c.args.columns.now c.loop-which.columns kind _ one c.loop-which.invariant.0 within c.known_kind-kind.ensures c.count_column-suffices.ensures.counted,
      tells-next c.args.kinds.now c.args.rows.now c.loop-which.which c.loop-which.columns _ kind one c.count_column-suffices.result c.loop-which.suffices within refl c.known_kind-kind.ensures c.count_column-suffices.ensures.space c.loop-which.invariant.1,
    )

pub returns-clause-space : goal.returns-clause-space
returns-clause-space c =
    let at : c.loop-which.which ≡ length c.args.kinds.now = omega (arith, c.loop-which-test.false, c.loop-which.auto.which-end) in
    subst (λ n. TellsSpace c.loop-which.suffices c.args.kinds.now c.args.rows.now n c.loop-which.columns) at c.loop-which.invariant.1
