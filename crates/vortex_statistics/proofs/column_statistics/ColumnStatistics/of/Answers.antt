use Rattle.std.proofs.Common.{◌≡◌, ◌+◌, ◌<◌, ◌^◌, List, [], ◌∷◌, ◌++◌, ap, fold, length, map, take, sym, subst, ◌∙◌, arith}
use Rattle.std.proofs.lemmas.List.Elements.{All-get_or}
use Rattle.std.proofs.lemmas.List.Sums.{fold-append}
use Rattle.std.proofs.lemmas.Result.{err_from_is_err_and}
use Rattle.vortex_cells.specs.Cells.{Cell, cell_of, cell_of_ref}
use Rattle.vortex_value.specs.Values.Scalars.{IsValid}
use Rattle.vortex_statistics.specs.Merging.{nothing}
use Rattle.vortex_statistics.specs.Observing.{SomeMayTakeMemory, observed}
use Rattle.vortex_statistics.specs.Statistics.{AreComplete, known}
use Rattle.vortex_statistics.specs.declared.error.StatisticsError.TheVariants.{OutOfMemory}
use Rattle.vortex_statistics.proofs.ConstantLaws.{one_may_take}
use Rattle.vortex_cells.proofs.CellLaws.{cells_more, ref_cell}
use Rattle.vortex_statistics.proofs.column_statistics.ColumnStatistics.of.Goals as goal

pub returns-in_err-observe-clause-refused : goal.returns-in_err-observe-clause-refused
returns-in_err-observe-clause-refused c =
    let fits : c.loop-value.value-index + 1 < 2 ^ 64 = omega arith in
    let why : (c.in_err-observe.field-0.0 ≡ OutOfMemory) × SomeMayTakeMemory c.args.values.now =
    one_may_take (known c.loop-value.statistics) c.of.result c.in_err-observe.field-0.0 c.args.values.now c.loop-value.value-index c.value-item.result (omega arith) c.value-item.is c.of.ensures.made
    c.loop-value.invariant.complete.right fits c.in_err-observe.ensures.refused in
    let p = err_from_is_err_and c.from_residual.result c.from_residual.ensures.1 in rw (p.1, p.2) why

pub loop-value-preserved : goal.loop-value-preserved
loop-value-preserved c =
    let values = c.args.values.now in
    let i = c.loop-value.value-index in
    let item = c.value-item.result in
    let before : List Cell = map cell_of (take i values) in
    let inside : i < length values = omega arith in
    let P : List Cell → Type 0 = λ cells. AreComplete (known c.observe.new.self) cells in
    let Q : Cell → Type 0 = λ y. AreComplete (known c.observe.new.self) (before ++ y ∷ []) in
    let same : cell_of_ref c.of.result ≡ cell_of item = ref_cell item c.of.result c.of.ensures.made in
    let more = cells_more values i item inside c.value-item.is in
    let now = c.in_ok-observe.ensures in
    let then = c.loop-value.invariant in
    record {
      value = now.value ∙ ap (observed (known c.loop-value.statistics)) same ∙ ap (λ s. observed s (cell_of item)) then.value
          ∙ sym (fold-append observed nothing before (cell_of item ∷ [])) ∙ ap (fold observed nothing) (sym more);
      complete = subst P (sym more) (subst Q same (now.complete before then.complete));
      valid = λ all. now.valid (c.of.ensures.valid (subst IsValid (sym c.value-item.is) (All-get_or IsValid values i item inside all))) (then.valid all);
    }
