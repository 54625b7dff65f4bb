use Rattle.std.proofs.Common.{arith, ℤ, List, Option, of_z, subst, to_z}
use Rattle.std.proofs.lemmas.Int.{ints}
use Rattle.std.specs.Int.{w128}
use Rattle.std.specs.Prelude.{MatchOption}
use Rattle.std.specs.List.{All}
use Rattle.std.specs.Option.{IsNone}
use Rattle.arrow_columns.specs.Columns.{item_cells}
use Rattle.arrow_columns.specs.Statistics.{IsGreatestOf, IsLeastOf}
use Rattle.arrow_columns.proofs.RangeSteps.{extremes_within, found_same}
use Rattle.arrow_columns.proofs.tested_rows.ItemRows.first_outside.Goals as goal

pub returns-then-extremes-greatest : goal.returns-then-extremes-greatest
returns-then-extremes-greatest c =
    let column = c.args.self.now.column in
    let cells : List (Option ℤ) = item_cells c.args.self.now.kind column in
    let said = subst (λ e. MatchOption e (All IsNone cells) (λ e. IsLeastOf cells e.least × IsGreatestOf cells e.greatest)) c.in-Some.is c.statistics-statistics.ensures.extremes in
    extremes_within c.args.least c.args.greatest c.in-Some.extremes.least c.in-Some.extremes.greatest cells column.length (omega (arith, ints)) (omega (arith, ints)) said.0 said.1

pub returns : goal.returns
returns c =
    let column = c.args.self.now.column in
    let cells : List (Option ℤ) = item_cells c.args.self.now.kind column in
    found_same (to_z w128 (of_z w128 c.args.least)) (to_z w128 (of_z w128 c.args.greatest)) c.args.least c.args.greatest cells column.length c.find_outside.result
    (omega (arith, ints)) (omega (arith, ints)) c.find_outside.ensures
