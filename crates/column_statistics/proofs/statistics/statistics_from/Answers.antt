use Rattle.std.proofs.Common.{◌≡◌, MatchOption, subst}
use Rattle.std.specs.List.{All}
use Rattle.vortex_value.specs.Values.Content.{null}
use Rattle.column_statistics.specs.Extremes.{AreExtremesOf}
use Rattle.column_statistics.proofs.CompleteLaws.{whole_given, whole_none}
use Rattle.column_statistics.proofs.statistics.statistics_from.Goals as goal

pub returns-in-Some : goal.returns-in-Some
returns-in-Some c = λ t contents r h.
    let e = subst (λ o. MatchOption o (All (λ x. x ≡ null) contents) (AreExtremesOf t contents)) c.in-Some.is h.extremes in
    whole_given t contents c.args.row_count c.args.summary.null_count c.in-Some.extremes c.exact_bound.result c.exact_bound-in-Some.result c.exact_bound.ensures c.exact_bound-in-Some.ensures r h.nulls e

pub returns-in-None : goal.returns-in-None
returns-in-None c = λ t contents r h.
    let e = subst (λ o. MatchOption o (All (λ x. x ≡ null) contents) (AreExtremesOf t contents)) c.in-None.is h.extremes in
    whole_none t contents c.args.row_count c.args.summary.null_count r h.nulls e
