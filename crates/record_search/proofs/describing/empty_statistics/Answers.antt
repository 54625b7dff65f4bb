-- The statistics of one column more.
use Rattle.std.proofs.Common.{◌∙◌, ◌+◌, ℕ, [], ◌∷◌, ap, length, length-append, subst, sym}
use Rattle.record_search.specs.Searched.{AreAllComplete}
use Rattle.record_search.proofs.ObserveLaws.{none_more}
use Rattle.record_search.proofs.describing.empty_statistics.Goals as goal

pub loop-preserved : goal.loop-preserved
loop-preserved c =
    let all = c.loop.all.items in
    let pushed = c.in_ok-push.ensures.items in (
      ap length pushed ∙ length-append all (_ ∷ []) ∙ ap (λ (n : ℕ). n + 1) c.loop.invariant.0,
      subst (AreAllComplete 0 []) (sym pushed) (none_more all c.empty.result c.loop.invariant.1 c.empty.ensures.complete),
    )
