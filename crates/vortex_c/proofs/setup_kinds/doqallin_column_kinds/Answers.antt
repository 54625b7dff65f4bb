-- The codes are given.
use Rattle.std.proofs.Common.{◌∙◌, ap, subst, sym, take}
use Rattle.vortex_c.specs.SearchColumns.{AreKindsOf}
use Rattle.vortex_c.proofs.setup_kinds.doqallin_column_kinds.Goals as goal

pub returns-in-Ok-clause-given : goal.returns-in-Ok-clause-given
returns-in-Ok-clause-given c = λ g.
    let all = ap (λ n. take n c.give.new.buffer) c.give.ensures.count ∙ c.give.ensures.given g ∙ c.as_slice.ensures.value in
    subst (AreKindsOf c.args.setup.now) (sym all) c.in-Ok.ensures.kinds
