-- What the first bytes say.
use Rattle.std.proofs.Common.{arith, sym, ◌∙◌}
use Rattle.zone_scans.proofs.RootSteps.{other_magic, other_version, root_long}
use Rattle.zone_scans.proofs.roots.root_length.Goals as goal

pub returns-then-u32_at-ne-MAGIC-clause-other : goal.returns-then-u32_at-ne-MAGIC-clause-other
returns-then-u32_at-ne-MAGIC-clause-other c = λ _ more.
    other_magic c.args.head.now more (omega (arith, c.if-head-lt-HEAD_LENGTH.false)) (λ same. c.if-u32_at-ne-MAGIC.true (c.u32_at.ensures ∙ same))

pub returns-then-u32_at-ne-VERSION-clause-other : goal.returns-then-u32_at-ne-VERSION-clause-other
returns-then-u32_at-ne-VERSION-clause-other c = λ _ more.
    other_version c.args.head.now more (omega (arith, c.if-head-lt-HEAD_LENGTH.false)) (sym c.u32_at.ensures ∙ c.if-u32_at-ne-MAGIC.false) (λ same. c.if-u32_at-ne-VERSION.true (c.u32_at-2.ensures ∙ same))

pub returns-clause-long : goal.returns-clause-long
returns-clause-long c = λ r more rest few same.
    c.saturating_add.ensures ∙ root_long c.args.head.now more rest r c.u64_at.result (omega (arith, c.if-head-lt-HEAD_LENGTH.false)) few same c.u64_at.ensures
