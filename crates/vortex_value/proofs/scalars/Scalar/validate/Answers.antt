-- A check that keeps the path passes exactly the valid values, and leaves the first breach of the others.
use Rattle.std.proofs.Common.{Some, ◌∙◌, refl, sym, true≢false}
use Rattle.vortex_dtype.specs.TypeOf.{type_of}
use Rattle.vortex_value.specs.Breaches.{breaches}
use Rattle.vortex_value.specs.Values.RawOf.{lent_raw}
use Rattle.vortex_value.proofs.ValidSteps.{refused, Checks-path}
use Rattle.vortex_value.proofs.ValidityLaws.{Checks-valid}
use Rattle.vortex_value.proofs.scalars.Scalar.validate.Goals as goal

pub refusal-requires : goal.refusal-requires
refusal-requires c =
    let fs = breaches (type_of c.args.dtype.now) (lent_raw c.args.value) in
    Checks-path c.args.alloc c.check.new.trace fs (refused (Some c.args.alloc) _ _ c.check.new.trace fs c.new-trace.ensures c.check.ensures c.if-check.false)

pub returns-then-check-clause-ok : goal.returns-then-check-clause-ok
returns-then-check-clause-ok c =
    let valid = Checks-valid _ c.check.result c.check.new.trace (type_of c.args.dtype.now) (lent_raw c.args.value) c.check.ensures in
    (λ _. valid.0 c.if-check.true, λ _. refl)

pub returns-else-check-clause-ok : goal.returns-else-check-clause-ok
returns-else-check-clause-ok c =
    let valid = Checks-valid _ c.check.result c.check.new.trace (type_of c.args.dtype.now) (lent_raw c.args.value) c.check.ensures in
    (λ ok. absurd (true≢false (sym ok)), λ h. absurd (true≢false (sym (valid.1 h) ∙ c.if-check.false)))

pub returns-else-check-clause-refused : goal.returns-else-check-clause-refused
returns-else-check-clause-refused c =
    let fs = breaches (type_of c.args.dtype.now) (lent_raw c.args.value) in
    c.refusal.ensures fs (refused (Some c.args.alloc) _ _ c.check.new.trace fs c.new-trace.ensures c.check.ensures c.if-check.false)
