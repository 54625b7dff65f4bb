use Rattle.std.proofs.Common.{sym, ◌∙◌}
use Rattle.vortex_dtype.specs.TypeOf.{type_of}
use Rattle.vortex_filter.proofs.CoerceMemorySteps.{listed_asks, some_listed}
use Rattle.vortex_filter.proofs.CoerceSteps.{none_asked, some_asked}
use Rattle.vortex_filter.proofs.coerce.membership_in.Goals as goal

pub returns-then-is_empty-clause-made : goal.returns-then-is_empty-clause-made
returns-then-is_empty-clause-made c = none_asked (type_of c.args.dtype.now) c.args.column c.args.literals.now c.new.result (sym c.is_empty.ensures ∙ c.if-is_empty.true) c.new.ensures.items

pub returns-in-Ok-clause-made : goal.returns-in-Ok-clause-made
returns-in-Ok-clause-made c =
    some_asked (type_of c.args.dtype.now) c.args.column c.args.literals.now c.in-Ok.kept.items c.member_of.result (sym c.is_empty.ensures ∙ c.if-is_empty.false) c.in-Ok.ensures
    (c.member_of.ensures.made, c.member_of.ensures.literals, c.member_of.ensures.refused)

pub returns-in-Ok-clause-asked : goal.returns-in-Ok-clause-asked
returns-in-Ok-clause-asked c = listed_asks c.args.literals.now c.member_of.result (sym c.is_empty.ensures ∙ c.if-is_empty.false)

pub returns-in-Err-clause-asked : goal.returns-in-Err-clause-asked
returns-in-Err-clause-asked c = λ is. some_listed c.args.literals.now (sym c.is_empty.ensures ∙ c.if-is_empty.false)
