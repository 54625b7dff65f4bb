use Rattle.std.proofs.Common.{inl, sym, ◌∙◌}
use Rattle.vortex_dtype.specs.TypeOf.{type_of}
use Rattle.vortex_filter.proofs.CheckLaws.{strings_test}
use Rattle.vortex_filter.proofs.CoerceSteps.{prefix_never, prefix_stands, prefix_stops}
use Rattle.vortex_filter.proofs.coerce.prefix_in.Goals as goal

pub returns-in-Some-clause-made : goal.returns-in-Some-clause-made
returns-in-Some-clause-made c =
    prefix_stands (type_of c.args.dtype.now) c.args.column c.args.prefix.now c.in-Ok.position c.in-Some.filter (sym c.holds_strings.ensures ∙ c.if-holds_strings.true) c.in-Ok.ensures.made c.in-Some.ensures.made c.in-Some.ensures.literals

pub returns-in-None-clause-made : goal.returns-in-None-clause-made
returns-in-None-clause-made c = absurd (prefix_never (type_of c.args.dtype.now) c.args.column c.args.prefix.now c.in-Ok.position (sym c.holds_strings.ensures ∙ c.if-holds_strings.true) c.in-Ok.ensures.made c.in-None.ensures.made)

pub returns-in-Err-clause-made : goal.returns-in-Err-clause-made
returns-in-Err-clause-made c = prefix_stops (type_of c.args.dtype.now) c.args.column c.args.prefix.now c.in-Err.cause c.in-Err.ensures.made

pub returns-in-Err-clause-asked : goal.returns-in-Err-clause-asked
returns-in-Err-clause-asked c = λ is. ((strings_test (type_of c.args.dtype.now)).0 (sym c.holds_strings.ensures ∙ c.if-holds_strings.true), inl (c.in-Err.ensures.asked is))
