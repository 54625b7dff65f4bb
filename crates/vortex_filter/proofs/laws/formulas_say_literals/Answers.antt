use Rattle.vortex_filter.proofs.LiteralLaws.{formulas_say_literals}
use Rattle.vortex_filter.proofs.laws.formulas_say_literals.Goals as goal

pub returns : goal.returns
returns c = formulas_say_literals c.one_value.ensures
