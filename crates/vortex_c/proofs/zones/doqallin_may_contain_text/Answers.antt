use Rattle.vortex_c.specs.ColumnBounds.{some_where}
use Rattle.vortex_c.proofs.ZoneAnswers.{answers_of_texts}
use Rattle.vortex_c.proofs.zones.doqallin_may_contain_text.Goals as goal

pub returns-clause-zones : goal.returns-clause-zones
returns-clause-zones c =
    λ _. answers_of_texts c.args.lower.now (some_where c.args.has_upper c.args.upper.now) c.args.value.now c.may_contain.result c.may_contain.ensures
