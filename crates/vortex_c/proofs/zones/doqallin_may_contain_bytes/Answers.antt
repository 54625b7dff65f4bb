use Rattle.vortex_c.specs.ColumnBounds.{some_where}
use Rattle.vortex_c.proofs.ZoneAnswers.{answers_of_bytes}
use Rattle.vortex_c.proofs.zones.doqallin_may_contain_bytes.Goals as goal

pub returns-clause-zones : goal.returns-clause-zones
returns-clause-zones c =
    answers_of_bytes c.args.lower.now (some_where c.args.has_upper c.args.upper.now) c.args.value.now c.may_contain.result c.may_contain.ensures
