use Rattle.filter_sql.proofs.NestLaws.{texts_low}
use Rattle.filter_sql.proofs.laws.texts_nest_so.Goals as goal

pub returns : goal.returns
returns c = texts_low
