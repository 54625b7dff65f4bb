use Rattle.filter_sql.proofs.TextProofs.{none_refused, one_filter}
use Rattle.filter_sql.proofs.laws.texts_say_one_filter.Goals as goal

pub returns : goal.returns
returns c = record { one = one_filter; none = none_refused }
