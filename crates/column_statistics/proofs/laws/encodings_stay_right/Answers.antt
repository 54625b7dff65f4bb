use Rattle.column_statistics.proofs.RightLaws.{stay_right}
use Rattle.column_statistics.proofs.laws.encodings_stay_right.Goals as goal

pub returns : goal.returns
returns c = stay_right c.encodings_tell_statistics.ensures
