use Rattle.statistics_bytes.proofs.EncodingLaws.{read_back}
use Rattle.statistics_bytes.proofs.laws.encodings_tell_statistics.Goals as goal

pub returns : goal.returns
returns c = read_back c.keys_are_apart.ensures c.values_have_no_typed.ensures
