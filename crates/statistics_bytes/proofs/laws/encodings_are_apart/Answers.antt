use Rattle.statistics_bytes.proofs.EncodingLaws.{encodings-apart}
use Rattle.statistics_bytes.proofs.laws.encodings_are_apart.Goals as goal

pub returns : goal.returns
returns c = encodings-apart c.keys_are_apart.ensures
