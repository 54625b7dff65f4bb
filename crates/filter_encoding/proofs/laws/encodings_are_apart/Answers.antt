use Rattle.filter_encoding.proofs.EncodingLaws.{encodings_apart}
use Rattle.filter_encoding.proofs.laws.encodings_are_apart.Goals as goal

pub returns : goal.returns
returns c = encodings_apart
