use Rattle.record_search.proofs.FullLaws.{described_read}
use Rattle.record_search.proofs.laws.described_is_read.Goals as goal

pub returns : goal.returns
returns c = described_read
