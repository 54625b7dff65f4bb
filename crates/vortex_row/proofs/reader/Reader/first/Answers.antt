-- What is left begins with the first of the bytes.
use Rattle.vortex_row.proofs.ReaderSteps.{left-first}
use Rattle.vortex_row.proofs.reader.Reader.first.Goals as goal

pub returns-in-len1-up : goal.returns-in-len1-up
returns-in-len1-up c = left-first c.args.self.now.invert c.args.self.now.rest.now c.inverted_if.result c.in-len1-up.len_at_least c.inverted_if.ensures
