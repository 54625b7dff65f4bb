-- What was read so far.
use Rattle.like_patterns.specs.Reading.{Reads}
use Rattle.like_patterns.proofs.reading.read.Given as goal

abbrev pub invariant-loop-character : goal.invariant-loop-character
invariant-loop-character l = Reads l.escape l.yielded l.reader l.pending
