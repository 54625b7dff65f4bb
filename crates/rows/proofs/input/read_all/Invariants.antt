-- What was read so far is what the reader gave.
use Rattle.std.specs.Io.KnownBytes.{Consumes}
use Rattle.rows.proofs.input.read_all.Given as goal

abbrev pub invariant-loop-turn : goal.invariant-loop-turn
invariant-loop-turn g l = Consumes (g.R.Read.remaining l.initial.reader) (g.R.Read.remaining l.reader) l.input.items
