-- The rows so far, and those of what is pending and of what is left, are those of all.
use Rattle.rows.proofs.Streaming.{IsAnswered}
use Rattle.rows.proofs.program.rows.Given as goal

abbrev pub invariant-loop-turn : goal.invariant-loop-turn
invariant-loop-turn g l = IsAnswered (g.R.Read.remaining l.initial.reader) (g.R.Read.remaining l.reader) l.output.items l.pending.items
