-- What went out so far, and what is left.
use Rattle.zone_index.proofs.Out.{IsOut}
use Rattle.zone_index.proofs.sinks.write_out.Given as goal

abbrev pub invariant-loop : goal.invariant-loop
invariant-loop g l = IsOut (g.W.Write.contents l.initial.writer) (g.W.Write.contents l.writer) l.output l.rest
