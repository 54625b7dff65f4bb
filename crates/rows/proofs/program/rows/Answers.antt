-- A piece more is answered, or all is.
use Rattle.std.proofs.Common.{take, arith, rules}
use Rattle.std.proofs.lemmas.Grind.{common_steps}
use Rattle.std.specs.Io.KnownBytes.{Consumes, IsAtEnd}
use Rattle.rows.proofs.Streaming.{answered_all, answered_more, answered_none}
use Rattle.rows.proofs.program.rows.Goals as goal

pub loop-turn-init : goal.loop-turn-init
loop-turn-init g c = answered_none _ _ _ c.new-output.ensures.items c.new-pending.ensures.items

pub returns-then-count-eq0-clause-rows : goal.returns-then-count-eq0-clause-rows
returns-then-count-eq0-clause-rows g c =
    let took : Consumes (g.R.Read.remaining c.loop-turn.reader) (g.R.Read.remaining c.read.new.self) (take c.in_ok-count.count c.read.new.buf) = first_of (grind (arith, common_steps), search rules) in
    let end : IsAtEnd (g.R.Read.remaining c.read.new.self) = first_of (grind (arith, common_steps), search rules) in
    answered_all _ _ _ _ _ _ _ _ _ c.loop-turn.invariant took c.if-count-eq0.true end c.deref.ensures.value c.in_ok-push_rows.ensures

pub loop-turn-preserved : goal.loop-turn-preserved
loop-turn-preserved g c =
    let took : Consumes (g.R.Read.remaining c.loop-turn.reader) (g.R.Read.remaining c.read.new.self) (take c.in_ok-count.count c.read.new.buf) = first_of (grind (arith, common_steps), search rules) in
    answered_more _ _ _ _ _ _ _ _ c.loop-turn.invariant took c.in_ok-push_piece.ensures
