-- A part more went out, or none.
use Rattle.std.proofs.Common.{◌≡◌, ◌-◌, ℕ, List, arith, drop, length, subst, sym, take, take_all}
use Rattle.std.proofs.lemmas.List.{length-drop}
use Rattle.zone_index.proofs.Out.{IsOut, out_kept, out_more}
use Rattle.zone_index.proofs.sinks.write_out.Goals as goal
use Rattle.zone_index.proofs.sinks.write_out.Goals.{in-Ok, in-Err+else-ne}

-- what is behind so many bytes, as a range
behind : (rest : List ℕ) (n : ℕ) → take (length rest - n) (drop n rest) ≡ drop n rest
behind rest n = take_all (length rest - n) (drop n rest) (omega (arith, length-drop n rest))

pub loop-preserved : goal.loop-preserved
loop-preserved g c =
    let old = g.W.Write.contents c.args.writer.now in
    let new = g.W.Write.contents c.write.new.self in
    let rest = c.loop.rest.now in
    elim c.match-write.branch [
      | in-Ok w ↦ rw w.rest-is (subst (IsOut old new c.args.output.now) (sym (behind rest w.in-Ok.count)) (out_more old (g.W.Write.contents c.loop.writer) new c.args.output.now rest w.in-Ok.count c.loop.invariant w.in-Ok.ensures.bytes))
      | in-Err+else-ne w ↦ rw w.rest-is (out_kept old (g.W.Write.contents c.loop.writer) new c.args.output.now rest c.loop.invariant w.in-Err.ensures.bytes)
    ]
