-- A zone more.
use Rattle.std.proofs.Common.{◌+◌, arith, ap, length}
use Rattle.std.proofs.lemmas.List.{length-drop, take_rest}
use Rattle.vortex_c.proofs.CutSteps.{zone_more}
use Rattle.vortex_c.proofs.index_cuts.full_length.Goals as goal

pub loop-length-preserved : goal.loop-length-preserved
loop-length-preserved c =
    let text = c.args.text.now in
    let end = c.loop-length.end in
    let before = c.loop-length.invariant.1 in (
      omega (arith, c.in-Some.ensures.within.1, c.loop-length.invariant.0, ap length (take_rest text end), length-drop end text),
      (before.0 + 1, zone_more c.args.delimiter.byte c.args.size before.0 text _ end c.in-Some.length (take_rest text end) before.1 c.in-Some.ensures.whole),
    )
