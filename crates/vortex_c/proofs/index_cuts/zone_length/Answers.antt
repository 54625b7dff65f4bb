-- A record more, and none that is whole.
use Rattle.std.proofs.Common.{arith, ap, drop, length, subst, sym, take}
use Rattle.std.proofs.lemmas.List.{length-drop, take-append-drop, take_rest}
use Rattle.zone_index.proofs.TakeMore.{whole_more}
use Rattle.vortex_c.specs.IndexCuts.{HasNoWhole}
use Rattle.vortex_c.proofs.index_cuts.zone_length.Goals as goal

pub loop-count-preserved : goal.loop-count-preserved
loop-count-preserved c =
    let text = c.args.text.now in
    let end = c.loop-count.end in (
      omega (arith, c.in-Some.ensures.within.1, c.loop-count.invariant.0, ap length (take_rest text end), length-drop end text),
      omega (arith, c.loop-count-test.true),
      whole_more c.args.delimiter.byte text _ end c.in-Some.length c.loop-count.count (take_rest text end) c.loop-count.invariant.2 c.in-Some.ensures.ends c.in-Some.ensures.cut,
    )

pub returns-in-None-clause-none : goal.returns-in-None-clause-none
returns-in-None-clause-none c =
    let text = c.args.text.now in
    let end = c.loop-count.end in
    record {
      count = c.loop-count.count;
      front = take end text;
      rest = drop end text;
      few = c.loop-count-test.true;
      parts = sym (take-append-drop end text);
      whole = c.loop-count.invariant.2;
      none = subst (HasNoWhole c.args.delimiter.byte) (take_rest text end) c.in-None.ensures.none;
    }
