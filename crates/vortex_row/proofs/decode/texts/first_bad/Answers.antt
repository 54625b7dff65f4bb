-- Each byte so far comes next in a text, and the one at the offset does not, or the text is whole.
use Rattle.std.proofs.Common.{inl, length, sym, ◌∙◌, arith}
use Rattle.vortex_row.specs.Keys.{inverted}
use Rattle.vortex_row.proofs.ReaderSteps.{inverted-at}
use Rattle.vortex_row.proofs.TextSteps.{bad-byte, good-byte, ends-early}
use Rattle.vortex_row.proofs.decode.texts.first_bad.Goals as goal
use Rattle.vortex_row.proofs.ByteLaws.{inverted-length}

pub returns-in-None-clause-bad : goal.returns-in-None-clause-bad
returns-in-None-clause-bad c =
    let xs = inverted c.args.invert c.args.bytes.now in
    let long = inverted-length c.args.invert c.args.bytes.now in
    let here = c.loop-place-test.true in
    bad-byte xs c.loop-place.place c.inverted_if.result c.loop-place.next (omega arith) (c.inverted_if.ensures ∙ sym (inverted-at c.args.invert c.loop-place.place c.args.bytes.now here))
    c.loop-place.invariant.0 c.loop-place.invariant.1 c.in-None.ensures

pub loop-place-preserved : goal.loop-place-preserved
loop-place-preserved c =
    let xs = inverted c.args.invert c.args.bytes.now in
    let long = inverted-length c.args.invert c.args.bytes.now in
    let here = c.loop-place-test.true in (
      c.in-Some.ensures.0,
      good-byte xs c.loop-place.place c.inverted_if.result c.loop-place.next c.in-Some.then (omega arith) (c.inverted_if.ensures ∙ sym (inverted-at c.args.invert c.loop-place.place c.args.bytes.now here))
          c.loop-place.invariant.1 c.in-Some.ensures.1,
    )

pub returns-clause-bad : goal.returns-clause-bad
returns-clause-bad c =
    let xs = inverted c.args.invert c.args.bytes.now in
    inl (ends-early xs (length c.args.bytes.now) c.loop-place.place c.loop-place.next (sym (inverted-length c.args.invert c.args.bytes.now)) c.loop-place-test.false c.loop-place.invariant.0 c.loop-place.invariant.1)
