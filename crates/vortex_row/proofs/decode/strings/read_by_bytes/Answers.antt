-- One byte more, and the end.
use Rattle.std.proofs.Common.{◌<◌, ◌∷◌, [], rules, subst, sym}
use Rattle.vortex_row.specs.Held.{AreBytes}
use Rattle.vortex_row.proofs.ByteLaws.{bytes_after, bytes_then, no_bytes}
use Rattle.vortex_row.proofs.StringSteps.{string-ends, string-more}
use Rattle.vortex_row.proofs.decode.strings.read_by_bytes.Goals as goal

pub loop-bytes-preserved : goal.loop-bytes-preserved
loop-bytes-preserved c =
    let read = rw c.in-Some.is at c.in_ok-byte.ensures in
    let byte : c.in-Some.byte < 256 = search rules in (
      subst AreBytes (sym c.in_ok-push-in-Some.ensures.items) (bytes_then c.loop-bytes.bytes.items (c.in-Some.byte ∷ []) c.loop-bytes.invariant.0 (bytes_after c.in-Some.byte [] byte no_bytes)),
      string-more c.loop-bytes.bytes.items _ _ _ _ c.in-Some.byte c.loop-bytes.invariant.1 read c.in_ok-push-in-Some.ensures.items,
    )

pub returns-in-None : goal.returns-in-None
returns-in-None c =
    let end = rw c.in-None.is at c.in_ok-byte.ensures in
    string-ends c.loop-bytes.bytes.items _ _ _ c.loop-bytes.invariant.0 c.loop-bytes.invariant.1 end
