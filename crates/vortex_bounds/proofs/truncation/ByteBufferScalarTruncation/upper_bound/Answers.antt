use Rattle.std.proofs.Common.{◌≤◌, length, length-take-le, subst, sym, ◌∙◌}
use Rattle.vortex_bounds.specs.Strings.{IsString}
use Rattle.vortex_bounds.proofs.ScalarBounds.{next_is_upper}
use Rattle.vortex_bounds.proofs.truncation.ByteBufferScalarTruncation.upper_bound.Goals as goal
use Rattle.vortex_dtype.specs.declared.buffer.TheConstants.{INLINE_BYTES}

pub returns : goal.returns
returns c =
    let s = subst IsString (c.as_slice.ensures ∙ sym c.as_slice-2.ensures) c.items_are_bytes.ensures in
    record {
      given = next_is_upper _ _ _ _ c.as_slice-2.ensures s c.requires c.next_bytes.ensures.given;
      inline = λ m.
          let l = length-take-le c.args.max_length c.as_slice-2.result.now
          (subst (λ b. c.args.max_length ≤ length b) (sym c.as_slice-2.ensures) c.requires) in
          c.next_bytes.ensures.inline (subst (λ k. k ≤ INLINE_BYTES) (sym l) m);
    }
