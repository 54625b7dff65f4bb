use Rattle.std.proofs.Common.{◌≤◌, length, refl, ap, subst, subst₂, sym, true≢false, ◌∙◌}
use Rattle.vortex_bounds.specs.Texts.{IsSuccessorOfLength, IsStuck}
use Rattle.vortex_bounds.proofs.string_like.BufferStringStringLike.increment.Goals as goal
use Rattle.vortex_dtype.specs.declared.buffer.TheConstants.{INLINE_BYTES}

pub returns-in-Ok : goal.returns-in-Ok
returns-in-Ok c = record {
  given = (
    subst₂ IsSuccessorOfLength c.as_str.ensures (sym c.in-Ok.ensures.given) c.in-Some.ensures.1,
    subst (λ p. ¬ (IsStuck p)) c.as_str.ensures c.in-Some.ensures.0,
  );
  inline = λ _. tt;
}

pub returns-in-Err : goal.returns-in-Err
returns-in-Err c = record {
  given = (refl, subst (λ p. ¬ (IsStuck p)) c.as_str.ensures c.in-Some.ensures.0);
  inline = λ h. true≢false (sym (c.in-Err.ensures.inline
      (subst (λ n. n ≤ INLINE_BYTES) (sym (c.in-Some.ensures.1.1 ∙ ap length c.as_str.ensures)) h)));
}
