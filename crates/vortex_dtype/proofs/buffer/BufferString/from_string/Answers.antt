use Rattle.std.proofs.Common.{IsUtf8, ap, subst, sym, ◌∙◌}
use Rattle.std.proofs.lemmas.Str.{IsUtf8-string_bytes}
use Rattle.vortex_dtype.proofs.buffer.BufferString.from_string.Goals as goal

pub invariant_of-result : goal.invariant_of-result
invariant_of-result c = subst IsUtf8
    (sym (c.in_ok-buffer.ensures.given ∙ ap (λ v. v.items) c.into_bytes.ensures.value))
    (IsUtf8-string_bytes c.args.text)
