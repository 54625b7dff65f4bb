use Rattle.std.proofs.lemmas.Str.{IsUtf8-between}
use Rattle.vortex_dtype.proofs.buffer.BufferString.slice.Goals as goal

pub invariant_of-result : goal.invariant_of-result
invariant_of-result c =
    rw (c.in_ok-buffer.ensures.given, c.self.view_is)
    (IsUtf8-between _ _ _ (rw c.self.view_is at c.self.invariant) c.requires.ordered c.requires.starts c.requires.ends)
