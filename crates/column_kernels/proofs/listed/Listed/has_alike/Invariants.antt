use Rattle.std.proofs.Common.{◌≡◌, take}
use Rattle.std.specs.List.{list_any}
use Rattle.column_kernels.specs.Needles.{is_alike}
use Rattle.column_kernels.proofs.listed.Listed.has_alike.Given as goal

abbrev pub invariant-loop-needle : goal.invariant-loop-needle
invariant-loop-needle l = l.has_alike ≡ list_any (λ needle. is_alike l.word l.size needle.word needle.bytes.now) (take l.needle-index l.self.needles)
