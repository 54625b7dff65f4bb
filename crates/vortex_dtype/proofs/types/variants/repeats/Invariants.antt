use Rattle.std.proofs.Common.{◌≡◌, drop}
use Rattle.vortex_dtype.specs.Refusals.{repeats}
use Rattle.vortex_dtype.proofs.types.variants.repeats.Given as goal

-- the rest of the ids decides
abbrev pub invariant-loop-i : goal.invariant-loop-i
invariant-loop-i l = repeats (drop l.i l.ids) ≡ repeats l.ids
