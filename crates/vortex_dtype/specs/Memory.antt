-- Calls that fail only if memory runs out.
use Rattle.std.specs.Prelude.{◌≡◌, MatchResult, Result}
use Rattle.vortex_dtype.specs.declared.error.VortexError.{VortexError}
use Rattle.vortex_dtype.specs.declared.error.VortexError.TheVariants.{OutOfMemory}

-- the call gives a value with this property, or `OutOfMemory`
abbrev pub GivesOrNoMemory : {T : Type 0} → (T → Type 0) → Result T VortexError → Type 0
GivesOrNoMemory IsGiven result = MatchResult result IsGiven (λ e. e ≡ OutOfMemory)
