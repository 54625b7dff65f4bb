-- What a conversion of bytes to a string gives.
use Rattle.std.specs.Prelude.{◌≡◌, ℕ, List, IsUtf8, Result, MatchResult}
use Rattle.vortex_dtype.specs.declared.error.VortexError.{VortexError}
use Rattle.vortex_dtype.specs.declared.error.VortexError.TheVariants.{NotUtf8}

-- the string of these bytes if they are UTF-8, and otherwise `NotUtf8`
abbrev pub IsTextOf : List ℕ → Result (List ℕ) VortexError → Type 0
IsTextOf bytes result =
    MatchResult result (λ text. (text ≡ bytes) × IsUtf8 bytes) (λ e. (e ≡ NotUtf8) × ¬ (IsUtf8 bytes))
