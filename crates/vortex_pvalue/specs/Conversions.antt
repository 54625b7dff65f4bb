-- What conversions between integer values and Rust integers give.
use Rattle.std.specs.Prelude.{◌≡◌, ℤ, MatchResult}
use Rattle.std.specs.declared.result.Result.{Result}
use Rattle.vortex_dtype.specs.declared.error.VortexError.{VortexError}
use Rattle.vortex_dtype.specs.declared.error.VortexError.TheVariants.{OutOfRange}
use Rattle.vortex_dtype.specs.declared.ptype.PType.{PType}
use Rattle.vortex_pvalue.specs.Numbers.{InRange}
use Rattle.vortex_pvalue.specs.Whole.{whole_of, ptype_of}
use Rattle.vortex_pvalue.specs.declared.pvalues.PValue.{PValue}

-- the value has this PType and this number, which lies in the range of the PType
abbrev pub IsNumber : PType → ℤ → PValue → Type 0
IsNumber k z v = (ptype_of v ≡ k) × (whole_of v ≡ z) × InRange k z

-- the number of the value, or `OutOfRange` exactly if the PType does not have it
abbrev pub Converts : {T : Type 0} → (T → ℤ) → PType → PValue → Result T VortexError → Type 0
Converts number k v r = MatchResult r (λ n. number n ≡ whole_of v) (λ e. (e ≡ OutOfRange) × ¬ (InRange k (whole_of v)))
