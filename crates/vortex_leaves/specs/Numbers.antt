-- Integer types and raw values, and what cannot be viewed as an integer.
use Rattle.std.specs.Prelude.{◌≡◌, ℤ, Option, Some, None}
use Rattle.vortex_dtype.specs.TypeTree.{TypeTree, integer_type}
use Rattle.vortex_dtype.specs.declared.error.VortexError.{VortexError}
use Rattle.vortex_dtype.specs.declared.error.VortexError.TheVariants.{OutOfRange, WrongKind}
use Rattle.vortex_pvalue.specs.Numbers.{InRange}
use Rattle.vortex_pvalue.specs.Whole.{ptype_of, whole_of}
use Rattle.vortex_pvalue.specs.declared.pvalues.PValue.{PValue}
use Rattle.vortex_value.specs.Breaches.{Refuses, breaches}
use Rattle.vortex_value.specs.Values.RawTree.{RawTree, absent, raw_integer}

-- the number of a raw integer
abbrev pub number_in : RawTree → Option ℤ
number_in (raw_integer k z) = Some z
number_in _ = None

-- an optional integer as a raw value
abbrev pub raw_number : Option PValue → RawTree
raw_number None = absent
raw_number (Some p) = raw_integer (ptype_of p) (whole_of p)

-- the raw value, but an integer at an integer type as one of the type's PType
abbrev pub in_ptype_of : TypeTree → RawTree → RawTree
in_ptype_of (integer_type k n) (raw_integer l z) = raw_integer k z
in_ptype_of t v = v

-- an integer type, and null or an integer whose number is in the range of the type's PType
abbrev pub HoldsNumber : TypeTree → RawTree → Type 0
HoldsNumber (integer_type k n) absent = Unit {0}
HoldsNumber (integer_type k n) (raw_integer l z) = InRange k z
HoldsNumber _ _ = ⊥

-- why a type and a raw value are not viewed as an integer. The type is of another kind, or the number is out of range for
-- the type's PType, or it is the first breach.
abbrev pub RefusesNumber : TypeTree → RawTree → VortexError → Type 0
RefusesNumber (integer_type k n) (raw_integer l z) e = e ≡ OutOfRange
RefusesNumber (integer_type k n) v e = Refuses e (breaches (integer_type k n) v)
RefusesNumber t v e = e ≡ WrongKind
