-- The laws of the numbers of each PType, and of equality, order and hash of integer values.
use Rattle.std.specs.Prelude.{◌≡◌, ◌↔◌, ◌≤ℤ◌, ℤ, Bool, true, Option, Some, IsTrue}
use Rattle.std.specs.declared.cmp.Ordering.{Ordering}
use Rattle.std.specs.declared.cmp.Ordering.TheVariants.{Equal}
use Rattle.vortex_dtype.specs.PTypes.{byte_width_of}
use Rattle.vortex_dtype.specs.declared.ptype.PType.{PType}
use Rattle.vortex_dtype.specs.declared.ptype.PType.TheVariants.{U8, U16, U32, U64, I8, I16, I32, I64}
use Rattle.vortex_pvalue.specs.Numbers.{InRange, in_range, IsWrapped, wrapped, least_of, greatest_of}
use Rattle.vortex_pvalue.specs.Whole.{whole_of}
use Rattle.vortex_pvalue.specs.declared.pvalues.PValue.{PValue}

-- the PType of the same width and the other sign
abbrev pub other_sign : PType → PType
other_sign U8 = I8
other_sign U16 = I16
other_sign U32 = I32
other_sign U64 = I64
other_sign I8 = U8
other_sign I16 = U16
other_sign I32 = U32
other_sign I64 = U64

-- the test of a range is true exactly if the PType has the number
abbrev pub TestIsRange : Type 0
TestIsRange = (k : PType) (z : ℤ) → (in_range k z ≡ true) ↔ InRange k z

-- an integer type has exactly the numbers from its least to its greatest
abbrev pub RangeIsInterval : Type 0
RangeIsInterval = (k : PType) (z : ℤ) → InRange k z ↔ ((least_of k ≤ℤ z) × (z ≤ℤ greatest_of k))

-- each number has a wrapped number in each PType, and `wrapped` computes one
abbrev pub WrappedExists : Type 0
WrappedExists = (k : PType) (z : ℤ) → IsWrapped k z (wrapped k z)

-- each wrapped number is the one that `wrapped` computes
abbrev pub WrappedIsUnique : Type 0
WrappedIsUnique = (k : PType) (z r : ℤ) → IsWrapped k z r → r ≡ wrapped k z

-- a number that is reinterpreted in a PType of the same width, and then back, is itself again
abbrev pub ReinterpretsBack : Type 0
ReinterpretsBack = (k l : PType) (z : ℤ) → byte_width_of k ≡ byte_width_of l → InRange k z → wrapped k (wrapped l z) ≡ z

-- values are equal exactly if their numbers are, whatever their PTypes
abbrev pub EqualsByNumber : (PValue → PValue → Bool) → Type 0
EqualsByNumber eq = (v w : PValue) → IsTrue (eq v w) ↔ (whole_of v ≡ whole_of w)

-- an order says `Equal` exactly if the values are equal
abbrev pub AgreesWithOrder : (PValue → PValue → Bool) → (PValue → PValue → Option Ordering) → Type 0
AgreesWithOrder eq cmp = (v w : PValue) → (cmp v w ≡ Some Equal) ↔ IsTrue (eq v w)

-- equal values feed a hasher alike
abbrev pub AgreesWithHash : {F : Type 0} → (PValue → PValue → Bool) → (PValue → F) → Type 0
AgreesWithHash eq fed = (v w : PValue) → IsTrue (eq v w) → fed v ≡ fed w
