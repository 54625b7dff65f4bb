-- The test of a PType's range is true exactly in the range. The crates above cite these lemmas.
use Rattle.std.proofs.Common.{◌≡◌, ◌↔◌, ◌^◌, ℕ, ℤ, true, false, pos, negsuc, FitsSigned}
use Rattle.std.specs.Int.{Width, w8, w16, w32, w64, FitsUnsignedBits}
use Rattle.std.proofs.lemmas.Bool.{false_from_ne_true}
use Rattle.std.proofs.lemmas.Bool.Decides.{Decides-ltb}
use Rattle.vortex_dtype.specs.declared.ptype.PType.{PType}
use Rattle.vortex_dtype.specs.declared.ptype.PType.TheVariants.{U8, U16, U32, U64, I8, I16, I32, I64}
use Rattle.vortex_pvalue.specs.PTypeLaws.{TestIsRange}
use Rattle.vortex_pvalue.specs.Numbers.{InRange, in_range, in_unsigned, in_signed}
use mir.Val.{hbits}

-- the test of an unsigned PType of so many bits
unsigned_test : (bits : ℕ) (z : ℤ) → (in_unsigned bits z ≡ true) ↔ FitsUnsignedBits bits z
unsigned_test bits (pos n) = Decides-ltb n (2 ^ bits)
unsigned_test bits (negsuc n) = ((λ e. cc), (λ h. absurd h))

-- the test of a signed PType of this width
signed_test : (w : Width) (z : ℤ) → (in_signed (hbits w) z ≡ true) ↔ FitsSigned w z
signed_test w (pos n) =
    let d = Decides-ltb n (2 ^ hbits w) in
    ((λ e. record { sfits = d.0 e }), (λ f. d.1 f.sfits))
signed_test w (negsuc n) =
    let d = Decides-ltb n (2 ^ hbits w) in
    ((λ e. record { sfits = d.0 e }), (λ f. d.1 f.sfits))

-- the test is true exactly for the numbers of the PType
pub in_range_exactly : TestIsRange
in_range_exactly U8 z = unsigned_test 8 z
in_range_exactly U16 z = unsigned_test 16 z
in_range_exactly U32 z = unsigned_test 32 z
in_range_exactly U64 z = unsigned_test 64 z
in_range_exactly I8 z = signed_test w8 z
in_range_exactly I16 z = signed_test w16 z
in_range_exactly I32 z = signed_test w32 z
in_range_exactly I64 z = signed_test w64 z

pub in_range_true : (k : PType) (z : ℤ) → InRange k z → in_range k z ≡ true
in_range_true k z = (in_range_exactly k z).1

pub in_range_back : (k : PType) (z : ℤ) → in_range k z ≡ true → InRange k z
in_range_back k z = (in_range_exactly k z).0

-- a number that the PType does not have fails the test
pub in_range_false : (k : PType) (z : ℤ) → ¬ (InRange k z) → in_range k z ≡ false
in_range_false k z out = false_from_ne_true (in_range k z) (λ passed. out (in_range_back k z passed))
