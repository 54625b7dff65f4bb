-- The number of a kind that differs by a multiple of 2 to the power of its bits.
use Rattle.std.proofs.Common.{◌≡◌, ◌+ℤ◌, ◌*ℤ◌, ◌*◌, ◌-◌, ◌/◌, ◌%◌, ◌^◌, ◌<◌, ◌≤◌, ℕ, ℤ, suc, pos, negsuc, neg_ℤ, sym, ap, subst, inl, inr, arith, ◌∙◌, mod-lt}
use Rattle.std.specs.Int.{Width, w8, w16, w32, w64, int_wrap, int_rem_euclid, cast_signed}
use Rattle.std.proofs.lemmas.Bool.{cases_lt}
use Rattle.std.proofs.lemmas.Bool.Decides.{nat_tests}
use Rattle.std.proofs.Math.Nat.{zero-mul, one-mul, suc-mul, mod-eq_of_lt}
use Rattle.std.proofs.lemmas.Int.{ints, SFits-int_wrap, to_z_pos, of_z-to_z}
use Rattle.std.proofs.lemmas.Nat.{pow_pos}
use Rattle.num_traits.specs.Ints.{unsigned-wrap_fits}
use Rattle.vortex_dtype.specs.declared.ptype.PType.{PType}
use Rattle.vortex_dtype.specs.declared.ptype.PType.TheVariants.{U8, U16, U32, U64, I8, I16, I32, I64}
use Rattle.vortex_pvalue.specs.PTypeLaws.{WrappedExists, WrappedIsUnique, ReinterpretsBack}
use Rattle.vortex_pvalue.specs.Numbers.{IsWrapped, wrapped, least_of, bits_of}
use Rattle.vortex_pvalue.proofs.Multiples.{times-add, times-neg, one_in_window}
use Rattle.vortex_pvalue.proofs.Ranges.{range_is_interval, greatest-below}
use mir.Val.{hbits, bits, to_z, of_z}

-- z differs from r by a multiple of d
abbrev Differs : ℕ → ℤ → ℤ → Type 0
Differs d z r = (q : ℤ) × (z ≡ (r +ℤ (q *ℤ pos d)))

-- what is left in an unsigned kind differs by a multiple
unsigned_differs : (k : ℕ) (z : ℤ) → Differs (2 ^ k) z (int_rem_euclid z (pos (2 ^ k)))
unsigned_differs k (pos n) =
    let some = pow_pos k in
    (pos (n / 2 ^ k), omega (arith, ints))
unsigned_differs k (negsuc n) =
    let some = pow_pos k in
    let more = suc-mul (n / 2 ^ k) (2 ^ k) in
    let rest = mod-lt n some in
    (negsuc (n / 2 ^ k), omega (arith, ints))

-- bits from half the modulus up are read as a negative number
to_z_above : (w : Width) (n : ℕ) → 2 ^ hbits w ≤ n → to_z w n ≡ negsuc (2 ^ bits w - suc n)
to_z_above w n h = grind (arith, nat_tests)

-- a signed kind reads its bits as a number that differs by a multiple
bits_differ : (w : Width) (n : ℕ) → n < 2 ^ bits w → Differs (2 ^ bits w) (pos n) (to_z w n)
bits_differ w n h = elim (cases_lt n (2 ^ hbits w)) [
  | inl below ↦ let none = zero-mul (2 ^ bits w) in let same = to_z_pos w n below in (pos 0, omega (arith, ints))
  | inr above ↦ let one = one-mul (2 ^ bits w) in let same = to_z_above w n above in (pos 1, omega (arith, ints))
]

-- what differs by a multiple from what differs by a multiple
differs_twice : (d : ℕ) (z m r : ℤ) → Differs d z m → Differs d m r → Differs d z r
differs_twice d z m r a b =
    let e = a.1 in
    let f = b.1 in
    (b.0 +ℤ a.0, let t = times-add b.0 a.0 d in omega (arith, ints))

-- the difference, the other way round
differs_back : (d : ℕ) (z m : ℤ) → Differs d z m → Differs d m z
differs_back d z m a =
    let e = a.1 in
    (neg_ℤ a.0, let t = times-neg a.0 d in omega (arith, ints))

-- what is left in a signed kind differs by a multiple
signed_differs : (w : Width) (z : ℤ) → Differs (2 ^ bits w) z (int_wrap w z)
unfolding int_wrap
signed_differs w (pos n) =
    differs_twice (2 ^ bits w) (pos n) (pos (n % 2 ^ bits w)) _
    (unsigned_differs (bits w) (pos n))
    (bits_differ w _ (unsigned-wrap_fits (bits w) (pos n)))
signed_differs w (negsuc n) =
    differs_twice (2 ^ bits w) (negsuc n) (pos (2 ^ bits w - 1 - n % 2 ^ bits w)) _
    (unsigned_differs (bits w) (negsuc n))
    (bits_differ w _ (unsigned-wrap_fits (bits w) (negsuc n)))

-- the bits of an unsigned number, read as a signed one
pub signed_low : (w : Width) (n : ℕ) (r : ℤ) → n < 2 ^ bits w → r ≡ cast_signed w n → to_z w (of_z w r) ≡ int_wrap w (pos n)
unfolding int_wrap
signed_low w n r h e = ap (to_z w) (ap (of_z w) e ∙ of_z-to_z w n h ∙ sym (mod-eq_of_lt h))

-- each number has a wrapped number in each kind, and `wrapped` names it
pub wrapped_exists : WrappedExists
wrapped_exists U8 z = record { in_range = unsigned-wrap_fits 8 z; differs = unsigned_differs 8 z }
wrapped_exists U16 z = record { in_range = unsigned-wrap_fits 16 z; differs = unsigned_differs 16 z }
wrapped_exists U32 z = record { in_range = unsigned-wrap_fits 32 z; differs = unsigned_differs 32 z }
wrapped_exists U64 z = record { in_range = unsigned-wrap_fits 64 z; differs = unsigned_differs 64 z }
wrapped_exists I8 z = record { in_range = SFits-int_wrap w8 z; differs = signed_differs w8 z }
wrapped_exists I16 z = record { in_range = SFits-int_wrap w16 z; differs = signed_differs w16 z }
wrapped_exists I32 z = record { in_range = SFits-int_wrap w32 z; differs = signed_differs w32 z }
wrapped_exists I64 z = record { in_range = SFits-int_wrap w64 z; differs = signed_differs w64 z }

-- two numbers of a kind that differ by a multiple are equal
one_wrapped : (k : PType) (z r s : ℤ) → IsWrapped k z r → IsWrapped k z s → r ≡ s
one_wrapped k z r s a b =
    let i = (range_is_interval k r).0 a.in_range in
    let j = (range_is_interval k s).0 b.in_range in
    let same : r +ℤ (a.differs.0 *ℤ pos (2 ^ bits_of k)) ≡ s +ℤ (b.differs.0 *ℤ pos (2 ^ bits_of k)) = sym a.differs.1 ∙ b.differs.1 in
    one_in_window (least_of k) r s a.differs.0 b.differs.0 (2 ^ bits_of k) i.0 (greatest-below k r i.1) j.0 (greatest-below k s j.1) same

-- a number has only one wrapped number in a kind
pub wrapped_is_unique : WrappedIsUnique
wrapped_is_unique k z r h = one_wrapped k z r (wrapped k z) h (wrapped_exists k z)

-- a number of a kind, reinterpreted in a kind of the same width and back, is itself
pub reinterprets_back : ReinterpretsBack
reinterprets_back k l z w h =
    let there = wrapped_exists l z in
    let bits_same : bits_of l ≡ bits_of k = ap (λ (n : ℕ). 8 * n) (sym w) in
    let back : Differs (2 ^ bits_of l) (wrapped l z) z = differs_back (2 ^ bits_of l) z (wrapped l z) there.differs in
    let back_here : Differs (2 ^ bits_of k) (wrapped l z) z = subst (λ (n : ℕ). Differs (2 ^ n) (wrapped l z) z) bits_same back in
    sym (wrapped_is_unique k (wrapped l z) z (record { in_range = h; differs = back_here }))
