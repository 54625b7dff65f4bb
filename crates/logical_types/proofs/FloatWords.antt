-- Words of floats are read as those floats.
use Rattle.std.proofs.Common.{◌≡◌, ◌∙◌, ◌==◌, ◌+◌, ◌*◌, ◌%◌, ◌<◌, ℕ, ℤ, pos, negsuc, neg_ℤ, Bool, true, false, not, T, List, ◌∷◌, [], Some, refl, sym, ap, subst, arith, codes, unsigned_abs}
use Rattle.jiff_core.proofs.SignedLemmas.{signed_arith}
use Rattle.std.specs.Float.{float_is_finite}
use Rattle.ryu.specs.Plain.{IsLaidOutNumber, word_of}
use Rattle.ryu.proofs.Signs.{parts}
use lib.Ieee.{hid, is_nan, nan, of_bits, of_fields, ones, top}
use lib.Ieee.Bits.{nan_bits_above, nan_bits_is}
use borrow.Author.Tests.{le-ltb}
use Rattle.std.specs.Float.{Float, Format, binary32, binary64}
use Rattle.std.specs.Float.Parse.{parse_float}
use Rattle.std.specs.Option.{option_and_then}
use Rattle.fast_float.proofs.OnLiterals.{fast_float_on_literals}
use lib.Ieee.{nan_bits, to_bits}
use Rattle.float_storage.specs.Storage.{IsStorage, bits_of_storage, float_of_storage, infinity, storage_of}
use Rattle.float_storage.proofs.Order.{back_and_forth, bits_small}
use Rattle.logical_types.specs.Floats.{bounded, storage_written}
use Rattle.logical_types.specs.Printed.{IsFloatText}

pub inf_64 : storage_written binary64 (105 ∷ 110 ∷ 102 ∷ []) ≡ Some (pos 9_218_868_437_227_405_312)
unfolding fast_float_on_literals nan_bits to_bits
inf_64 = refl

pub minus_inf_64 : storage_written binary64 (45 ∷ 105 ∷ 110 ∷ 102 ∷ []) ≡ Some (negsuc 9_218_868_437_227_405_311)
unfolding fast_float_on_literals nan_bits to_bits
minus_inf_64 = refl

pub inf_32 : storage_written binary32 (105 ∷ 110 ∷ 102 ∷ []) ≡ Some (pos 2_139_095_040)
unfolding fast_float_on_literals nan_bits to_bits
inf_32 = refl

pub minus_inf_32 : storage_written binary32 (45 ∷ 105 ∷ 110 ∷ 102 ∷ []) ≡ Some (negsuc 2_139_095_039)
unfolding fast_float_on_literals nan_bits to_bits
minus_inf_32 = refl

pub zero_64 : storage_written binary64 (48 ∷ 46 ∷ 48 ∷ []) ≡ Some (pos 0)
unfolding fast_float_on_literals nan_bits to_bits
zero_64 = refl

pub zero_32 : storage_written binary32 (48 ∷ 46 ∷ 48 ∷ []) ≡ Some (pos 0)
unfolding fast_float_on_literals nan_bits to_bits
zero_32 = refl

stays : (f : Format) (word : List ℕ) (z : ℤ) → (unsigned_abs z == infinity f) ≡ false → bounded f word z ≡ Some z
stays f word z h = rw h

-- the word of a float whose storage is no infinity's
pub finite_reads : (f : Format) (word : List ℕ) (z : ℤ) → IsStorage f z → (unsigned_abs z == infinity f) ≡ false → parse_float f word ≡ Some (float_of_storage f z) → storage_written f word ≡ Some z
finite_reads f word z is h e =
    ap (option_and_then (λ (x : Float). bounded f word (storage_of f x))) e
    ∙ ap (bounded f word) (back_and_forth f z is)
    ∙ stays f word z h

-- ---- which words they are
infinity_some : (f : Format) → 0 < infinity f
infinity_some binary32 = omega arith
infinity_some binary64 = omega arith

pub zero_text : (f : Format) (digits leading : ℕ) → IsFloatText f digits leading (codes "0.0") (pos 0)
zero_text f digits leading =
    let i = infinity_some f in
    record {
      zero = λ e. refl;
      number = λ a b. absurd (omega (arith, a));
      infinite = λ e. absurd (omega (arith, signed_arith, e, i));
      below_all = λ e. absurd (omega (arith, signed_arith, e, i));
      not_a_number = λ e. absurd (omega (arith, signed_arith, e, i));
    }

pub infinite_text : (f : Format) (digits leading : ℕ) → IsFloatText f digits leading (codes "inf") (pos (infinity f))
infinite_text f digits leading =
    let i = infinity_some f in
    record {
      zero = λ e. absurd (omega (arith, signed_arith, e, i));
      number = λ a b. absurd (omega (arith, b));
      infinite = λ e. refl;
      below_all = λ e. absurd (omega (arith, signed_arith, e, i));
      not_a_number = λ e. absurd (omega (arith, signed_arith, e, i));
    }

pub below_all_text : (f : Format) (digits leading : ℕ) (z : ℤ) → z ≡ neg_ℤ (pos (infinity f)) → unsigned_abs z ≡ infinity f → IsFloatText f digits leading (codes "-inf") z
below_all_text f digits leading z n s =
    let i = infinity_some f in
    record {
      zero = λ e. absurd (omega (arith, signed_arith, e, i, n));
      number = λ a b. absurd (omega (arith, b, s));
      infinite = λ e. absurd (omega (arith, signed_arith, e, i, n));
      below_all = λ e. refl;
      not_a_number = λ e. absurd (omega (arith, signed_arith, e, i, n));
    }

-- a storage below infinity's is of a finite float
size_is : (f : Format) (z : ℤ) → unsigned_abs z < infinity f → bits_of_storage f z % top f ≡ unsigned_abs z
size_is binary32 (pos n) h = omega (arith, h)
size_is binary32 (negsuc n) h = omega (arith, h)
size_is binary64 (pos n) h = omega (arith, h)
size_is binary64 (negsuc n) h = omega (arith, h)

finite_below : (f : Format) (z : ℤ) → IsStorage f z → unsigned_abs z < infinity f → float_is_finite (float_of_storage f z) ≡ true
finite_below f z is h =
    let raw = bits_of_storage f z in
    let s = size_is f z h in
    let l : raw % top f < ones f * hid f = omega (arith, s, h) in
    let n : is_nan (of_bits f raw) ≡ false = sym (nan_bits_is f raw) ∙ nan_bits_above f raw ∙ le-ltb (infinity f) (raw % top f) (omega (arith, l)) in
    (parts f (of_bits f raw) raw refl (bits_small f z is) (subst (λ (b : Bool). T (not b)) (sym n) tt)).finite.1 l

not_a_number : (f : Format) → float_of_storage f (pos (infinity f + 1)) ≡ nan
unfolding of_bits of_fields
not_a_number binary32 = refl
not_a_number binary64 = refl

-- of what is printed of a float
pub number_text : (f : Format) (digits leading : ℕ) (word : List ℕ) (z : ℤ) → IsStorage f z → (z ≡ pos 0 → ⊥) → (z ≡ pos (infinity f) → ⊥) → (z ≡ neg_ℤ (pos (infinity f)) → ⊥)
    → (float_is_finite (float_of_storage f z) ≡ true → IsLaidOutNumber digits leading word)
    → (float_is_finite (float_of_storage f z) ≡ false → word ≡ word_of (float_of_storage f z))
    → IsFloatText f digits leading word z
unfolding float_is_finite
number_text f digits leading word z is a b c laid named = record {
  zero = λ e. absurd (a e);
  number = λ s h. laid (finite_below f z is h);
  infinite = λ e. absurd (b e);
  below_all = λ e. absurd (c e);
  not_a_number = λ e.
      let x = ap (float_of_storage f) e ∙ not_a_number f in
      named (ap float_is_finite x) ∙ ap word_of x;
}
