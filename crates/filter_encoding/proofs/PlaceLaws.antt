-- Counts and places: what begins with two of them, and where the bytes of one end too early.
use Rattle.std.proofs.Common.{◌≡◌, ℕ, zero, suc, ◌-◌, ◌<◌, List, [], ◌∷◌, ◌++◌, drop, length, length-append, refl, sym, ap, ◌∙◌, append-nil, arith}
use Rattle.vortex_row.specs.Held.{AreBytes}
use Rattle.statistics_bytes.proofs.CountBytes.{big_endian-length, counts-apart, some_count}
use Rattle.statistics_bytes.proofs.HeadLaws.{lengths-apart}
use Rattle.filter_encoding.specs.Lists.{Fits, count_bytes}
use Rattle.filter_encoding.specs.Strings.{BeginAlike, HasRead, IsEncodingOf, IsStuck}
use Rattle.filter_encoding.proofs.Stuck.{AreApart}

pub places_apart : AreApart count_bytes Fits
places_apart = record {
  apart = λ m n xs ys f g e.
      let w = lengths-apart (count_bytes m) (count_bytes n) xs ys (big_endian-length 8 m ∙ sym (big_endian-length 8 n)) e in
      (counts-apart m n f g w.0, w.1);
}

abbrev zeros : ℕ → List ℕ
zeros zero = []
zeros (suc n) = 0 ∷ zeros n

length-zeros : (n : ℕ) → length (zeros n) ≡ n
length-zeros zero = refl
length-zeros (suc n) = ap suc (length-zeros n)

one_more : (c : ℕ) (cs : List ℕ) → c < 256 → AreBytes cs → AreBytes (c ∷ cs)
one_more c cs small h zero = small
one_more c cs small h (suc k) = h k

bytes_then_zeros : (cs : List ℕ) (n : ℕ) → AreBytes cs → AreBytes (cs ++ zeros n)
bytes_then_zeros [] zero h = h
bytes_then_zeros [] (suc n) h = one_more 0 (zeros n) (omega arith) (bytes_then_zeros [] n h)
bytes_then_zeros (c ∷ cs) n h = one_more c (cs ++ zeros n) (h 0) (bytes_then_zeros cs n (λ i. h (suc i)))

-- the bytes of a place end too early
pub place_cut_off : (old : List ℕ) → AreBytes old → length old < 8 → IsStuck (IsEncodingOf count_bytes Fits) old []
place_cut_off old bytes short =
    let n = 8 - length old in
    let whole : length (old ++ zeros n) ≡ 8 = omega (arith, length-append old (zeros n), length-zeros n) in
    let w = some_count (old ++ zeros n) (bytes_then_zeros old n bytes) whole in
    record {
      done = old;
      split = sym (append-nil old);
      more = zeros n;
      begins = record { value = w.0; is_one = w.1; is = w.2 };
      none = λ s zs rest h alike e. too_short s zs rest h alike e;
    }
  where
    too_short : (s zs rest : List ℕ) → IsEncodingOf count_bytes Fits s → BeginAlike [] zs → old ++ zs ≡ s ++ rest → ⊥
    too_short s [] rest h alike e =
        let a = ap length (sym (append-nil old) ∙ e ∙ ap (λ xs. xs ++ rest) h.is) in
        let b = length-append (count_bytes h.value) rest in
        let c = big_endian-length 8 h.value in
        omega arith
    too_short s (z ∷ zs) rest h alike e = alike

pub place_read : (n : ℕ) (old now : List ℕ) → Fits n → old ≡ count_bytes n ++ drop 8 old → now ≡ drop 8 old → HasRead count_bytes Fits n old now
place_read n old now fits is e = record { is_one = fits; is = is ∙ ap (λ xs. count_bytes n ++ xs) (sym e) }
