-- Floats that words write compare as their storages do.
use Rattle.std.proofs.Common.{◌≡◌, ◌+◌, ◌==◌, ℕ, Bool, true, false, T, List, Option, Some, None, drop, length, refl, subst, slice_index, if◌then◌else◌, codes}
use Rattle.std.specs.Float.{Float, Format}
use Rattle.std.specs.Float.Parse.{begins_with, parse_float, read_float, read_unsigned, read_word, sign_len}
use Rattle.std.specs.Float.Numeral.{has_digits, minus, scan_numeral}
use Rattle.std.specs.Option.{option_and_then, option_map}
use Rattle.std.specs.Ordering.{int_cmp, nan_last_cmp}
use lib.Ieee.{fits}
use lib.Ieee.Fits.{inf-fits, nan-fits, round-fits}
use Rattle.float_storage.specs.Storage.{storage_of}
use Rattle.float_storage.proofs.Order.{order_of_storages}

abbrev Fitting : Format → Option (Float × ℕ) → Type 0
Fitting f None = Unit {0}
Fitting f (Some r) = T (fits f r.0)

either : (f : Format) (b : Bool) (x y : Option (Float × ℕ)) → Fitting f x → Fitting f y → Fitting f (if b then x else y)
either f true x y p q = p
either f false x y p q = q

word_fits : (f : Format) (negative : Bool) (bs : List ℕ) → Fitting f (read_word negative bs)
word_fits f negative bs =
    either f (begins_with bs (codes "infinity")) _ _ (inf-fits f negative)
    (either f (begins_with bs (codes "inf")) _ _ (inf-fits f negative) (either f (begins_with bs (codes "nan")) _ None (nan-fits f) tt))

unsigned_fits : (f : Format) (negative : Bool) (bs : List ℕ) → Fitting f (read_unsigned f negative bs)
unsigned_fits f negative bs = either f (has_digits (scan_numeral bs)) _ _ (round-fits f negative _ _) (word_fits f negative bs)

moved : (f : Format) (k : ℕ) (o : Option (Float × ℕ)) → Fitting f o → Fitting f (option_map (λ r. (r.0, k + r.1)) o)
moved f k None h = tt
moved f k (Some r) h = h

read_fits : (f : Format) (bs : List ℕ) → Fitting f (read_float f bs)
unfolding read_float
read_fits f bs = moved f (sign_len bs) (read_unsigned f (slice_index bs 0 == minus) (drop (sign_len bs) bs)) (unsigned_fits f (slice_index bs 0 == minus) (drop (sign_len bs) bs))

whole : (f : Format) (n : ℕ) (o : Option (Float × ℕ)) (x : Float) → Fitting f o → option_and_then (λ r. if r.1 == n then Some r.0 else None) o ≡ Some x → T (fits f x)
whole f n None x h e = absurd cc
whole f n (Some r) x h e = by_length (r.1 == n) refl
  where
    by_length : (b : Bool) → (r.1 == n) ≡ b → T (fits f x)
    by_length true s = let same : r.0 ≡ x = cc in subst (λ (y : Float). T (fits f y)) same h
    by_length false s = absurd cc

pub fits_read : (f : Format) (bs : List ℕ) (x : Float) → parse_float f bs ≡ Some x → T (fits f x)
fits_read f bs x e = whole f (length bs) (read_float f bs) x (read_fits f bs) e

pub order_read : (f : Format) (v w : List ℕ) (x y : Float) → parse_float f v ≡ Some x → parse_float f w ≡ Some y → nan_last_cmp x y ≡ int_cmp (storage_of f x) (storage_of f y)
order_read f v w x y a b = order_of_storages f x y (fits_read f v x a) (fits_read f w y b)
