-- Which bounds are long, and that truncated ones are not.
use Rattle.std.proofs.Common.{◌≡◌, ℕ, ◌<◌, ◌≤◌, Bool, true, false, nat_lt, List, length, Option, Some, None, refl, sym, ap, subst, ◌∙◌, arith}
use Rattle.std.proofs.lemmas.Bool.{ltb-false, ltb-true}
use Rattle.vortex_bounds.specs.Strings.{IsLower, IsUpper}
use Rattle.vortex_bounds.specs.Texts.{IsTextLower, IsTextUpper}
use Rattle.vortex_bounds.specs.Truncation.{IsBoundOf}
use Rattle.vortex_dtype.specs.TypeTree.{TypeTree, binary_type, utf8_type}
use Rattle.vortex_value.specs.Values.RawTree.{RawTree, raw_bytes, raw_text}
use Rattle.vortex_value.specs.Values.Scalars.{scalar_raw, scalar_type}
use Rattle.vortex_statistics.specs.Kinds.{kind_of}
use Rattle.vortex_statistics.specs.Truncating.{AreTruncated, HasShortBounds, IsLong, IsLongRaw, IsTruncatedLower, IsTruncatedUpper, LongAt, LowerAt, UpperAt}
use Rattle.vortex_statistics.specs.declared.column_statistics.Bound.{Bound}
use Rattle.vortex_statistics.specs.declared.column_statistics.ColumnStatistics.{ColumnStatistics}
use Rattle.vortex_statistics.specs.declared.truncating.Kind.TheVariants.{Bytes, Text}
use Rattle.vortex_statistics.proofs.TruncateLaws.{bytes_kind, text_kind}

-- ---- a long bound, by its kind

at_parts : (n : ℕ) (t u : TypeTree) (v w : RawTree) → t ≡ u → v ≡ w → LongAt u w n → LongAt t v n
at_parts n t u v w p q h =
    let P : TypeTree → Type 0 = λ s. LongAt s v n in
    let Q : RawTree → Type 0 = λ r. LongAt u r n in
    subst P (sym p) (subst Q (sym q) h)

pub text_long : (n : ℕ) (b : Bound) → kind_of (scalar_type b.value) (scalar_raw b.value) ≡ Text → IsLongRaw raw_text n b → IsLong n (Some b)
text_long n b e h =
    let k = (text_kind (scalar_type b.value) (scalar_raw b.value) e).0 in
    at_parts n (scalar_type b.value) (utf8_type k.0) (scalar_raw b.value) (raw_text h.0) k.1 h.1 h.2

pub bytes_long : (n : ℕ) (b : Bound) → kind_of (scalar_type b.value) (scalar_raw b.value) ≡ Bytes → IsLongRaw raw_bytes n b → IsLong n (Some b)
bytes_long n b e h =
    let k = (bytes_kind (scalar_type b.value) (scalar_raw b.value) e).0 in
    at_parts n (scalar_type b.value) (binary_type k.0) (scalar_raw b.value) (raw_bytes h.0) k.1 h.1 h.2

-- ---- what was cut is short

short_bytes : (Best : List ℕ → ℕ → List ℕ → Type 0) (raw : List ℕ → RawTree) (t : TypeTree) (bs : List ℕ) (n : ℕ) (b : Bound) (cut : Bool)
    → ((r : List ℕ) → Best bs n r → length r ≤ n) → (h : IsBoundOf Best raw t bs n b.value cut) → length h.bytes ≤ n
short_bytes Best raw t bs n b cut fits h = by_length (nat_lt n (length bs)) refl
  where
    by_length : (p : Bool) → nat_lt n (length bs) ≡ p → length h.bytes ≤ n
    by_length true e = let longer : n < length bs = ltb-true n (length bs) e in fits h.bytes (h.best longer)
    by_length false e =
        let shorter : length bs ≤ n = ltb-false n (length bs) e in
        let same : length h.bytes ≡ length bs = ap length (h.whole shorter) in omega (arith, same, shorter)

from_parts : (n : ℕ) (t u : TypeTree) (v w : RawTree) → t ≡ u → v ≡ w → LongAt t v n → LongAt u w n
from_parts n t u v w p q h = at_parts n u t w v (sym p) (sym q) h

not_longer : (n m : ℕ) → m ≤ n → n < m → ⊥
not_longer n m h k = omega arith

lower_short : (n : ℕ) (b c : Bound) (t : TypeTree) (v : RawTree) → scalar_type b.value ≡ t → scalar_raw b.value ≡ v → LowerAt t v n b c → LongAt (scalar_type c.value) (scalar_raw c.value) n → ⊥
lower_short n b c (utf8_type k) (raw_text bs) p q h long =
    let made = h.bound.bound in
    not_longer n (length made.bytes) (short_bytes IsTextLower raw_text (utf8_type k) bs n c h.cut (λ r best. best.is_prefix.fits) made)
    (from_parts n (scalar_type c.value) (utf8_type k) (scalar_raw c.value) (raw_text made.bytes) made.made.typed made.made.value long)
lower_short n b c (binary_type k) (raw_bytes bs) p q h long =
    let made = h.bound.bound in
    not_longer n (length made.bytes) (short_bytes IsLower raw_bytes (binary_type k) bs n c h.cut (λ r best. best.fits) made)
    (from_parts n (scalar_type c.value) (binary_type k) (scalar_raw c.value) (raw_bytes made.bytes) made.made.typed made.made.value long)
lower_short n b c t v p q h long =
    let same_type : scalar_type c.value ≡ t = ap (λ d. scalar_type d.value) h ∙ p in
    let same_raw : scalar_raw c.value ≡ v = ap (λ d. scalar_raw d.value) h ∙ q in
    from_parts n (scalar_type c.value) t (scalar_raw c.value) v same_type same_raw long

upper_short : (n : ℕ) (b c : Bound) (t : TypeTree) (v : RawTree) → scalar_type b.value ≡ t → scalar_raw b.value ≡ v → UpperAt t v n b (Some c) → LongAt (scalar_type c.value) (scalar_raw c.value) n → ⊥
upper_short n b c (utf8_type k) (raw_text bs) p q h long =
    let made = h.bound.bound in
    not_longer n (length made.bytes) (short_bytes IsTextUpper raw_text (utf8_type k) bs n c h.cut (λ r best. omega (arith, best.exact, best.is_prefix.fits)) made)
    (from_parts n (scalar_type c.value) (utf8_type k) (scalar_raw c.value) (raw_text made.bytes) made.made.typed made.made.value long)
upper_short n b c (binary_type k) (raw_bytes bs) p q h long =
    let made = h.bound.bound in
    not_longer n (length made.bytes) (short_bytes IsUpper raw_bytes (binary_type k) bs n c h.cut (λ r best. omega (arith, best.exact)) made)
    (from_parts n (scalar_type c.value) (binary_type k) (scalar_raw c.value) (raw_bytes made.bytes) made.made.typed made.made.value long)
upper_short n b c t v p q h long =
    let same : c ≡ b = cc in
    let same_type : scalar_type c.value ≡ t = ap (λ d. scalar_type d.value) same ∙ p in
    let same_raw : scalar_raw c.value ≡ v = ap (λ d. scalar_raw d.value) same ∙ q in
    from_parts n (scalar_type c.value) t (scalar_raw c.value) v same_type same_raw long

no_long_lower : (n : ℕ) (b c : Option Bound) → IsTruncatedLower n b c → IsLong n c → ⊥
no_long_lower n b None h long = long
no_long_lower n None (Some c) h long = absurd (cc)
no_long_lower n (Some b) (Some c) h long = lower_short n b c (scalar_type b.value) (scalar_raw b.value) refl refl h long

no_long_upper : (n : ℕ) (b c : Option Bound) → IsTruncatedUpper n b c → IsLong n c → ⊥
no_long_upper n b None h long = long
no_long_upper n None (Some c) h long = absurd (cc)
no_long_upper n (Some b) (Some c) h long = upper_short n b c (scalar_type b.value) (scalar_raw b.value) refl refl h long

pub truncated_short : (n : ℕ) (s t : ColumnStatistics) → AreTruncated n s t → HasShortBounds n t
truncated_short n s t h = (λ long. no_long_lower n s.lower t.lower h.lower long, λ long. no_long_upper n s.upper t.upper h.upper long)
