-- Bytes, the greatest first, compare as the numbers do, and are read back.
use Rattle.std.proofs.Common.{◌≡◌, ◌∙◌, inl, inr, ◌+◌, ◌-◌, ◌*◌, ◌/◌, ◌%◌, ◌^◌, ◌<◌, ◌≤◌, ℕ, zero, suc, ℤ, pos, negsuc, ◌+ℤ◌, List, [], ◌∷◌, ◌++◌, refl, sym, ap, arith, unsigned_abs, FitsSigned}
use mir.Syntax.{w128}
use native.Mathlib.Nat.{pow-suc, mul-le-mul_left}
use Rattle.jiff_core.proofs.SignedLemmas.{signed_arith}
use Rattle.std.proofs.Math.Nat.{add-mul-mod_self_left, div-add-mod, div-div-eq-div-mul, mod-eq_of_lt, mod-lt, pow-le-pow_right}
use Rattle.std.proofs.lemmas.Bool.{cases_order}
use Rattle.std.proofs.lemmas.Int.{ints}
use Rattle.std.specs.Cmp.{int_cmp_is, nat_cmp_is}
use Rattle.std.specs.Cmp.Lexicographic.{slice_cmp}
use Rattle.std.specs.Int.{byte_at, bytes_high_first}
use Rattle.std.specs.Ordering.{int_cmp, nat_cmp, ordering_then}
use Rattle.std.specs.declared.cmp.Ordering.{Ordering}
use Rattle.std.specs.declared.cmp.Ordering.TheVariants.{Less, Equal, Greater}
use Rattle.logical_types.specs.Storing.{decimal_bytes}

less : (w a b r s : ℕ) → a < b → r < w → a * w + r < b * w + s
less w a b r s l h =
    let k : suc a ≤ b = omega arith in
    let m : w * suc a ≤ w * b = mul-le-mul_left w k in
    let n : w * suc a ≡ w * a + w = omega arith in
    let p : a * w ≡ w * a = omega arith in
    let q : b * w ≡ w * b = omega arith in
    omega arith

same : (w a b r s : ℕ) → a ≡ b → nat_cmp r s ≡ nat_cmp (a * w + r) (b * w + s)
same w a b r s e =
    let m : a * w ≡ b * w = ap (λ (x : ℕ). x * w) e in
    elim (cases_order r s) [
      | inl t ↦ let u : a * w + r ≡ b * w + s = omega arith in sym (nat_cmp_is r s Equal t) ∙ nat_cmp_is (a * w + r) (b * w + s) Equal u
      | inr (inl t) ↦ let u : a * w + r < b * w + s = omega arith in sym (nat_cmp_is r s Less t) ∙ nat_cmp_is (a * w + r) (b * w + s) Less u
      | inr (inr t) ↦ let u : b * w + s < a * w + r = omega arith in sym (nat_cmp_is r s Greater t) ∙ nat_cmp_is (a * w + r) (b * w + s) Greater u
    ]

-- two digits in a base compare as their number
step : (w a b r s : ℕ) → r < w → s < w → ordering_then (nat_cmp a b) (nat_cmp r s) ≡ nat_cmp (a * w + r) (b * w + s)
step w a b r s hr hs =
    elim (cases_order a b) [
      | inl e ↦ ap (λ (o : Ordering). ordering_then o (nat_cmp r s)) (sym (nat_cmp_is a b Equal e)) ∙ same w a b r s e
      | inr (inl l) ↦ ap (λ (o : Ordering). ordering_then o (nat_cmp r s)) (sym (nat_cmp_is a b Less l)) ∙ nat_cmp_is (a * w + r) (b * w + s) Less (less w a b r s l hr)
      | inr (inr g) ↦ ap (λ (o : Ordering). ordering_then o (nat_cmp r s)) (sym (nat_cmp_is a b Greater g)) ∙ nat_cmp_is (a * w + r) (b * w + s) Greater (less w b a s r g hs)
    ]

some : (k : ℕ) → 0 < 256 ^ k
some zero = omega arith
some (suc k) = let i = some k in let e : 256 ^ suc k ≡ 256 ^ k * 256 = pow-suc 256 k in omega arith

byte_is : (k m : ℕ) → byte_at k m ≡ m / 256 ^ k % 256
byte_is zero m = omega arith
byte_is (suc k) m = refl

-- a byte before the last bytes
whole : (k m : ℕ) → byte_at k m * 256 ^ k + m % 256 ^ k ≡ m % 256 ^ suc k
whole k m =
    let e : 256 ^ suc k ≡ 256 ^ k * 256 = pow-suc 256 k in
    let b = byte_is k m in
    let d : 256 ^ k * (m / 256 ^ k) + m % 256 ^ k ≡ m = div-add-mod m (256 ^ k) in
    let f : 256 * (m / 256 ^ k / 256) + m / 256 ^ k % 256 ≡ m / 256 ^ k = div-add-mod (m / 256 ^ k) 256 in
    let r : m % 256 ^ k < 256 ^ k = mod-lt m (some k) in
    let t : m / 256 ^ k % 256 < 256 = omega arith in
    parts (256 ^ k) (256 ^ suc k) m (m / 256 ^ k) (m % 256 ^ k) (m / 256 ^ k / 256) (m / 256 ^ k % 256) (byte_at k m) e b d f r t
  where
    parts : (w v m q r h l byte : ℕ) → v ≡ w * 256 → byte ≡ l → w * q + r ≡ m → 256 * h + l ≡ q → r < w → l < 256 → byte * w + r ≡ m % v
    parts w v m q r h l byte e b d f hr hl =
        let a : w * q ≡ w * (256 * h + l) = ap (λ (y : ℕ). w * y) (sym f) in
        let g : m ≡ l * w + r + w * 256 * h = omega arith in
        let k : suc l ≤ 256 = omega arith in
        let n : w * suc l ≤ w * 256 = mul-le-mul_left w k in
        let o : w * suc l ≡ l * w + w = omega arith in
        let s : l * w + r < w * 256 = omega arith in
        let p : m % (w * 256) ≡ l * w + r = ap (λ (y : ℕ). y % (w * 256)) g ∙ add-mul-mod_self_left (l * w + r) (w * 256) h ∙ mod-eq_of_lt s in
        let z : byte * w + r ≡ l * w + r = ap (λ (y : ℕ). y * w + r) b in
        z ∙ sym p ∙ ap (λ (y : ℕ). m % y) (sym e)

high_order : (k m n : ℕ) → slice_cmp nat_cmp (bytes_high_first k m) (bytes_high_first k n) ≡ nat_cmp (m % 256 ^ k) (n % 256 ^ k)
high_order zero m n = let e : m % 256 ^ zero ≡ n % 256 ^ zero = omega arith in nat_cmp_is (m % 256 ^ zero) (n % 256 ^ zero) Equal e
high_order (suc k) m n =
    ap (λ (o : Ordering). ordering_then (nat_cmp (byte_at k m) (byte_at k n)) o) (high_order k m n)
    ∙ step (256 ^ k) (byte_at k m) (byte_at k n) (m % 256 ^ k) (n % 256 ^ k) (mod-lt m (some k)) (mod-lt n (some k))
    ∙ ap (λ (x : ℕ). nat_cmp x (byte_at k n * 256 ^ k + n % 256 ^ k)) (whole k m)
    ∙ ap (λ (x : ℕ). nat_cmp (m % 256 ^ suc k) x) (whole k n)

-- a number of 128 bits and 2 ^ 127
record IsTurned (x : ℤ) : Type 0 where
  pub number : ℕ
  pub is : x +ℤ pos 170_141_183_460_469_231_731_687_303_715_884_105_728 ≡ pos number
  pub small : number < 256 ^ 16

turn : (x : ℤ) → FitsSigned w128 x → IsTurned x
turn (pos n) h = record { number = n + 170_141_183_460_469_231_731_687_303_715_884_105_728; is = refl; small = omega (arith, ints, h) }
turn (negsuc n) h = record { number = 170_141_183_460_469_231_731_687_303_715_884_105_728 - suc n; is = omega (arith, ints, h); small = omega (arith, ints, h) }

same_order : (x y : ℤ) (a : IsTurned x) (b : IsTurned y) → nat_cmp a.number b.number ≡ int_cmp x y
same_order x y a b =
    let p = a.is in
    let q = b.is in
    elim (cases_order a.number b.number) [
      | inl e ↦ sym (nat_cmp_is a.number b.number Equal e) ∙ int_cmp_is x y Equal (omega (arith, signed_arith, e, p, q))
      | inr (inl e) ↦ sym (nat_cmp_is a.number b.number Less e) ∙ int_cmp_is x y Less (omega (arith, signed_arith, e, p, q))
      | inr (inr e) ↦ sym (nat_cmp_is a.number b.number Greater e) ∙ int_cmp_is x y Greater (omega (arith, signed_arith, e, p, q))
    ]

bytes_are : (x : ℤ) (a : IsTurned x) → decimal_bytes x ≡ bytes_high_first 16 a.number
bytes_are x a = ap (λ (z : ℤ). bytes_high_first 16 (unsigned_abs z)) a.is

-- the bytes of a number of 128 bits sort as it does
pub sorted : (x y : ℤ) → FitsSigned w128 x → FitsSigned w128 y → slice_cmp nat_cmp (decimal_bytes x) (decimal_bytes y) ≡ int_cmp x y
sorted x y fx fy =
    let a = turn x fx in
    let b = turn y fy in
    ap (λ (xs : List ℕ). slice_cmp nat_cmp xs (decimal_bytes y)) (bytes_are x a)
    ∙ ap (λ (ys : List ℕ). slice_cmp nat_cmp (bytes_high_first 16 a.number) ys) (bytes_are y b)
    ∙ high_order 16 a.number b.number
    ∙ ap (λ (m : ℕ). nat_cmp m (b.number % 256 ^ 16)) (mod-eq_of_lt a.small)
    ∙ ap (λ (n : ℕ). nat_cmp a.number n) (mod-eq_of_lt b.small)
    ∙ same_order x y a b

-- ---- read back
shifted_byte : (k v b : ℕ) → b < 256 → byte_at (suc k) (v * 256 + b) ≡ byte_at k v
shifted_byte k v b h =
    let e : 256 ^ suc k ≡ 256 * 256 ^ k = pow-suc 256 k ∙ (let c : 256 ^ k * 256 ≡ 256 * 256 ^ k = omega arith in c) in
    let f : (v * 256 + b) / 256 ≡ v = omega arith in
    ap (λ (q : ℕ). q % 256) (ap (λ (u : ℕ). (v * 256 + b) / u) e ∙ sym (div-div-eq-div-mul (v * 256 + b) 256 (256 ^ k)) ∙ ap (λ (x : ℕ). x / 256 ^ k) f) ∙ sym (byte_is k v)

pub next_byte : (k v b : ℕ) → b < 256 → bytes_high_first (suc k) (v * 256 + b) ≡ bytes_high_first k v ++ b ∷ []
next_byte zero v b h = let e : (v * 256 + b) % 256 ≡ b = omega arith in ap (λ (x : ℕ). x ∷ []) e
next_byte (suc k) v b h = ap (λ (x : ℕ). x ∷ bytes_high_first (suc k) (v * 256 + b)) (shifted_byte k v b h) ∙ ap (λ (xs : List ℕ). byte_at k v ∷ xs) (next_byte k v b h)

-- a value below a power of 256 takes one byte more
pub one_more : (k v b : ℕ) → k < 16 → v < 256 ^ k → b < 256 → (v * 256 + b < 256 ^ (k + 1)) × (v * 256 + b < 256 ^ 16)
one_more k v b h l m =
    let e : 256 ^ suc k ≡ 256 ^ k * 256 = pow-suc 256 k in
    let s : k + 1 ≡ suc k = omega arith in
    let f : 256 ^ (k + 1) ≡ 256 ^ suc k = ap (λ (n : ℕ). 256 ^ n) s in
    let g : 256 ^ suc k ≤ 256 ^ 16 = pow-le-pow_right (omega arith) h in
    let n : v * 256 + b < 256 ^ suc k = omega arith in
    (omega arith, omega arith)
