-- The truth values of words that are put together.
use Rattle.std.proofs.Common.{Some, ◌≡◌, ◌∙◌, ℕ, ◌-◌, ◌^◌, ◌<◌, Bool, true, false, ◌&&◌, ◌||◌, ap, refl}
use Rattle.std.specs.Int.Bits.{bit_and, bit_or, bit_xor}
use Rattle.truth_bitmaps.specs.Truths.{is_set, truth_and, truth_not, truth_of, truth_or, under_null}
use Rattle.truth_bitmaps.proofs.BitSteps.{flip, none-set, ones-by-bits, set-and, set-flip, set-ones, set-or, zero-by-bits}
use Rattle.std.proofs.lemmas.Nat.{or_lt}

-- equal bits say the same
pub by-bits : (t u : Bool) (s v : Bool) → t ≡ s → u ≡ v → truth_of t u ≡ truth_of s v
by-bits t u s v p q = ap (λ b. truth_of b u) p ∙ ap (λ b. truth_of s b) q

and-bits : (t u s v : Bool) → truth_of (t && s) ((t || u) && (s || v)) ≡ truth_and (truth_of t u) (truth_of s v)
and-bits true u true v = refl
and-bits true u false true = refl
and-bits true u false false = refl
and-bits false true true v = refl
and-bits false true false true = refl
and-bits false true false false = refl
and-bits false false s v = refl

or-bits : (t u s v : Bool) → truth_of (t || s) (u || v) ≡ truth_or (truth_of t u) (truth_of s v)
or-bits true u s v = refl
or-bits false true true v = refl
or-bits false true false true = refl
or-bits false true false false = refl
or-bits false false s v = refl

not-bits : (t u : Bool) → truth_of (flip (t || u)) (u && flip t) ≡ truth_not (truth_of t u)
not-bits true true = refl
not-bits true false = refl
not-bits false true = refl
not-bits false false = refl

null-bits : (t u v : Bool) → truth_of (t && v) (u || flip v) ≡ under_null v (truth_of t u)
null-bits true true true = refl
null-bits true false true = refl
null-bits false true true = refl
null-bits false false true = refl
null-bits true true false = refl
null-bits true false false = refl
null-bits false true false = refl
null-bits false false false = refl

pub and-word : (t u s v i : ℕ) → truth_of (is_set (bit_and t s) i) (is_set (bit_and (bit_or t u) (bit_or s v)) i) ≡ truth_and (truth_of (is_set t i) (is_set u i)) (truth_of (is_set s i) (is_set v i))
and-word t u s v i =
    by-bits _ _ _ _ (set-and t s i) (set-and (bit_or t u) (bit_or s v) i ∙ ap (λ b. b && is_set (bit_or s v) i) (set-or t u i) ∙ ap (λ b. (is_set t i || is_set u i) && b) (set-or s v i))
    ∙ and-bits (is_set t i) (is_set u i) (is_set s i) (is_set v i)

pub or-word : (t u s v i : ℕ) → truth_of (is_set (bit_or t s) i) (is_set (bit_or u v) i) ≡ truth_or (truth_of (is_set t i) (is_set u i)) (truth_of (is_set s i) (is_set v i))
or-word t u s v i = by-bits _ _ _ _ (set-or t s i) (set-or u v i) ∙ or-bits (is_set t i) (is_set u i) (is_set s i) (is_set v i)

pub not-word : (t u i : ℕ) → i < 64 → truth_of (is_set (bit_xor (bit_or t u) (2 ^ 64 - 1)) i) (is_set (bit_and u (bit_xor t (2 ^ 64 - 1))) i) ≡ truth_not (truth_of (is_set t i) (is_set u i))
not-word t u i l =
    by-bits _ _ _ _ (set-flip (bit_or t u) i l ∙ ap flip (set-or t u i)) (set-and u (bit_xor t (2 ^ 64 - 1)) i ∙ ap (λ b. is_set u i && b) (set-flip t i l))
    ∙ not-bits (is_set t i) (is_set u i)

pub null-word : (t u v i : ℕ) → i < 64 → truth_of (is_set (bit_and t v) i) (is_set (bit_or u (bit_xor v (2 ^ 64 - 1))) i) ≡ under_null (is_set v i) (truth_of (is_set t i) (is_set u i))
null-word t u v i l =
    by-bits _ _ _ _ (set-and t v i) (set-or u (bit_xor v (2 ^ 64 - 1)) i ∙ ap (λ b. is_set u i || b) (set-flip v i l))
    ∙ null-bits (is_set t i) (is_set u i) (is_set v i)

-- where no bit is set it is False
pub none-true : (t u i : ℕ) → bit_or t u ≡ 0 → truth_of (is_set t i) (is_set u i) ≡ Some false
none-true t u i e = by-bits _ _ _ _ (none-set t u i e).0 (none-set t u i e).1

-- where all bits are set it is True
pub all-true : (t u i : ℕ) → i < 64 → t ≡ 2 ^ 64 - 1 → truth_of (is_set t i) (is_set u i) ≡ Some true
all-true t u i l e = ap (λ b. truth_of b (is_set u i)) (ap (λ n. is_set n i) e ∙ set-ones i l)

false-bits : (t u : Bool) → truth_of t u ≡ Some false → (t || u) ≡ false
false-bits true u e = cc
false-bits false true e = cc
false-bits false false e = refl

true-bits : (t u : Bool) → truth_of t u ≡ Some true → t ≡ true
true-bits true u e = refl
true-bits false true e = cc
true-bits false false e = cc

-- a word of which no bit is set, exactly if it is False of each row
pub is-false : (t u : ℕ) → t < 2 ^ 64 → u < 2 ^ 64 → ((row : ℕ) → row < 64 → truth_of (is_set t row) (is_set u row) ≡ Some false) → bit_or t u ≡ 0
is-false t u p q all = zero-by-bits (bit_or t u) (or_lt 64 t u p q) (λ i l. set-or t u i ∙ false-bits _ _ (all i l))

pub is-true : (t u : ℕ) → t < 2 ^ 64 → ((row : ℕ) → row < 64 → truth_of (is_set t row) (is_set u row) ≡ Some true) → t ≡ 2 ^ 64 - 1
is-true t u p all = ones-by-bits t p (λ i l. true-bits _ (is_set u i) (all i l))
