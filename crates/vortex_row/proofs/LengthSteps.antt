-- Steps of how long keys are.
use Rattle.std.proofs.Common.{◌≡◌, ℕ, zero, suc, ℤ, pos, negsuc, ◌+◌, ◌*◌, ◌/◌, ◌%◌, ◌^◌, ◌<◌, ◌≤◌, ◌⊎◌, inl, inr, List, [], ◌∷◌, ◌++◌, drop, length, length-append, get_or, Option, refl, sym, subst, ap, ap₂, ◌∙◌, true, arith}
use Rattle.std.specs.Int.{w64, leading_zeros}
use Rattle.std.proofs.lemmas.Nat.{leading_length, pow-add}
use Rattle.std.proofs.Math.Pow.{pow_mono}
use Rattle.std.proofs.lemmas.List.{drop_more}
use Rattle.std.proofs.lemmas.Bool.{cases_lt}
use Rattle.std.specs.Prelude.{unsigned_abs, option_map}
use Rattle.vortex_value.specs.Values.Content.{content, contents, tagged}
use Rattle.vortex_value.specs.Values.RawOf.{raw_of, value_trees, union_tree}
use Rattle.vortex_value.specs.declared.unions.UnionValue.{UnionValue}
use Rattle.vortex_value.specs.declared.values.ScalarValue.{ScalarValue}
use Rattle.vortex_value.proofs.ValueSteps.{value_tree-Tuple, value_tree-Union, value_tree-Variant, variant_tree-parts, union_tree-child}
use Rattle.vortex_row.specs.Keys.{big_endian, without_leading_zeros, number_bytes, whole_key, escape, escaped, key, keys}
use Rattle.vortex_row.proofs.NumberLaws.{big_endian-length, without_zeros-length, number-length}
use Rattle.vortex_row.proofs.ByteLaws.{inverted-length}

-- numbers

-- how many bytes are left without the zeros at the front
abbrev used : ℕ → ℕ → ℕ
used k n = length (without_leading_zeros (big_endian k n))

-- one byte more at the end
more_used : (bs : List ℕ) (b : ℕ) → ((length (without_leading_zeros bs) ≡ 0) × (without_leading_zeros (bs ++ b ∷ []) ≡ without_leading_zeros (b ∷ [])))
    ⊎ ((0 < length (without_leading_zeros bs)) × (length (without_leading_zeros (bs ++ b ∷ [])) ≡ suc (length (without_leading_zeros bs))))
more_used [] b = inl (refl, refl)
more_used (zero ∷ bs) b = more_used bs b
more_used (suc c ∷ bs) b = inr (omega arith, ap suc (length-append bs (b ∷ []) ∙ omega arith))

one_used : (b : ℕ) → ((b ≡ 0) × (length (without_leading_zeros (b ∷ [])) ≡ 0)) ⊎ ((0 < b) × (length (without_leading_zeros (b ∷ [])) ≡ 1))
one_used zero = inl (refl, refl)
one_used (suc b) = inr (omega arith, refl)

-- a number has the bytes that it needs, and no more
record Needs (n c : ℕ) : Type 0 where
  fits : n < 256 ^ c
  needed : 256 ^ c ≤ 256 * n + 1

last_only : (n c : ℕ) → n / 256 < 1 → ((n % 256 ≡ 0) × (c ≡ 0)) ⊎ ((0 < n % 256) × (c ≡ 1)) → Needs n c
last_only n c h g = elim g [
  | inl none ↦ rw none.1 (record { fits = omega arith; needed = omega arith })
  | inr one ↦ rw one.1 (record { fits = omega arith; needed = omega arith })
]

more_needs : (n d : ℕ) → Needs (n / 256) (suc d) → Needs n (suc (suc d))
more_needs n d h =
    let a : n / 256 < 256 ^ suc d = h.fits in
    let b : 256 ^ suc d ≤ 256 * (n / 256) + 1 = h.needed in
    record { fits = omega arith; needed = omega arith }

needs : (k n : ℕ) → n < 256 ^ k → Needs n (used k n)
needs zero n h = record { fits = h; needed = omega arith }
needs (suc k) n h =
    let before = needs k (n / 256) (omega arith) in
    elim (more_used (big_endian k (n / 256)) (n % 256)) [
      | inl none ↦ last_only n (used (suc k) n) (subst (λ c. n / 256 < 256 ^ c) none.0 before.fits) (subst (λ c. ((n % 256 ≡ 0) × (c ≡ 0)) ⊎ ((0 < n % 256) × (c ≡ 1))) (sym (ap length none.1)) (one_used (n % 256)))
      | inr some ↦ subst (Needs n) (sym some.1) (after (used k (n / 256)) some.0 before)
    ]
  where
    after : (c : ℕ) → 0 < c → Needs (n / 256) c → Needs n (suc c)
    after zero h g = absurd (omega arith)
    after (suc d) h g = more_needs n d g

in_bits : (c : ℕ) → 256 ^ c ≡ 2 ^ (8 * c)
in_bits zero = refl
in_bits (suc c) =
    let e : 8 * suc c ≡ 8 + 8 * c = omega arith in
    let f : 256 ^ suc c ≡ 256 * 256 ^ c = omega arith in
    f ∙ ap (λ x. 256 * x) (in_bits c) ∙ sym (pow-add 2 8 (8 * c)) ∙ ap (λ x. 2 ^ x) (sym e)

-- so many bytes hold just the bits from the first that is set
no_more_bits : (n c m : ℕ) → n < 256 ^ c → 2 ^ m ≤ 2 * n + 1 → 8 * c < m → ⊥
no_more_bits n c m h g l =
    let e : 2 ^ suc (8 * c) ≡ 2 * 2 ^ (8 * c) = omega arith in
    let f : 2 ^ suc (8 * c) ≤ 2 ^ m = pow_mono l in
    let i = in_bits c in
    omega arith

no_fewer_bits : (n c m : ℕ) → 256 ^ c ≤ 256 * n + 1 → n < 2 ^ m → m + 8 ≤ 8 * c → ⊥
no_fewer_bits n c m h g l =
    let e : 2 ^ (m + 8) ≡ 2 ^ m * 2 ^ 8 = pow-add 2 m 8 in
    let f : 2 ^ (m + 8) ≤ 2 ^ (8 * c) = pow_mono l in
    let i = in_bits c in
    omega arith

whole_bytes : (z m c : ℕ) → z + m ≡ 64 → (8 * c < m → ⊥) → (m + 8 ≤ 8 * c → ⊥) → c + z / 8 ≡ 8
whole_bytes z m c e h g = elim (cases_lt (8 * c) m) [
  | inl more ↦ absurd (h more)
  | inr few ↦ elim (cases_lt (8 * c) (m + 8)) [ inl near ↦ omega arith | inr far ↦ absurd (g far) ]
]

pub unused-bytes : (n : ℕ) → n < 2 ^ 64 → length (number_bytes n) + leading_zeros w64 n / 8 ≡ 8
unused-bytes n h =
    let bits = leading_length 64 n h in
    let bytes = needs 8 n (omega arith) in
    let fits = bytes.fits in
    let needed = bytes.needed in
    whole_bytes (leading_zeros w64 n) bits.0 (used 8 n) bits.1 (no_more_bits n (used 8 n) bits.0 fits bits.3) (no_fewer_bits n (used 8 n) bits.0 needed bits.2)

dropped : (bs : List ℕ) (j : ℕ) → length (without_leading_zeros bs) + j ≡ length bs → without_leading_zeros bs ≡ drop j bs
dropped [] zero e = refl
dropped [] (suc j) e = refl
dropped (zero ∷ bs) zero e = let short = without_zeros-length bs in absurd (omega arith)
dropped (zero ∷ bs) (suc j) e = dropped bs j (omega arith)
dropped (suc b ∷ bs) zero e = refl
dropped (suc b ∷ bs) (suc j) e = absurd (omega arith)

pub bytes-dropped : (n j : ℕ) → length (number_bytes n) + j ≡ 8 → number_bytes n ≡ drop j (big_endian 8 n)
bytes-dropped n j e = dropped (big_endian 8 n) j (e ∙ sym (big_endian-length 8 n))

-- the length of a number's key
pub whole-length : (z : ℤ) → length (whole_key z) ≡ 1 + length (number_bytes (unsigned_abs z))
whole-length (pos n) = omega arith
whole-length (negsuc n) = let e = inverted-length true (number_bytes (suc n)) in omega arith

pub ruleset numbers = (unused-bytes, bytes-dropped, whole-length, number-length)

-- strings

pub escape-plain : (b : ℕ) → 1 < b → escape b ≡ b ∷ []
escape-plain zero h = absurd (omega arith)
escape-plain (suc zero) h = absurd (omega arith)
escape-plain (suc (suc b)) h = refl

escape-doubled : (b : ℕ) → b < 2 → length (escape b) ≡ 2
escape-doubled zero h = refl
escape-doubled (suc zero) h = refl
escape-doubled (suc (suc b)) h = absurd (omega arith)

pub escaped-plain : (bs : List ℕ) → ((k : ℕ) → k < length bs → 1 < get_or bs k 0) → escaped bs ≡ bs ++ 0 ∷ []
escaped-plain [] h = refl
escaped-plain (b ∷ bs) h =
    let first : 1 < b = h 0 (omega arith) in
    ap₂ (λ xs ys. xs ++ ys) (escape-plain b first) (escaped-plain bs (λ k less. h (suc k) (omega arith)))

-- the byte at an offset, written as one or as two, and the rest

pub single-at : (bs : List ℕ) (i b : ℕ) → i < length bs → b ≡ get_or bs i b → 2 ≤ b → length (escaped (drop i bs)) ≡ 1 + length (escaped (drop (i + 1) bs))
single-at bs i b h is more = rw (drop_more bs i b h, ← is, escape-plain b more) (omega arith)

pub doubled-at : (bs : List ℕ) (i b : ℕ) → i < length bs → b ≡ get_or bs i b → b < 2 → length (escaped (drop i bs)) ≡ 2 + length (escaped (drop (i + 1) bs))
doubled-at bs i b h is few =
    let e : length (escape b ++ escaped (drop (i + 1) bs)) ≡ length (escape b) + length (escaped (drop (i + 1) bs)) = length-append (escape b) _ in
    let two = escape-doubled b few in
    rw (drop_more bs i b h, ← is) (omega arith)

pub ruleset strings = (escaped-plain, single-at, doubled-at)

-- no key has more

escape-most : (b : ℕ) → length (escape b) ≤ 2
escape-most zero = omega arith
escape-most (suc zero) = omega arith
escape-most (suc (suc b)) = omega arith

pub escaped-most : (bs : List ℕ) → length (escaped bs) ≤ 2 * length bs + 1
escaped-most [] = omega arith
escaped-most (b ∷ bs) =
    let e : length (escape b ++ escaped bs) ≡ length (escape b) + length (escaped bs) = length-append (escape b) (escaped bs) in
    let first = escape-most b in
    let rest = escaped-most bs in
    omega arith

pub whole-most : (z : ℤ) → length (whole_key z) ≤ 9
whole-most z =
    let long = whole-length z in
    let few = number-length (unsigned_abs z) in
    omega arith

pub ruleset bounds = (escaped-most, whole-most)

-- values

pub union-content : (u : UnionValue) → content (union_tree u) ≡ tagged u.type_id (content (raw_of (option_map (λ b. b.value) u.child)))
union-content u = ap content (union_tree-child u)

-- the parts from a place on
pub parts_length-at : (i : ℕ) (vs : List (Option ScalarValue)) (v : Option ScalarValue) → i < length vs → v ≡ get_or vs i v
    → length (keys (contents (value_trees (drop i vs)))) ≡ length (key (content (raw_of v))) + length (keys (contents (value_trees (drop (i + 1) vs))))
parts_length-at i vs v h is = rw (drop_more vs i v h, ← is) (length-append (key (content (raw_of v))) _)

pub ruleset shown = (value_tree-Tuple, value_tree-Union, value_tree-Variant, variant_tree-parts, union-content)
