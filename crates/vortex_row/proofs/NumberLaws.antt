-- The keys of numbers keep their order: how many bytes there are goes first, and then the bytes.
use Rattle.std.proofs.Common.{◌≡◌, ℕ, zero, suc, ℤ, pos, negsuc, ◌+◌, ◌-◌, ◌^◌, ◌/◌, ◌%◌, ◌<◌, ◌≤◌, inl, inr, List, [], ◌∷◌, ◌++◌, length, length-append, Ordering, Less, Equal, Greater, true, nat_cmp, int_cmp, refl, sym, ap, arith, subst}
use Rattle.std.specs.Ordering.{ordering_then}
use Rattle.std.proofs.lemmas.Bool.Decides.{nat_tests}
use Rattle.vortex_row.specs.Held.{AreBytes, IsWhole}
use Rattle.vortex_row.specs.Keys.{inverted, big_endian, without_leading_zeros, number_bytes, upward_key, downward_key, whole_key}
use Rattle.vortex_row.specs.Places.{IsBelow, OrderedAs}
use Rattle.vortex_row.proofs.ByteLaws.{no_bytes, bytes_rest, bytes_after, bytes_then, inverted-below, inverted-bytes}
use Rattle.vortex_row.proofs.PlaceLaws.{byte-ordered, ordered-then}

-- the order of numbers is that of all but the last byte, and else of the last
by_last : (m n : ℕ) → nat_cmp m n ≡ ordering_then (nat_cmp (m / 256) (n / 256)) (nat_cmp (m % 256) (n % 256))
by_last m n = grind (arith, nat_tests)

smaller : (k n : ℕ) → n < 256 ^ suc k → n / 256 < 256 ^ k
smaller k n h = omega arith

big_endian-ordered : (k m n : ℕ) → m < 256 ^ k → n < 256 ^ k → OrderedAs (nat_cmp m n) (big_endian k m) (big_endian k n)
big_endian-ordered zero m n p q =
    let e : nat_cmp m n ≡ Equal = grind (arith, nat_tests) in
    rw e refl
big_endian-ordered (suc k) m n p q =
    rw (by_last m n) (ordered-then (nat_cmp (m / 256) (n / 256)) (nat_cmp (m % 256) (n % 256)) _ _ _ _
    (big_endian-ordered k (m / 256) (n / 256) (smaller k m p) (smaller k n q)) (byte-ordered (m % 256) (n % 256)))

-- how many bytes there are, and that they are bytes

pub big_endian-bytes : (k n : ℕ) → AreBytes (big_endian k n)
big_endian-bytes zero n = no_bytes
big_endian-bytes (suc k) n = bytes_then (big_endian k (n / 256)) (n % 256 ∷ []) (big_endian-bytes k (n / 256)) (bytes_after (n % 256) [] (omega arith) no_bytes)

pub big_endian-length : (k n : ℕ) → length (big_endian k n) ≡ k
big_endian-length zero n = refl
big_endian-length (suc k) n =
    let rest = big_endian-length k (n / 256) in
    let e : length (big_endian k (n / 256) ++ (n % 256) ∷ []) ≡ length (big_endian k (n / 256)) + 1 = length-append (big_endian k (n / 256)) ((n % 256) ∷ []) in
    omega arith

without_zeros-bytes : (bs : List ℕ) → AreBytes bs → AreBytes (without_leading_zeros bs)
without_zeros-bytes [] h = h
without_zeros-bytes (zero ∷ bs) h = without_zeros-bytes bs (bytes_rest 0 bs h)
without_zeros-bytes (suc b ∷ bs) h = h

pub without_zeros-length : (bs : List ℕ) → length (without_leading_zeros bs) ≤ length bs
without_zeros-length [] = omega arith
without_zeros-length (zero ∷ bs) = let rest = without_zeros-length bs in omega arith
without_zeros-length (suc b ∷ bs) = omega arith

pub number-bytes : (n : ℕ) → AreBytes (number_bytes n)
number-bytes n = without_zeros-bytes (big_endian 8 n) (big_endian-bytes 8 n)

pub number-length : (n : ℕ) → length (number_bytes n) ≤ 8
number-length n = let a = without_zeros-length (big_endian 8 n) in let b = big_endian-length 8 n in omega arith

pub whole-bytes : (z : ℤ) → AreBytes (whole_key z)
whole-bytes (pos n) = let short = number-length n in bytes_after (12 + length (number_bytes n)) (number_bytes n) (omega arith) (number-bytes n)
whole-bytes (negsuc n) = bytes_after (12 - length (number_bytes (suc n))) (inverted true (number_bytes (suc n))) (omega arith) (inverted-bytes (number_bytes (suc n)))

-- their order

abbrev counted : List ℕ → List ℕ
counted bs = length bs ∷ bs

-- of two that are as long, the one below has fewer bytes after its zeros, or as many that are below
without_zeros-below : (xs ys : List ℕ) → length xs ≡ length ys → IsBelow xs ys → IsBelow (counted (without_leading_zeros xs)) (counted (without_leading_zeros ys))
without_zeros-below [] ys e h = absurd h
without_zeros-below (x ∷ xs) [] e h = absurd h
without_zeros-below (zero ∷ xs) (zero ∷ ys) e h = elim h [ inl less ↦ absurd (omega arith) | inr both ↦ without_zeros-below xs ys (omega arith) both.1 ]
without_zeros-below (zero ∷ xs) (suc y ∷ ys) e h = let short = without_zeros-length xs in inl (omega arith)
without_zeros-below (suc x ∷ xs) (zero ∷ ys) e h = elim h [ inl less ↦ absurd (omega arith) | inr both ↦ absurd (omega arith) ]
without_zeros-below (suc x ∷ xs) (suc y ∷ ys) e h = inr (e, h)

upward-below : (xs ys : List ℕ) → IsBelow (counted xs) (counted ys) → IsBelow (upward_key xs) (upward_key ys)
upward-below xs ys h = elim h [ inl less ↦ inl (omega arith) | inr both ↦ inr (ap (λ n. 12 + n) both.0, both.1) ]

downward-below : (xs ys : List ℕ) → AreBytes ys → length ys ≤ 8 → IsBelow (counted xs) (counted ys) → IsBelow (downward_key ys) (downward_key xs)
downward-below xs ys b l h = elim h [ inl less ↦ inl (omega arith) | inr both ↦ inr (ap (λ n. 12 - n) (sym both.0), inverted-below xs ys b both.1) ]

same-length : (m n : ℕ) → length (big_endian 8 m) ≡ length (big_endian 8 n)
same-length m n = let a = big_endian-length 8 m in let b = big_endian-length 8 n in omega arith

number-below : (m n : ℕ) → IsBelow (big_endian 8 m) (big_endian 8 n) → IsBelow (counted (number_bytes m)) (counted (number_bytes n))
number-below m n h = without_zeros-below (big_endian 8 m) (big_endian 8 n) (same-length m n) h

upward-ordered : (o : Ordering) (m n : ℕ) → OrderedAs o (big_endian 8 m) (big_endian 8 n) → OrderedAs o (upward_key (number_bytes m)) (upward_key (number_bytes n))
upward-ordered Less m n h = upward-below (number_bytes m) (number_bytes n) (number-below m n h)
upward-ordered Equal m n h = ap (λ bs. upward_key (without_leading_zeros bs)) h
upward-ordered Greater m n h = upward-below (number_bytes n) (number_bytes m) (number-below n m h)

downward-ordered : (o : Ordering) (m n : ℕ) → OrderedAs o (big_endian 8 m) (big_endian 8 n) → OrderedAs o (downward_key (number_bytes n)) (downward_key (number_bytes m))
downward-ordered Less m n h = downward-below (number_bytes m) (number_bytes n) (number-bytes n) (number-length n) (number-below m n h)
downward-ordered Equal m n h = ap (λ bs. downward_key (without_leading_zeros bs)) (sym h)
downward-ordered Greater m n h = downward-below (number_bytes n) (number_bytes m) (number-bytes m) (number-length m) (number-below n m h)

-- a number above 0 has bytes
some-after : (bs : List ℕ) → IsBelow (0 ∷ []) (counted bs) → 0 < length bs
some-after bs h = elim h [ inl less ↦ less | inr both ↦ absurd both.1 ]

pub number-some : (n : ℕ) → suc n < 2 ^ 64 → 0 < length (number_bytes (suc n))
number-some n h =
    let e : nat_cmp 0 (suc n) ≡ Less = grind (arith, nat_tests) in
    let d : IsBelow (big_endian 8 0) (big_endian 8 (suc n)) = subst (λ o. OrderedAs o (big_endian 8 0) (big_endian 8 (suc n))) e (big_endian-ordered 8 0 (suc n) (omega arith) (omega arith)) in
    some-after (number_bytes (suc n)) (number-below 0 (suc n) d)

sides : (m n : ℕ) → suc n < 2 ^ 64 → IsBelow (downward_key (number_bytes (suc n))) (upward_key (number_bytes m))
sides m n h = let some = number-some n h in let few = number-length (suc n) in inl (omega arith)

pub whole-ordered : (y z : ℤ) → IsWhole y → IsWhole z → OrderedAs (int_cmp y z) (whole_key y) (whole_key z)
whole-ordered (pos m) (pos n) p q =
    let e : int_cmp (pos m) (pos n) ≡ nat_cmp m n = grind (arith, nat_tests) in
    rw e (upward-ordered (nat_cmp m n) m n (big_endian-ordered 8 m n (omega arith) (omega arith)))
whole-ordered (pos m) (negsuc n) p q = sides m n (omega arith)
whole-ordered (negsuc m) (pos n) p q = sides n m (omega arith)
whole-ordered (negsuc m) (negsuc n) p q =
    let e : int_cmp (negsuc m) (negsuc n) ≡ nat_cmp (suc n) (suc m) = grind (arith, nat_tests) in
    rw e (downward-ordered (nat_cmp (suc n) (suc m)) (suc n) (suc m) (big_endian-ordered 8 (suc n) (suc m) (omega arith) (omega arith)))
