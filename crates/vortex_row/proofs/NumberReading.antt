-- The number that bytes are, the highest first, and how far its first bytes say what it is.
use Rattle.std.proofs.Common.{◌≡◌, ◌≢◌, ℕ, zero, suc, ◌+◌, ◌-◌, ◌*◌, ◌/◌, ◌%◌, ◌^◌, ◌<◌, ◌≤◌, List, [], ◌∷◌, ◌++◌, length, refl, sym, ap, ap₂, ◌∙◌, append_assoc, append-nil, arith}
use Rattle.vortex_row.specs.Held.{AreBytes}
use Rattle.vortex_row.specs.Keys.{big_endian, without_leading_zeros, number_bytes}
use Rattle.vortex_row.proofs.ByteLaws.{no_bytes, bytes_first, bytes_rest, bytes_after}
use Rattle.vortex_row.proofs.NumberLaws.{without_zeros-length}

-- the number that these bytes are, after one that was read
abbrev pub worth : ℕ → List ℕ → ℕ
worth n [] = n
worth n (b ∷ bs) = worth (n * 256 + b) bs

-- the number with so many bytes 0 after it
abbrev pub scaled : ℕ → ℕ → ℕ
scaled zero n = n
scaled (suc k) n = scaled k (n * 256)

abbrev pub zeros : ℕ → List ℕ
zeros zero = []
zeros (suc k) = 0 ∷ zeros k

pub worth-append : (n : ℕ) (xs ys : List ℕ) → worth n (xs ++ ys) ≡ worth (worth n xs) ys
worth-append n [] ys = refl
worth-append n (x ∷ xs) ys = worth-append (n * 256 + x) xs ys

pub scaled-monotone : (k m n : ℕ) → m ≤ n → scaled k m ≤ scaled k n
scaled-monotone zero m n h = h
scaled-monotone (suc k) m n h = scaled-monotone k (m * 256) (n * 256) (omega arith)

pub scaled-least : (k n : ℕ) → n ≤ scaled k n
scaled-least zero n = omega arith
scaled-least (suc k) n = let rest = scaled-least k (n * 256) in omega arith

pub worth-least : (n : ℕ) (bs : List ℕ) → scaled (length bs) n ≤ worth n bs
worth-least n [] = omega arith
worth-least n (b ∷ bs) =
    let more = scaled-monotone (length bs) (n * 256) (n * 256 + b) (omega arith) in
    let rest = worth-least (n * 256 + b) bs in
    omega arith

pub worth-zeros : (k n : ℕ) → worth n (zeros k) ≡ scaled k n
worth-zeros zero n = refl
worth-zeros (suc k) n = let e : n * 256 + 0 ≡ n * 256 = omega arith in ap (λ m. worth m (zeros k)) e ∙ worth-zeros k (n * 256)

pub zeros-length : (k : ℕ) → length (zeros k) ≡ k
zeros-length zero = refl
zeros-length (suc k) = ap suc (zeros-length k)

pub zeros-bytes : (k : ℕ) → AreBytes (zeros k)
zeros-bytes zero = no_bytes
zeros-bytes (suc k) = bytes_after 0 (zeros k) (omega arith) (zeros-bytes k)

-- the bytes of a number are it

pub worth-big_endian : (k n : ℕ) → n < 256 ^ k → worth 0 (big_endian k n) ≡ n
worth-big_endian zero n h = omega arith
worth-big_endian (suc k) n h =
    let rest = worth-big_endian k (n / 256) (omega arith) in
    let e = worth-append 0 (big_endian k (n / 256)) (n % 256 ∷ []) in
    omega arith

worth-without_zeros : (bs : List ℕ) → worth 0 (without_leading_zeros bs) ≡ worth 0 bs
worth-without_zeros [] = refl
worth-without_zeros (zero ∷ bs) = worth-without_zeros bs
worth-without_zeros (suc b ∷ bs) = refl

pub worth-number : (n : ℕ) → n < 2 ^ 64 → worth 0 (number_bytes n) ≡ n
worth-number n h = worth-without_zeros (big_endian 8 n) ∙ worth-big_endian 8 n (omega arith)

-- and the bytes of the number that bytes are, are these, if they do not begin with 0

big_endian-worth : (j n : ℕ) (bs : List ℕ) → AreBytes bs → big_endian (j + length bs) (worth n bs) ≡ big_endian j n ++ bs
big_endian-worth j n [] h = let e : j + 0 ≡ j = omega arith in ap (λ i. big_endian i n) e ∙ sym (append-nil (big_endian j n))
big_endian-worth j n (b ∷ bs) h =
    let small = bytes_first b bs h in
    let e : j + suc (length bs) ≡ suc j + length bs = omega arith in
    let high : (n * 256 + b) / 256 ≡ n = omega arith in
    let low : (n * 256 + b) % 256 ≡ b = omega arith in
    ap (λ i. big_endian i (worth (n * 256 + b) bs)) e ∙ big_endian-worth (suc j) (n * 256 + b) bs (bytes_rest b bs h)
    ∙ append_assoc (big_endian j ((n * 256 + b) / 256)) ((n * 256 + b) % 256 ∷ []) bs ∙ ap₂ (λ m c. big_endian j m ++ c ∷ bs) high low

front-zeros : (j : ℕ) (bs : List ℕ) → without_leading_zeros (big_endian j 0 ++ bs) ≡ without_leading_zeros bs
front-zeros zero bs = refl
front-zeros (suc j) bs = ap without_leading_zeros (append_assoc (big_endian j (0 / 256)) (0 % 256 ∷ []) bs) ∙ front-zeros j (0 ∷ bs)

-- bytes that do not begin with 0
abbrev pub IsCanonical : List ℕ → Type 0
IsCanonical bs = without_leading_zeros bs ≡ bs

pub number-of-bytes : (bs : List ℕ) → IsCanonical bs → AreBytes bs → length bs ≤ 8 → number_bytes (worth 0 bs) ≡ bs
number-of-bytes bs c h l =
    let e : 8 ≡ (8 - length bs) + length bs = omega arith in
    ap (λ k. without_leading_zeros (big_endian k (worth 0 bs))) e ∙ ap without_leading_zeros (big_endian-worth (8 - length bs) 0 bs h) ∙ front-zeros (8 - length bs) bs ∙ c

pub canonical-first : (b : ℕ) (bs : List ℕ) → IsCanonical (b ∷ bs) → 0 < b
canonical-first zero bs c = let short = without_zeros-length bs in let same = ap length c in absurd (omega arith)
canonical-first (suc b) bs c = omega arith

pub canonical-from : (b : ℕ) (bs : List ℕ) → 0 < b → IsCanonical (b ∷ bs)
canonical-from zero bs h = absurd (omega arith)
canonical-from (suc b) bs h = refl

pub canonical-more : (bs cs : List ℕ) → bs ≢ [] → IsCanonical bs → IsCanonical (bs ++ cs)
canonical-more [] cs h c = absurd (h refl)
canonical-more (b ∷ bs) cs h c = canonical-from b (bs ++ cs) (canonical-first b bs c)

pub canonical-number : (bs : List ℕ) → IsCanonical (without_leading_zeros bs)
canonical-number [] = refl
canonical-number (zero ∷ bs) = canonical-number bs
canonical-number (suc b ∷ bs) = refl

pub canonical-worth : (b : ℕ) (bs : List ℕ) → IsCanonical (b ∷ bs) → 0 < worth 0 (b ∷ bs)
canonical-worth b bs c =
    let first = canonical-first b bs c in
    let low = worth-least (0 * 256 + b) bs in
    let least = scaled-least (length bs) (0 * 256 + b) in
    omega arith

-- a shorter string that begins as a longer one does, is its beginning
pub record Longer (xs ys zs rest : List ℕ) : Type 0 where
  pub next : ℕ
  pub more : List ℕ
  pub whole : ys ≡ xs ++ next ∷ more
  pub after : zs ≡ next ∷ more ++ rest

pub longer : (xs ys zs rest : List ℕ) → xs ++ zs ≡ ys ++ rest → length xs < length ys → Longer xs ys zs rest
longer [] [] zs rest e h = absurd (omega arith)
longer [] (y ∷ ys) zs rest e h = record { next = y; more = ys; whole = refl; after = e }
longer (x ∷ xs) [] zs rest e h = absurd (omega arith)
longer (x ∷ xs) (y ∷ ys) zs rest e h =
    let first : x ≡ y = cc in
    let r = longer xs ys zs rest (cc) (omega arith) in
    record { next = r.next; more = r.more; whole = ap₂ (λ b bs. b ∷ bs) (sym first) r.whole; after = r.after }

-- a number is up to a limit with its zeros, if it is up to the limit without so many of its last bytes
pub scaled-to_limit : (k n limit : ℕ) → k ≤ 7 → n ≤ limit / 2 ^ (8 * k) → scaled k n ≤ limit
scaled-to_limit zero n limit h e = omega arith
scaled-to_limit (suc zero) n limit h e = omega arith
scaled-to_limit (suc (suc zero)) n limit h e = omega arith
scaled-to_limit (suc (suc (suc zero))) n limit h e = omega arith
scaled-to_limit (suc (suc (suc (suc zero)))) n limit h e = omega arith
scaled-to_limit (suc (suc (suc (suc (suc zero))))) n limit h e = omega arith
scaled-to_limit (suc (suc (suc (suc (suc (suc zero)))))) n limit h e = omega arith
scaled-to_limit (suc (suc (suc (suc (suc (suc (suc zero))))))) n limit h e = omega arith
scaled-to_limit (suc (suc (suc (suc (suc (suc (suc (suc k)))))))) n limit h e = absurd (omega arith)

pub limit-from_scaled : (k n limit : ℕ) → k ≤ 7 → scaled k n ≤ limit → n ≤ limit / 2 ^ (8 * k)
limit-from_scaled zero n limit h e = omega arith
limit-from_scaled (suc zero) n limit h e = omega arith
limit-from_scaled (suc (suc zero)) n limit h e = omega arith
limit-from_scaled (suc (suc (suc zero))) n limit h e = omega arith
limit-from_scaled (suc (suc (suc (suc zero)))) n limit h e = omega arith
limit-from_scaled (suc (suc (suc (suc (suc zero))))) n limit h e = omega arith
limit-from_scaled (suc (suc (suc (suc (suc (suc zero)))))) n limit h e = omega arith
limit-from_scaled (suc (suc (suc (suc (suc (suc (suc zero))))))) n limit h e = omega arith
limit-from_scaled (suc (suc (suc (suc (suc (suc (suc (suc k)))))))) n limit h e = absurd (omega arith)
