-- Steps of a reader: what is left, byte by byte.
use Rattle.std.proofs.Common.{◌≡◌, ℕ, zero, suc, ◌-◌, ◌<◌, ◌≤◌, Bool, true, false, List, [], ◌∷◌, ◌++◌, length, drop, take, get_or, refl, sym, ap, ap₂, ◌∙◌, arith}
use Rattle.vortex_row.specs.Bytes.{inverted_byte}
use Rattle.vortex_row.specs.Held.{AreBytes}
use Rattle.vortex_row.specs.Keys.{inverted}
use Rattle.vortex_row.proofs.ByteLaws.{bytes_after, bytes_first, bytes_rest, inverted-bytes, inverted-length, no_bytes}
use Rattle.std.proofs.Math.Seq.{drop-nil}

pub inverted-first : (d : Bool) (b : ℕ) (bs : List ℕ) → inverted d (b ∷ bs) ≡ inverted_byte d b ∷ inverted d bs
inverted-first true b bs = refl
inverted-first false b bs = refl

pub inverted-none : (d : Bool) → inverted d [] ≡ []
inverted-none true = refl
inverted-none false = refl

pub drop-inverted : (d : Bool) (n : ℕ) (bs : List ℕ) → drop n (inverted d bs) ≡ inverted d (drop n bs)
drop-inverted false n bs = refl
drop-inverted true zero bs = refl
drop-inverted true (suc n) [] = refl
drop-inverted true (suc n) (b ∷ bs) = drop-inverted true n bs

-- the bytes up to an offset, and from it on

pub take-then : (n : ℕ) (xs : List ℕ) → xs ≡ take n xs ++ drop n xs
take-then zero xs = refl
take-then (suc n) [] = refl
take-then (suc n) (x ∷ xs) = ap (λ ys. x ∷ ys) (take-then n xs)

pub at-once : (n : ℕ) (xs : List ℕ) → n < length xs → drop n xs ≡ get_or xs n 0 ∷ drop (suc n) xs
at-once zero [] h = absurd (omega arith)
at-once zero (x ∷ xs) h = refl
at-once (suc n) [] h = absurd (omega arith)
at-once (suc n) (x ∷ xs) h = at-once n xs (omega arith)

pub take-more : (n : ℕ) (xs : List ℕ) → n < length xs → take (suc n) xs ≡ take n xs ++ get_or xs n 0 ∷ []
take-more zero [] h = absurd (omega arith)
take-more zero (x ∷ xs) h = refl
take-more (suc n) [] h = absurd (omega arith)
take-more (suc n) (x ∷ xs) h = ap (λ ys. x ∷ ys) (take-more n xs (omega arith))

pub take-past : (n : ℕ) (xs : List ℕ) → length xs ≤ n → take n xs ≡ xs
take-past zero [] h = refl
take-past zero (x ∷ xs) h = absurd (omega arith)
take-past (suc n) [] h = refl
take-past (suc n) (x ∷ xs) h = ap (λ ys. x ∷ ys) (take-past n xs (omega arith))

pub none-left : {A : Type 0} (i : ℕ) (xs : List A) → length xs ≤ i → drop i xs ≡ []
none-left i [] h = drop-nil i
none-left zero (x ∷ xs) h = absurd (omega arith)
none-left (suc i) (x ∷ xs) h = none-left i xs (omega arith)

pub take-length : (n : ℕ) (xs : List ℕ) → n ≤ length xs → length (take n xs) ≡ n
take-length zero xs h = refl
take-length (suc n) [] h = absurd (omega arith)
take-length (suc n) (x ∷ xs) h = ap suc (take-length n xs (omega arith))

pub take-bytes : (n : ℕ) (bs : List ℕ) → AreBytes bs → AreBytes (take n bs)
take-bytes zero bs h = no_bytes
take-bytes (suc n) [] h = no_bytes
take-bytes (suc n) (b ∷ bs) h = bytes_after b (take n bs) (bytes_first b bs h) (take-bytes n bs (bytes_rest b bs h))

pub inverted-at : (d : Bool) (i : ℕ) (bs : List ℕ) → i < length bs → get_or (inverted d bs) i 0 ≡ inverted_byte d (get_or bs i 0)
inverted-at false i bs h = refl
inverted-at true i [] h = absurd (omega arith)
inverted-at true zero (b ∷ bs) h = refl
inverted-at true (suc i) (b ∷ bs) h = inverted-at true i bs (omega arith)

pub inverted-append : (d : Bool) (xs ys : List ℕ) → inverted d (xs ++ ys) ≡ inverted d xs ++ inverted d ys
inverted-append false xs ys = refl
inverted-append true [] ys = refl
inverted-append true (x ∷ xs) ys = ap (λ zs. (255 - x) ∷ zs) (inverted-append true xs ys)

-- bytes that are inverted twice are as they were
pub inverted-back : (bs : List ℕ) → AreBytes bs → inverted true (inverted true bs) ≡ bs
inverted-back [] h = refl
inverted-back (b ∷ bs) h =
    let small = bytes_first b bs h in
    let e : 255 - (255 - b) ≡ b = omega arith in
    ap₂ (λ c cs. c ∷ cs) e (inverted-back bs (bytes_rest b bs h))

pub inverted-are_bytes : (d : Bool) (bs : List ℕ) → AreBytes bs → AreBytes (inverted d bs)
inverted-are_bytes false bs h = h
inverted-are_bytes true bs h = inverted-bytes bs

pub bytes-parts : (xs ys : List ℕ) → AreBytes (xs ++ ys) → AreBytes xs × AreBytes ys
bytes-parts [] ys h = (no_bytes, h)
bytes-parts (x ∷ xs) ys h =
    let rest = bytes-parts xs ys (bytes_rest x (xs ++ ys) h) in
    (bytes_after x xs (bytes_first x (xs ++ ys) h) rest.0, rest.1)

-- the first of the bytes
pub left-first : (d : Bool) (bs : List ℕ) (b : ℕ) → 1 ≤ length bs → b ≡ inverted_byte d (get_or bs 0 0) → (more : List ℕ) × (inverted d bs ≡ b ∷ more)
left-first d [] b h e = absurd (omega arith)
left-first d (x ∷ bs) b h e = (inverted d bs, inverted-first d x bs ∙ ap (λ c. c ∷ inverted d bs) (sym e))

-- what is left after the first byte
pub after-first : (old now : List ℕ) (b : ℕ) → (more : List ℕ) × (old ≡ b ∷ more) → now ≡ drop 1 old → old ≡ b ∷ now
after-first old now b h e = h.1 ∙ ap (λ xs. b ∷ xs) (sym (e ∙ ap (drop 1) h.1))

pub ruleset shown = (inverted-first, inverted-none, inverted-length, drop-inverted)
