-- Counts as eight bytes.
use Rattle.std.proofs.Common.{◌≡◌, ℕ, zero, suc, ◌+◌, ◌*◌, ◌/◌, ◌%◌, ◌^◌, ◌<◌, ◌≤◌, List, [], ◌∷◌, ◌++◌, length, length-append, get_or, drop, refl, sym, subst, ap, ap₂, ◌∙◌, arith}
use Rattle.std.proofs.Math.Nat.{div-div-eq-div-mul}
use Rattle.std.proofs.lemmas.List.{append-nil, append_assoc}
use Rattle.std.specs.Int.{w64, bytes_high_first, byte_at, from_be_bytes, to_be_bytes}
use Rattle.std.proofs.lemmas.Nat.{be_bytes_8, from_be_bytes-to_be_bytes_8}
use Rattle.vortex_row.specs.Held.{AreBytes}
use Rattle.vortex_row.specs.Keys.{big_endian}

-- ---- the bytes that std writes and reads

byte_higher : (k n : ℕ) → byte_at (suc k) n ≡ byte_at k (n / 256)
byte_higher zero n = refl
byte_higher (suc k) n =
    let e : 256 * 256 ^ suc k ≡ 256 ^ suc (suc k) = omega arith in
    let f : n / 256 ^ suc (suc k) ≡ n / 256 / 256 ^ suc k = sym (div-div-eq-div-mul n 256 (256 ^ suc k) ∙ ap (λ m. n / m) e) in
    ap (λ m. m % 256) f

last_byte : (k n : ℕ) → bytes_high_first (suc k) n ≡ bytes_high_first k (n / 256) ++ (n % 256) ∷ []
last_byte zero n = refl
last_byte (suc k) n = ap₂ (λ b bs. b ∷ bs) (byte_higher k n) (last_byte k n)

bytes-big_endian : (k n : ℕ) → bytes_high_first k n ≡ big_endian k n
bytes-big_endian zero n = refl
bytes-big_endian (suc k) n = last_byte k n ∙ ap (λ bs. bs ++ (n % 256) ∷ []) (bytes-big_endian k (n / 256))

pub written_count : (n : ℕ) → to_be_bytes w64 n ≡ big_endian 8 n
written_count n = bytes-big_endian 8 n

pub big_endian-length : (k n : ℕ) → length (big_endian k n) ≡ k
big_endian-length zero n = refl
big_endian-length (suc k) n =
    let rest = big_endian-length k (n / 256) in
    let e : length (big_endian k (n / 256) ++ (n % 256) ∷ []) ≡ length (big_endian k (n / 256)) + 1 = length-append (big_endian k (n / 256)) ((n % 256) ∷ []) in
    omega arith

-- two counts with the same bytes are one
pub counts-apart : (m n : ℕ) → m < 2 ^ 64 → n < 2 ^ 64 → big_endian 8 m ≡ big_endian 8 n → m ≡ n
counts-apart m n f g e =
    sym (from_be_bytes-to_be_bytes_8 m f) ∙ ap (from_be_bytes w64) (written_count m ∙ e ∙ sym (written_count n)) ∙ from_be_bytes-to_be_bytes_8 n g

-- ---- bytes that are read

eight_first : (bs : List ℕ) → 8 ≤ length bs → bs ≡ (get_or bs 0 0 ∷ get_or bs 1 0 ∷ get_or bs 2 0 ∷ get_or bs 3 0 ∷ get_or bs 4 0 ∷ get_or bs 5 0 ∷ get_or bs 6 0 ∷ get_or bs 7 0 ∷ []) ++ drop 8 bs
eight_first (a ∷ b ∷ c ∷ d ∷ e ∷ f ∷ g ∷ h ∷ bs) l = refl
eight_first (a ∷ b ∷ c ∷ d ∷ e ∷ f ∷ g ∷ []) l = absurd (omega arith)
eight_first (a ∷ b ∷ c ∷ d ∷ e ∷ f ∷ []) l = absurd (omega arith)
eight_first (a ∷ b ∷ c ∷ d ∷ e ∷ []) l = absurd (omega arith)
eight_first (a ∷ b ∷ c ∷ d ∷ []) l = absurd (omega arith)
eight_first (a ∷ b ∷ c ∷ []) l = absurd (omega arith)
eight_first (a ∷ b ∷ []) l = absurd (omega arith)
eight_first (a ∷ []) l = absurd (omega arith)
eight_first [] l = absurd (omega arith)

pub count_read : (bs : List ℕ) (n : ℕ) → AreBytes bs → 8 ≤ length bs
    → n ≡ from_be_bytes w64 (get_or bs 0 0 ∷ get_or bs 1 0 ∷ get_or bs 2 0 ∷ get_or bs 3 0 ∷ get_or bs 4 0 ∷ get_or bs 5 0 ∷ get_or bs 6 0 ∷ get_or bs 7 0 ∷ []) → bs ≡ big_endian 8 n ++ drop 8 bs
count_read bs n bytes long is =
    eight_first bs long ∙ ap (λ xs. xs ++ drop 8 bs) (sym (be_bytes_8 (get_or bs 0 0 ∷ get_or bs 1 0 ∷ get_or bs 2 0 ∷ get_or bs 3 0 ∷ get_or bs 4 0 ∷ get_or bs 5 0 ∷ get_or bs 6 0 ∷ get_or bs 7 0 ∷ []) n refl (first_bytes bs bytes) is) ∙ written_count n)
  where
    first_bytes : (xs : List ℕ) → AreBytes xs → AreBytes (get_or xs 0 0 ∷ get_or xs 1 0 ∷ get_or xs 2 0 ∷ get_or xs 3 0 ∷ get_or xs 4 0 ∷ get_or xs 5 0 ∷ get_or xs 6 0 ∷ get_or xs 7 0 ∷ [])
    first_bytes xs h zero = h 0
    first_bytes xs h (suc zero) = h 1
    first_bytes xs h (suc (suc zero)) = h 2
    first_bytes xs h (suc (suc (suc zero))) = h 3
    first_bytes xs h (suc (suc (suc (suc zero)))) = h 4
    first_bytes xs h (suc (suc (suc (suc (suc zero))))) = h 5
    first_bytes xs h (suc (suc (suc (suc (suc (suc zero)))))) = h 6
    first_bytes xs h (suc (suc (suc (suc (suc (suc (suc zero))))))) = h 7
    first_bytes xs h (suc (suc (suc (suc (suc (suc (suc (suc k)))))))) = omega arith

pub ruleset counted = (count_read, written_count)

-- ---- counts that begin with some bytes

-- the number that goes on so
pub goes_on : (j n : ℕ) (cs : List ℕ) → AreBytes cs → n < 256 ^ j → (m : ℕ) × (m < 256 ^ (j + length cs)) × (big_endian (j + length cs) m ≡ big_endian j n ++ cs)
goes_on j n [] h small = let e : j ≡ j + 0 = omega arith in (n, subst (λ k. n < 256 ^ k) e small, ap (λ k. big_endian k n) (sym e) ∙ sym (append-nil (big_endian j n)))
goes_on j n (c ∷ cs) h small =
    let first : c < 256 = h 0 in
    let high : (n * 256 + c) / 256 ≡ n = omega arith in
    let low : (n * 256 + c) % 256 ≡ c = omega arith in
    let e : suc j + length cs ≡ j + suc (length cs) = omega arith in
    let fits : n * 256 + c < 256 ^ suc j = omega arith in
    let w = goes_on (suc j) (n * 256 + c) cs (λ k. h (suc k)) fits in
    (w.0, subst (λ k. w.0 < 256 ^ k) e w.1, ap (λ k. big_endian k w.0) (sym e) ∙ w.2 ∙ ap₂ (λ m b. (big_endian j m ++ b ∷ []) ++ cs) high low ∙ append_assoc (big_endian j n) (c ∷ []) cs)

-- eight bytes are those of a count
pub some_count : (cs : List ℕ) → AreBytes cs → length cs ≡ 8 → (n : ℕ) × (n < 2 ^ 64) × (cs ≡ big_endian 8 n)
some_count cs h long =
    let w = goes_on 0 0 cs h (omega arith) in
    let e : 0 + length cs ≡ 8 = omega arith in
    let small : w.0 < 256 ^ 8 = subst (λ k. w.0 < 256 ^ k) e w.1 in
    (w.0, omega arith, sym w.2 ∙ ap (λ k. big_endian k w.0) e)
