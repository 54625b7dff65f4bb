-- A number from a word of eight bytes: its first bytes are what is left without the last ones.
use Rattle.std.proofs.Common.{◌≡◌, ℕ, zero, suc, ◌+◌, ◌-◌, ◌*◌, ◌/◌, ◌^◌, ◌<◌, ◌≤◌, inl, inr, Bool, true, false, List, [], ◌∷◌, ◌++◌, length, length-append, take, drop, get_or, refl, sym, subst, ap, ◌∙◌, arith}
use Rattle.std.specs.Int.{w64, from_be_bytes}
use Rattle.std.proofs.lemmas.Bool.{cases_lt}
use Rattle.std.proofs.lemmas.Nat.{be_bytes_8}
use Rattle.vortex_row.specs.Held.{AreBytes}
use Rattle.vortex_row.specs.Keys.{big_endian, inverted}
use Rattle.vortex_row.specs.Numbers.{HasMagnitude}
use Rattle.vortex_row.proofs.ByteLaws.{bytes_first, bytes_rest}
use Rattle.vortex_row.specs.Steps.{inverted_word}
use Rattle.vortex_row.proofs.EncodeSteps.{bytes-64, inverted-big_endian}
use Rattle.vortex_row.proofs.NumberLaws.{big_endian-bytes}
use Rattle.vortex_row.proofs.NumberReading.{worth, scaled, scaled-monotone, worth-append, worth-least, worth-big_endian, IsCanonical, scaled-to_limit, limit-from_scaled}
use Rattle.vortex_row.proofs.NumberSteps.{began-all, began-none}
use Rattle.vortex_row.proofs.ReaderSteps.{bytes-parts, take-bytes, take-length, take-then}

-- the word of the first eight bytes

take-eight : (bs : List ℕ) → 8 ≤ length bs → take 8 bs ≡ get_or bs 0 0 ∷ get_or bs 1 0 ∷ get_or bs 2 0 ∷ get_or bs 3 0 ∷ get_or bs 4 0 ∷ get_or bs 5 0 ∷ get_or bs 6 0 ∷ get_or bs 7 0 ∷ []
take-eight (a ∷ b ∷ c ∷ d ∷ e ∷ f ∷ g ∷ h ∷ bs) l = refl
take-eight (a ∷ b ∷ c ∷ d ∷ e ∷ f ∷ g ∷ []) l = absurd (omega arith)
take-eight (a ∷ b ∷ c ∷ d ∷ e ∷ f ∷ []) l = absurd (omega arith)
take-eight (a ∷ b ∷ c ∷ d ∷ e ∷ []) l = absurd (omega arith)
take-eight (a ∷ b ∷ c ∷ d ∷ []) l = absurd (omega arith)
take-eight (a ∷ b ∷ c ∷ []) l = absurd (omega arith)
take-eight (a ∷ b ∷ []) l = absurd (omega arith)
take-eight (a ∷ []) l = absurd (omega arith)
take-eight [] l = absurd (omega arith)

word-is : (bs : List ℕ) (word a b c d e f g h : ℕ) → AreBytes bs → take 8 bs ≡ a ∷ b ∷ c ∷ d ∷ e ∷ f ∷ g ∷ h ∷ [] → word ≡ from_be_bytes w64 (a ∷ b ∷ c ∷ d ∷ e ∷ f ∷ g ∷ h ∷ []) → take 8 bs ≡ big_endian 8 word
word-is bs word a b c d e f g h bytes eight is =
    eight ∙ sym (be_bytes_8 (a ∷ b ∷ c ∷ d ∷ e ∷ f ∷ g ∷ h ∷ []) word refl (subst AreBytes eight (take-bytes 8 bs bytes)) is) ∙ bytes-64 word

pub word-found : (bs : List ℕ) (word : ℕ) → AreBytes bs → 8 ≤ length bs
    → word ≡ from_be_bytes w64 (get_or bs 0 0 ∷ get_or bs 1 0 ∷ get_or bs 2 0 ∷ get_or bs 3 0 ∷ get_or bs 4 0 ∷ get_or bs 5 0 ∷ get_or bs 6 0 ∷ get_or bs 7 0 ∷ []) → (8 ≤ length bs) × (take 8 bs ≡ big_endian 8 word)
word-found bs word bytes long is = (long, word-is bs word _ _ _ _ _ _ _ _ bytes (take-eight bs long) is)

take-inverted : (n : ℕ) (bs : List ℕ) → take n (inverted true bs) ≡ inverted true (take n bs)
take-inverted zero bs = refl
take-inverted (suc n) [] = refl
take-inverted (suc n) (b ∷ bs) = ap (λ xs. (255 - b) ∷ xs) (take-inverted n bs)

-- the word, inverted or not
pub word-inverted : (d : Bool) (bs : List ℕ) (word turned : ℕ) → word < 2 ^ 64 → take 8 bs ≡ big_endian 8 word → turned ≡ inverted_word d word → take 8 (inverted d bs) ≡ big_endian 8 turned
word-inverted false bs word turned h e is = e ∙ ap (big_endian 8) (sym is)
word-inverted true bs word turned h e is =
    let same : 256 ^ 8 - 1 - word ≡ turned = omega arith in
    take-inverted 8 bs ∙ ap (inverted true) e ∙ sym (inverted-big_endian 8 word (omega arith)) ∙ ap (big_endian 8) same

-- the first bytes of a word

pub worth-most : (n : ℕ) (bs : List ℕ) → AreBytes bs → worth n bs < scaled (length bs) (n + 1)
worth-most n [] h = omega arith
worth-most n (b ∷ bs) h =
    let small = bytes_first b bs h in
    let rest = worth-most (n * 256 + b) bs (bytes_rest b bs h) in
    let more = scaled-monotone (length bs) (n * 256 + b + 1) ((n + 1) * 256) (omega arith) in
    omega arith

-- a number without its last bytes is that of the first ones
worth-front : (xs ys : List ℕ) (whole : ℕ) → AreBytes (xs ++ ys) → length ys ≤ 7 → whole ≡ worth 0 (xs ++ ys) → whole / 2 ^ (8 * length ys) ≡ worth 0 xs
worth-front xs ys whole h few is =
    let low = worth-least (worth 0 xs) ys in
    let high = worth-most (worth 0 xs) ys (bytes-parts xs ys h).1 in
    let all : whole ≡ worth (worth 0 xs) ys = is ∙ worth-append 0 xs ys in
    let least = limit-from_scaled (length ys) (worth 0 xs) whole few (omega arith) in
    no_more (scaled-to_limit (length ys) (worth 0 xs + 1) whole few) (omega arith) least
  where
    no_more : (worth 0 xs + 1 ≤ whole / 2 ^ (8 * length ys) → scaled (length ys) (worth 0 xs + 1) ≤ whole) → whole < scaled (length ys) (worth 0 xs + 1) → worth 0 xs ≤ whole / 2 ^ (8 * length ys)
        → whole / 2 ^ (8 * length ys) ≡ worth 0 xs
    no_more up below least = elim (cases_lt (worth 0 xs) (whole / 2 ^ (8 * length ys))) [ inl more ↦ let large = up (omega arith) in absurd (omega arith) | inr same ↦ omega arith ]

some-first : (k n : ℕ) (xs : List ℕ) → k ≤ 7 → AreBytes xs → length xs ≡ suc k → n ≡ worth 0 xs → 0 < n / 2 ^ (8 * k) → IsCanonical xs
some-first k n [] few h count is some = absurd (omega arith)
some-first k n (zero ∷ xs) few h count is some =
    let long : length xs ≡ k = omega arith in
    let least = scaled-to_limit k 1 n few (omega arith) in
    let most : worth 0 xs < scaled k (0 + 1) = subst (λ j. worth 0 xs < scaled j (0 + 1)) long (worth-most 0 xs (bytes_rest zero xs h)) in
    absurd (omega arith)
some-first k n (suc x ∷ xs) few h count is some = refl

pub word-magnitude : (width limit : ℕ) (xs : List ℕ) (word number : ℕ) → 0 < width → width ≤ 8 → 8 ≤ length xs → word < 2 ^ 64 → take 8 xs ≡ big_endian 8 word → number ≡ word / 2 ^ (8 * (8 - width)) → number ≤ limit
    → 0 < number / 2 ^ (8 * (width - 1)) → HasMagnitude width limit xs number
word-magnitude width limit xs word number some eight long fits is front small first =
    let start = take width xs in
    let rest = drop width (take 8 xs) in
    let count = take-length width xs (omega arith) in
    let all : take 8 xs ≡ start ++ rest = take-then width (take 8 xs) ∙ ap (λ ys. ys ++ rest) (take-twice width 8 xs eight) in
    let bytes : AreBytes (start ++ rest) = subst AreBytes (sym is ∙ all) (big_endian-bytes 8 word) in
    let parts = length-append start rest in
    let whole = ap length all in
    let eight_there = take-length 8 xs long in
    let left : length rest ≡ 8 - width = omega arith in
    let value : word ≡ worth 0 (start ++ rest) = sym (worth-big_endian 8 word (omega arith)) ∙ ap (worth 0) (sym is ∙ all) in
    let number_is : number ≡ worth 0 start = front ∙ ap (λ n. word / 2 ^ (8 * n)) (sym left) ∙ worth-front start rest word bytes (omega arith) value in
    let none : 0 ≡ width - width = omega arith in
    began-all width limit xs number (record {
      there = omega arith;
      bytes = (bytes-parts start rest bytes).0;
      is = number_is;
      canonical = some-first (width - 1) number start (omega arith) (bytes-parts start rest bytes).0 (omega arith) number_is first;
      small = subst (λ k. scaled k number ≤ limit) none small;
    }) eight
  where
    take-twice : (m n : ℕ) (ys : List ℕ) → m ≤ n → take m (take n ys) ≡ take m ys
    take-twice zero n ys h = refl
    take-twice (suc m) zero ys h = absurd (omega arith)
    take-twice (suc m) (suc n) [] h = refl
    take-twice (suc m) (suc n) (y ∷ ys) h = ap (λ zs. y ∷ zs) (take-twice m n ys (omega arith))

-- no bytes are 0
pub zero-magnitude : (limit : ℕ) (xs : List ℕ) → HasMagnitude 0 limit xs 0
zero-magnitude limit xs = began-all 0 limit xs 0 (began-none 0 limit xs) (omega arith)
