-- What an encoding says is read from it.
use Rattle.std.proofs.Common.{◌≡◌, ◌+◌, ◌*◌, ◌-◌, ◌/◌, ◌%◌, ◌^◌, ◌<◌, ◌≤◌, ℕ, ℤ, pos, negsuc, zero, suc, List, [], ◌∷◌, ◌++◌, Bool, true, false, if◌then◌else◌, Option, None, Some, IfSome, refl, sym, ap, ap₂, ◌∙◌, length, take, drop, arith, append-nil, take_at, drop_at}
use Rattle.std.proofs.lemmas.Bool.{le-ltb, lt-ltb, ne_eqb}
use Rattle.vortex_dtype.specs.TypeTree.{TypeTree}
use Rattle.vortex_row.specs.Held.{AreBytes, IsWhole}
use Rattle.vortex_row.specs.Keys.{big_endian, escaped, inverted, key, number_bytes, whole_key}
use Rattle.vortex_row.proofs.ByteLaws.{bytes_first, bytes_rest, inverted-length}
use Rattle.vortex_row.proofs.NumberLaws.{big_endian-length, number-bytes, number-length, number-some}
use Rattle.vortex_row.proofs.NumberReading.{worth, worth-big_endian, worth-number}
use Rattle.statistics_bytes.specs.Encoding.{bound_bytes, bound_flags, count_bytes, count_flag, flags, encoding, known_count_bytes}
use Rattle.vortex_statistics.specs.Statistics.{Known, KnownBound}
use Rattle.vortex_value.specs.Values.Content.{Content, null, string, text, whole}
use Rattle.record_search.specs.Decoding.{bound_in, byte_before, content_in, count_in, number_after, said_by, unescaped}

-- ---- numbers

number_is : (n : ℕ) (bs : List ℕ) → number_after n bs ≡ worth n bs
number_is n [] = refl
number_is n (b ∷ bs) = number_is (n * 256 + b) bs

inverted_twice : (bs : List ℕ) → AreBytes bs → inverted true (inverted true bs) ≡ bs
inverted_twice [] h = refl
inverted_twice (b ∷ bs) h =
    let first = bytes_first b bs h in
    let back : 255 - (255 - b) ≡ b = omega arith in
    ap₂ (λ (x : ℕ) (xs : List ℕ). x ∷ xs) back (inverted_twice bs (bytes_rest b bs h))

above : (b k n : ℕ) (bs ys : List ℕ) → b ≡ 12 + k → k ≤ 8 → length bs ≡ k → number_after 0 bs ≡ n → content_in (b ∷ (bs ++ ys)) ≡ (whole (pos n), ys)
above b k n bs ys is few long number =
    let one = ne_eqb b 1 (λ (e : b ≡ 1). omega arith) in
    let two = ne_eqb b 21 (λ (e : b ≡ 21). omega arith) in
    let three = ne_eqb b 22 (λ (e : b ≡ 22). omega arith) in
    let four = le-ltb b 12 (omega arith) in
    let count : length bs ≡ b - 12 = omega arith in
    rw (one, two, three, four)
    (ap₂ (λ (c : Content) (rest : List ℕ). (c, rest)) (ap (λ (xs : List ℕ). whole (pos (number_after 0 xs))) (take_at bs ys (b - 12) count) ∙ ap (λ (m : ℕ). whole (pos m)) number) (drop_at bs ys (b - 12) count))

below : (b k n : ℕ) (bs ys : List ℕ) → b ≡ 12 - k → 0 < k → k ≤ 8 → length bs ≡ k → number_after 0 (inverted true bs) ≡ suc n → content_in (b ∷ (bs ++ ys)) ≡ (whole (negsuc n), ys)
below b k n bs ys is some few long number =
    let one = ne_eqb b 1 (λ (e : b ≡ 1). omega arith) in
    let two = ne_eqb b 21 (λ (e : b ≡ 21). omega arith) in
    let three = ne_eqb b 22 (λ (e : b ≡ 22). omega arith) in
    let four = lt-ltb b 12 (omega arith) in
    let count : length bs ≡ 12 - b = omega arith in
    let less : suc n - 1 ≡ n = omega arith in
    rw (one, two, three, four)
    (ap₂ (λ (c : Content) (rest : List ℕ). (c, rest)) (ap (λ (xs : List ℕ). whole (negsuc (number_after 0 (inverted true xs) - 1))) (take_at bs ys (12 - b) count) ∙ ap (λ (m : ℕ). whole (negsuc (m - 1))) number ∙ ap (λ (m : ℕ). whole (negsuc m)) less) (drop_at bs ys (12 - b) count))

whole_read : (z : ℤ) (ys : List ℕ) → IsWhole z → content_in (whole_key z ++ ys) ≡ (whole z, ys)
whole_read (pos n) ys h =
    above (12 + length (number_bytes n)) (length (number_bytes n)) n (number_bytes n) ys refl (number-length n) refl (number_is 0 (number_bytes n) ∙ worth-number n h)
whole_read (negsuc n) ys h =
    let wide : suc n < 2 ^ 64 = omega arith in
    let bytes = number_bytes (suc n) in
    below (12 - length bytes) (length bytes) n (inverted true bytes) ys refl (number-some n wide) (number-length (suc n)) (inverted-length true bytes)
    (ap (number_after 0) (inverted_twice bytes (number-bytes (suc n))) ∙ number_is 0 bytes ∙ worth-number (suc n) wide)

-- ---- strings

unescaped_read : (bs ys : List ℕ) → unescaped false (escaped bs ++ ys) ≡ (bs, ys)
unescaped_read [] ys = refl
unescaped_read (zero ∷ bs) ys = ap (byte_before 0) (unescaped_read bs ys)
unescaped_read (suc zero ∷ bs) ys = ap (byte_before 1) (unescaped_read bs ys)
unescaped_read (suc (suc b) ∷ bs) ys = ap (byte_before (suc (suc b))) (unescaped_read bs ys)

-- ---- contents

-- a content that a column of records can have
abbrev pub IsFlat : Content → Type 0
IsFlat null = Unit {0}
IsFlat (whole z) = IsWhole z
IsFlat (text bs) = Unit {0}
IsFlat (string bs) = Unit {0}
IsFlat _ = ⊥

content_read : (c : Content) (ys : List ℕ) → IsFlat c → content_in (key c ++ ys) ≡ (c, ys)
content_read null ys h = refl
content_read (whole z) ys h = whole_read z ys h
content_read (text bs) ys h = ap (λ (s : List ℕ × List ℕ). (text s.0, s.1)) (unescaped_read bs ys)
content_read (string bs) ys h = ap (λ (s : List ℕ × List ℕ). (string s.0, s.1)) (unescaped_read bs ys)
content_read _ ys h = absurd h

-- ---- bounds and counts

-- a bound of this type, of such a content
abbrev pub IsFlatBound : TypeTree → Option KnownBound → Type 0
IsFlatBound t b = IfSome b (λ b. (b.value.typed ≡ t) × IsFlat b.value.content)

made : TypeTree → Content → Bool → Option KnownBound
made t c e = Some (record { value = record { typed = t; content = c }; is_exact = e })

bound_by : (t s : TypeTree) (c : Content) (e : Bool) (ys : List ℕ) → s ≡ t → IsFlat c → bound_in t (if e then 3 else 1) (key c ++ ys) ≡ (Some (record { value = record { typed = s; content = c }; is_exact = e }), ys)
bound_by t s c true ys same h =
    ap (λ (r : Content × List ℕ). (Some (record { value = record { typed = t; content = r.0 }; is_exact = true }), r.1)) (content_read c ys h) ∙ ap (λ (u : TypeTree). (Some (record { value = record { typed = u; content = c }; is_exact = true }), ys)) (sym same)
bound_by t s c false ys same h =
    ap (λ (r : Content × List ℕ). (Some (record { value = record { typed = t; content = r.0 }; is_exact = false }), r.1)) (content_read c ys h) ∙ ap (λ (u : TypeTree). (Some (record { value = record { typed = u; content = c }; is_exact = false }), ys)) (sym same)

bound_read : (t : TypeTree) (b : Option KnownBound) (ys : List ℕ) → IsFlatBound t b → bound_in t (bound_flags b) (bound_bytes b ++ ys) ≡ (b, ys)
bound_read t None ys h = refl
bound_read t (Some b) ys h = bound_by t b.value.typed b.value.content b.is_exact ys h.0 h.1

count_is : (n : ℕ) → n < 2 ^ 64 → number_after 0 (big_endian 8 n) ≡ n
count_is n h = number_is 0 (big_endian 8 n) ∙ worth-big_endian 8 n (omega arith)

count_read : (n : Option ℕ) (ys : List ℕ) → IfSome n (λ k. k < 2 ^ 64) → count_in (count_flag n) (known_count_bytes n ++ ys) ≡ (n, ys)
count_read None ys h = refl
count_read (Some n) ys h =
    let long = big_endian-length 8 n in
    ap₂ (λ (k : ℕ) (rest : List ℕ). (Some k, rest)) (ap (number_after 0) (take_at (big_endian 8 n) ys 8 long) ∙ count_is n h) (drop_at (big_endian 8 n) ys 8 long)

-- ---- encodings

-- statistics that a column of records can have
pub record IsFlatKnown (t : TypeTree) (s : Known) : Type 0 where
  pub rows : s.row_count < 2 ^ 64
  pub nulls : IfSome s.null_count (λ n. n < 2 ^ 64)
  pub lower : IsFlatBound t s.lower
  pub upper : IsFlatBound t s.upper

count_flag_below : (n : Option ℕ) → count_flag n < 2
count_flag_below None = omega arith
count_flag_below (Some n) = omega arith

state_below : (e : Bool) → (if e then 3 else 1) < 4
state_below true = omega arith
state_below false = omega arith

bound_flags_below : (b : Option KnownBound) → bound_flags b < 4
bound_flags_below None = omega arith
bound_flags_below (Some b) = state_below b.is_exact

abbrev known_of : ℕ → Option ℕ → Option KnownBound → Option KnownBound → Known
known_of rows nulls lower upper = record { row_count = rows; null_count = nulls; lower = lower; upper = upper }

pieces : (t : TypeTree) (n f g rows : ℕ) (bytes mid last end : List ℕ) (nulls : Option ℕ) (lower upper : Option KnownBound) → count_in n bytes ≡ (nulls, mid) → bound_in t f mid ≡ (lower, last) → bound_in t g last ≡ (upper, end)
    → known_of rows (count_in n bytes).0 (bound_in t f (count_in n bytes).1).0 (bound_in t g (bound_in t f (count_in n bytes).1).1).0 ≡ known_of rows nulls lower upper
pieces t n f g rows bytes mid last end nulls lower upper p q r =
    let first : (bound_in t f (count_in n bytes).1) ≡ (lower, last) = ap (λ (x : Option ℕ × List ℕ). bound_in t f x.1) p ∙ q in
    let second : (bound_in t g (bound_in t f (count_in n bytes).1).1) ≡ (upper, end) = ap (λ (x : Option KnownBound × List ℕ). bound_in t g x.1) first ∙ r in
    ap (λ (x : Option ℕ × List ℕ). known_of rows x.0 (bound_in t f (count_in n bytes).1).0 (bound_in t g (bound_in t f (count_in n bytes).1).1).0) p
    ∙ ap (λ (x : Option KnownBound × List ℕ). known_of rows nulls x.0 (bound_in t g (bound_in t f (count_in n bytes).1).1).0) first
    ∙ ap (λ (x : Option KnownBound × List ℕ). known_of rows nulls lower x.0) second

pub said_encoding : (t : TypeTree) (s : Known) → IsFlatKnown t s → said_by t (encoding s) ≡ s
said_encoding t s h =
    let a = count_flag_below s.null_count in
    let b = bound_flags_below s.lower in
    let c = bound_flags_below s.upper in
    let odd : flags s % 2 ≡ count_flag s.null_count = omega arith in
    let low : flags s / 2 % 4 ≡ bound_flags s.lower = omega arith in
    let high : flags s / 8 ≡ bound_flags s.upper = omega arith in
    let bounds = bound_bytes s.lower ++ bound_bytes s.upper in
    let behind = known_count_bytes s.null_count ++ bounds in
    let long = big_endian-length 8 s.row_count in
    let rows : number_after 0 (take 8 (count_bytes s.row_count ++ behind)) ≡ s.row_count = ap (number_after 0) (take_at (count_bytes s.row_count) behind 8 long) ∙ count_is s.row_count h.rows in
    let after : drop 8 (count_bytes s.row_count ++ behind) ≡ behind = drop_at (count_bytes s.row_count) behind 8 long in
    let nulls : count_in (flags s % 2) (drop 8 (count_bytes s.row_count ++ behind)) ≡ (s.null_count, bounds) = ap₂ count_in odd after ∙ count_read s.null_count bounds h.nulls in
    let lower : bound_in t (flags s / 2 % 4) bounds ≡ (s.lower, bound_bytes s.upper) = ap (λ (n : ℕ). bound_in t n bounds) low ∙ bound_read t s.lower (bound_bytes s.upper) h.lower in
    let upper : bound_in t (flags s / 8) (bound_bytes s.upper) ≡ (s.upper, []) = ap₂ (bound_in t) high (sym (append-nil (bound_bytes s.upper))) ∙ bound_read t s.upper [] h.upper in
    pieces t (flags s % 2) (flags s / 2 % 4) (flags s / 8) (number_after 0 (take 8 (count_bytes s.row_count ++ behind))) (drop 8 (count_bytes s.row_count ++ behind)) bounds (bound_bytes s.upper) [] s.null_count s.lower s.upper nulls lower upper
    ∙ ap (λ (n : ℕ). known_of n s.null_count s.lower s.upper) rows
