-- Words of numbers: what they are made of, and what reads them.
use Rattle.std.proofs.Common.{◌≡◌, ◌≢◌, ◌⊎◌, inl, inr, ℕ, zero, suc, ◌+◌, ◌-◌, ◌*◌, ◌^◌, ◌<◌, ◌≤◌, ◌==◌, ◌&&◌, ◌||◌, ℤ, pos, neg_ℤ, Bool, true, false, not, nat_lt, List, [], ◌∷◌, ◌++◌, Option, Some, None, length, drop, refl, sym, ap, subst, ◌∙◌, arith, append-nil}
use native.Mathlib.Nat.{pow-suc}
use Rattle.std.proofs.Math.Nat.{pow-le-pow_right}
use Rattle.std.proofs.lemmas.Bool.{and_cases, and_from, and_left, and_parts, cases_Bool, cases_lt, false_from_ne_true, false≢true, or_cases, or_parts, true≢false}
use Rattle.std.proofs.lemmas.Bool.Decides.{nat_tests}
use Rattle.std.proofs.Math.ListN.{drop_of_length-le}
use Rattle.std.proofs.lemmas.List.{length-append, take_all}
use Rattle.std.proofs.lemmas.List.Sums.{passes_at_first, split_at_first}
use Rattle.std.proofs.lemmas.Str.{IsAscii-append, IsUtf8-from_ascii}
use Rattle.std.proofs.lemmas.Str.Ascii.{IsAscii-cons, IsAscii-nil}
use Rattle.std.specs.Prelude.{Err, IsAscii, IsUtf8, Ok, Result, is_ok, is_some}
use Rattle.std.specs.Char.{digit_value, is_ascii_digit}
use Rattle.std.specs.List.{position_or_len}
use Rattle.std.specs.Option.{option_map}
use Rattle.std.specs.Int.{w64}
use Rattle.std.specs.Str.Parse.{AllDigits, IsNumeral, ParsesSigned, ParsesUnsigned, digits_value, digits_value_after, signed_digits_value, starts_with_minus, without_leading_plus, without_leading_sign}
use Rattle.logical_types.specs.Decimals.{decimal_value, fraction_from, scaled, whole_from}
use Rattle.record_rows.specs.Words.{IsIntegerWord}
use Rattle.vortex_dtype.specs.declared.ptype.PType.{PType}
use Rattle.vortex_dtype.specs.declared.ptype.PType.TheVariants.{I64, U64}
use Rattle.vortex_pvalue.specs.Numbers.{in_range, in_unsigned}
use Rattle.vortex_pvalue.specs.RangeLaws.{in_range_back, in_range_true}
use Rattle.csv_columns.specs.Kinds.{are_digits, fraction_of, is_integer, is_plain, is_size, is_whole, is_zero, place_count, size_of, whole_count, whole_of}

-- ---- digits

digit_low : (b : ℕ) → is_ascii_digit b ≡ true → digit_value b < 10
digit_low b h = grind (arith, nat_tests)

digit_back : (b : ℕ) → digit_value b < 10 → is_ascii_digit b ≡ true
digit_back b h = grind (arith, nat_tests)

digit_worth : (b : ℕ) → is_ascii_digit b ≡ true → digit_value b ≡ b - 48
digit_worth b h = grind (arith, nat_tests)

digit_ascii : (b : ℕ) → is_ascii_digit b ≡ true → b < 128
digit_ascii b h = grind (arith, nat_tests)

digit_next : (b : ℕ) → is_ascii_digit b ≡ true → b - 48 ≤ 9
digit_next b h = grind (arith, nat_tests)

pub digits_all : (ds : List ℕ) → are_digits ds ≡ true → AllDigits 10 ds
digits_all [] h = tt
digits_all (d ∷ ds) h = let p = and_parts _ _ h in (digit_low d p.0, digits_all ds p.1)

pub all_digits : (ds : List ℕ) → AllDigits 10 ds → are_digits ds ≡ true
all_digits [] h = refl
all_digits (d ∷ ds) h = rw (digit_back d h.0) (all_digits ds h.1)

pub digits_ascii : (ds : List ℕ) → are_digits ds ≡ true → IsAscii ds
digits_ascii [] h = IsAscii-nil
digits_ascii (d ∷ ds) h = let p = and_parts _ _ h in IsAscii-cons d ds (digit_ascii d p.0) (digits_ascii ds p.1)

-- ---- the parts of a number

-- digits, and perhaps a point and one digit or more
pub record HasParts (size : List ℕ) : Type 0 where
  pub tail : List ℕ
  pub text : size ≡ whole_of size ++ tail
  pub whole : is_whole (whole_of size) ≡ true
  pub fraction : are_digits (fraction_of size) ≡ true
  pub behind : ((tail ≡ []) × (fraction_of size ≡ [])) ⊎ ((tail ≡ 46 ∷ fraction_of size) × (0 < length (fraction_of size)))

point_is : (b : ℕ) → (b == 46) ≡ true → b ≡ 46
point_is b h = grind (arith, nat_tests)

-- where a text has a point
parts_at : (size : List ℕ) → position_or_len (λ b. b == 46) size < length size → size ≡ whole_of size ++ (46 ∷ fraction_of size)
parts_at size l =
    split_at_first (λ b. b == 46) size 0 l
    ∙ ap (λ (b : ℕ). whole_of size ++ (b ∷ fraction_of size)) (point_is _ (passes_at_first (λ b. b == 46) size 0 l))

same_lengths : (a b : ℕ) → (a == b) ≡ true → a ≡ b
same_lengths a b h = grind (arith, nat_tests)

less : (a b : ℕ) → nat_lt a b ≡ true → a < b
less a b h = grind (arith, nat_tests)

pub parts_of : (size : List ℕ) → is_size size ≡ true → HasParts size
parts_of size h =
    let p = and_parts _ _ h in
    let q = and_parts _ _ p.1 in
    elim (cases_lt (position_or_len (λ b. b == 46) size) (length size)) [
      | inl l ↦
          let text = parts_at size l in
          record {
            tail = 46 ∷ fraction_of size;
            text = text;
            whole = p.0;
            fraction = q.0;
            behind = inr (
              refl,
              elim (or_cases _ _ q.1) [
                | inl e ↦ absurd (let n : length (whole_of size) ≡ length size = same_lengths _ _ e in let m : length size ≡ length (whole_of size ++ (46 ∷ fraction_of size)) = ap length text in let k = length-append (whole_of size) (46 ∷ fraction_of size) in omega arith)
                | inr e ↦ less _ _ e
              ],
            );
          }
      | inr g ↦ record {
        tail = [];
        text = sym (take_all _ size g) ∙ sym (append-nil _);
        whole = p.0;
        fraction = q.0;
        behind = inl (refl, drop_of_length-le size (omega (arith, g)));
      }
    ]

whole_digits : (ds : List ℕ) → is_whole ds ≡ true → are_digits ds ≡ true
whole_digits [] h = absurd (false≢true h)
whole_digits (d ∷ []) h = rw h refl
whole_digits (d ∷ e ∷ ds) h = (and_parts _ _ h).1

whole_some : (ds : List ℕ) → is_whole ds ≡ true → 0 < length ds
whole_some [] h = absurd (false≢true h)
whole_some (d ∷ ds) h = omega arith

-- ---- such a word is text

tail_ascii : (size : List ℕ) (p : HasParts size) → IsAscii p.tail
tail_ascii size p = elim p.behind [
  | inl (e, _) ↦ subst IsAscii (sym e) IsAscii-nil
  | inr (e, _) ↦ subst IsAscii (sym e) (IsAscii-cons 46 (fraction_of size) (omega arith) (digits_ascii (fraction_of size) p.fraction))
]

size_ascii : (size : List ℕ) → is_size size ≡ true → IsAscii size
size_ascii size h =
    let p = parts_of size h in
    subst IsAscii (sym p.text) (IsAscii-append (whole_of size) p.tail (digits_ascii (whole_of size) (whole_digits (whole_of size) p.whole)) (tail_ascii size p))

minus_first : (word : List ℕ) → starts_with_minus word ≡ true → word ≡ 45 ∷ drop 1 word
minus_first [] h = absurd (false≢true h)
minus_first (b ∷ bs) h = ap (λ (x : ℕ). x ∷ bs) (let e : b ≡ 45 = same_lengths _ _ h in e)

with_minus : (word : List ℕ) → starts_with_minus word ≡ true → size_of word ≡ drop 1 word
with_minus word h = rw h refl

without_minus : (word : List ℕ) → starts_with_minus word ≡ false → size_of word ≡ word
without_minus word h = rw h refl

plain_size : (word : List ℕ) → is_plain word ≡ true → is_size (size_of word) ≡ true
plain_size word h = (and_parts _ _ h).0

pub plain_is_text : (word : List ℕ) → is_plain word ≡ true → IsUtf8 word
plain_is_text word h = IsUtf8-from_ascii word (elim (cases_Bool (starts_with_minus word)) [
  | inl m ↦ subst IsAscii (sym (minus_first word m)) (IsAscii-cons 45 (drop 1 word) (omega arith) (subst IsAscii (with_minus word m) (size_ascii (size_of word) (plain_size word h))))
  | inr m ↦ subst IsAscii (without_minus word m) (size_ascii (size_of word) (plain_size word h))
])

pub no_text_is_not_plain : (word : List ℕ) → ¬ (IsUtf8 word) → is_plain word ≡ false
no_text_is_not_plain word h = false_from_ne_true _ (λ e. h (plain_is_text word e))

-- ---- a decimal takes such words

power_up : (k : ℕ) → 10 ^ suc k ≡ 10 ^ k * 10
power_up k = pow-suc 10 k

next_below : (v k d : ℕ) → v < 10 ^ k → d ≤ 9 → v * 10 + d < 10 ^ suc k
next_below v k d l h = let e = power_up k in omega (arith, e)

within : (v k p : ℕ) → v < 10 ^ k → k ≤ p → v < 10 ^ p
within v k p l h = let m : 10 ^ k ≤ 10 ^ p = pow-le-pow_right (omega arith) h in omega arith

test_below : (a b : ℕ) → a < b → nat_lt a b ≡ true
test_below a b h = grind (arith, nat_tests)

scaled_below : (v k s : ℕ) → v < 10 ^ k → v * 10 ^ s < 10 ^ (k + s)
scaled_below v k zero l = let e : v * 10 ^ 0 ≡ v = grind arith in let f : k + 0 ≡ k = omega arith in rw (e, f) l
scaled_below v k (suc s) l =
    let i = scaled_below v k s l in
    let a : 10 ^ suc s ≡ 10 ^ s * 10 = pow-suc 10 s in
    let b : 10 ^ suc (k + s) ≡ 10 ^ (k + s) * 10 = pow-suc 10 (k + s) in
    let c : v * 10 ^ suc s ≡ v * (10 ^ s * 10) = ap (λ (x : ℕ). v * x) a in
    let d : k + suc s ≡ suc (k + s) = omega arith in
    let e : 10 ^ (k + suc s) ≡ 10 ^ suc (k + s) = ap (λ (x : ℕ). 10 ^ x) d in
    omega arith

scaled_some : (v k s p : ℕ) → v < 10 ^ k → k + s ≤ p → is_some (scaled (10 ^ p) s v) ≡ true
scaled_some v k s p l h =
    let t : nat_lt (v * 10 ^ s) (10 ^ p) ≡ true = test_below _ _ (within (v * 10 ^ s) (k + s) p (scaled_below v k s l) h) in
    rw t refl

fraction_reads : (fs : List ℕ) (v k s p : ℕ) (some : Bool) → are_digits fs ≡ true → (some ≡ true) ⊎ (0 < length fs) → length fs ≤ s → v < 10 ^ k → k + s ≤ p → is_some (fraction_from (10 ^ p) s some v fs) ≡ true
fraction_reads [] v k s p true digits any few l h = scaled_some v k s p l h
fraction_reads [] v k s p false digits any few l h = elim any [ inl e ↦ absurd (false≢true e) | inr e ↦ absurd (omega arith) ]
fraction_reads (c ∷ cs) v k s p some digits any few l h =
    let both = and_parts _ _ digits in
    let low : c - 48 ≤ 9 = digit_next c both.0 in
    let next = next_below v k (c - 48) l low in
    let there : nat_lt (v * 10 + (c - 48)) (10 ^ p) ≡ true = test_below _ _ (within _ (suc k) p next (omega arith)) in
    let places : (s == 0) ≡ false = grind (arith, nat_tests) in
    rw (both.0, places, there) (fraction_reads cs (v * 10 + (c - 48)) (suc k) (s - 1) p true both.1 (inl refl) (omega arith) next (omega arith))

whole_reads : (ws : List ℕ) (tail fs : List ℕ) (v k s p : ℕ) (some : Bool) → are_digits ws ≡ true → are_digits fs ≡ true
    → ((tail ≡ []) × (fs ≡ [])) ⊎ ((tail ≡ 46 ∷ fs) × (0 < length fs))
    → (some ≡ true) ⊎ (0 < length ws) → length fs ≤ s → v < 10 ^ k → k + length ws + s ≤ p
    → is_some (whole_from (10 ^ p) s some v (ws ++ tail)) ≡ true
whole_reads [] tail fs v k s p false digits behind parts any few l h = elim any [ inl e ↦ absurd (false≢true e) | inr e ↦ absurd (omega arith) ]
whole_reads [] tail fs v k s p true digits behind parts any few l h = elim parts [
  | inl (e, _) ↦ rw e (scaled_some v k s p l (omega arith))
  | inr (e, n) ↦ rw e (fraction_reads fs v k s p false behind (inr n) few l (omega arith))
]
whole_reads (c ∷ cs) tail fs v k s p some digits behind parts any few l h =
    let both = and_parts _ _ digits in
    let low : c - 48 ≤ 9 = digit_next c both.0 in
    let next = next_below v k (c - 48) l low in
    let there : nat_lt (v * 10 + (c - 48)) (10 ^ p) ≡ true = test_below _ _ (within _ (suc k) p next (omega arith)) in
    rw (both.0, there) (whole_reads cs tail fs (v * 10 + (c - 48)) (suc k) s p true both.1 behind parts (inl refl) few next (omega arith))

size_reads : (size : List ℕ) (s p : ℕ) → is_size size ≡ true → length (whole_of size) + s ≤ p → length (fraction_of size) ≤ s → is_some (whole_from (10 ^ p) s false 0 size) ≡ true
size_reads size s p h room few =
    let parts = parts_of size h in
    ap (λ (x : List ℕ). is_some (whole_from (10 ^ p) s false 0 x)) parts.text
    ∙ whole_reads (whole_of size) parts.tail (fraction_of size) 0 0 s p false (whole_digits (whole_of size) parts.whole) parts.fraction parts.behind
    (inr (whole_some (whole_of size) parts.whole)) few (omega arith) (omega (arith, room))

mapped_some : {A B : Type 0} (f : A → B) (o : Option A) → is_some o ≡ true → is_some (option_map f o) ≡ true
mapped_some f None h = h
mapped_some f (Some x) h = refl

pub plain_reads : (word : List ℕ) (s p : ℕ) → is_plain word ≡ true → whole_count word + s ≤ p → place_count word ≤ s → is_some (decimal_value (10 ^ p) s word) ≡ true
plain_reads word s p h room few = elim (cases_Bool (starts_with_minus word)) [
  | inl m ↦
      let r = size_reads (size_of word) s p (plain_size word h) room few in
      rw m (mapped_some (λ n. neg_ℤ (pos n)) _ (ap (λ (x : List ℕ). is_some (whole_from (10 ^ p) s false 0 x)) (sym (with_minus word m)) ∙ r))
  | inr m ↦
      let r = size_reads (size_of word) s p (plain_size word h) room few in
      rw m (mapped_some pos _ (ap (λ (x : List ℕ). is_some (whole_from (10 ^ p) s false 0 x)) (sym (without_minus word m)) ∙ r))
]

-- ---- a type of integers takes such words

front : (ws tail : List ℕ) → is_whole ws ≡ true → (b : ℕ) × (rest : List ℕ) × (ws ++ tail ≡ b ∷ rest) × (is_ascii_digit b ≡ true)
front [] tail h = absurd (false≢true h)
front (b ∷ bs) tail h = (b, bs ++ tail, refl, (and_parts _ _ (whole_digits (b ∷ bs) h)).0)

-- a number begins with a digit
size_front : (size : List ℕ) → is_size size ≡ true → (b : ℕ) × (rest : List ℕ) × (size ≡ b ∷ rest) × (is_ascii_digit b ≡ true)
size_front size h =
    let p = parts_of size h in
    let f = front (whole_of size) p.tail p.whole in
    (f.0, f.1, p.text ∙ f.2, f.3)

size_some : (size : List ℕ) → is_size size ≡ true → 0 < length size
size_some size h = let f = size_front size h in let e : length size ≡ length (f.0 ∷ f.1) = ap length f.2 in omega arith

no_plus : (size : List ℕ) → is_size size ≡ true → without_leading_plus size ≡ size
no_plus size h =
    let f = size_front size h in
    let digit : is_ascii_digit f.0 ≡ true = f.3 in
    let other : (f.0 == 43) ≡ false = grind (arith, nat_tests) in
    let same : without_leading_plus (f.0 ∷ f.1) ≡ f.0 ∷ f.1 = rw other refl in
    ap without_leading_plus f.2 ∙ same ∙ sym f.2

pub no_sign : (word : List ℕ) → is_plain word ≡ true → without_leading_sign word ≡ size_of word
no_sign word h = elim (cases_Bool (starts_with_minus word)) [
  | inl m ↦ rw m refl
  | inr m ↦ rw m (no_plus word (subst (λ (x : List ℕ). is_size x ≡ true) (without_minus word m) (plain_size word h)))
]

digits_read : (word : List ℕ) → is_plain word ≡ true → are_digits (size_of word) ≡ true → IsNumeral 10 (without_leading_sign word)
digits_read word h d = subst (IsNumeral 10) (sym (no_sign word h)) (size_some (size_of word) (plain_size word h), digits_all (size_of word) d)

pub is_integer_word : (ptype : PType) (word : List ℕ) → is_integer ptype word ≡ true → IsIntegerWord ptype word (signed_digits_value 10 word)
is_integer_word ptype word h =
    let p = and_parts _ _ h in
    let q = and_parts _ _ p.1 in
    record { text = plain_is_text word p.0; digits = digits_read word p.0 q.0; value = refl; fits = in_range_back ptype (signed_digits_value 10 word) q.1 }

-- what `parse` says of such a word
pub signed_is : {E : Type 0} → (word : List ℕ) (r : Result ℤ E) → is_plain word ≡ true → ParsesSigned w64 10 word r → is_ok r ≡ is_integer I64 word
signed_is word (Ok z) h parsed =
    let digits : are_digits (size_of word) ≡ true = all_digits (size_of word) (subst (AllDigits 10) (no_sign word h) parsed.0.0.1) in
    sym (and_from _ _ h (and_from _ _ digits (in_range_true I64 (signed_digits_value 10 word) parsed.0.1)))
signed_is word (Err e) h parsed =
    sym (false_from_ne_true _ (λ is. let p = and_parts _ _ (and_parts _ _ is).1 in parsed (digits_read word h p.0, in_range_back I64 (signed_digits_value 10 word) p.1)))

value_some : (ds : List ℕ) (n : ℕ) → are_digits ds ≡ true → (0 < n) ⊎ (is_zero ds ≡ false) → 0 < digits_value_after 10 n ds
value_some [] n digits some = elim some [ inl l ↦ l | inr e ↦ absurd (true≢false e) ]
value_some (d ∷ ds) n digits some =
    let both = and_parts _ _ digits in
    value_some ds (n * 10 + digit_value d) both.1 (elim some [
      | inl l ↦ inl (omega arith)
      | inr e ↦ elim (and_cases _ _ e) [
        | inl other ↦ inl (let high : 0 < digit_value d = some_value d both.0 other in omega arith)
        | inr rest ↦ inr rest
      ]
    ])
  where
    above : (b : ℕ) → is_ascii_digit b ≡ true → (b == 48) ≡ false → 48 < b
    above b digit other_digit = grind (arith, nat_tests)

    some_value : (b : ℕ) → is_ascii_digit b ≡ true → ((b == 48) || (b == 46)) ≡ false → 0 < digit_value b
    some_value b digit other =
        let worth : digit_value b ≡ b - 48 = digit_worth b digit in
        let other_digit : (b == 48) ≡ false = (or_parts _ _ other).0 in
        let high : 48 < b = above b digit other_digit in
        omega arith

below_zero : (n : ℕ) → 0 < n → in_unsigned 64 (neg_ℤ (pos n)) ≡ false
below_zero zero h = absurd (omega arith)
below_zero (suc m) h = refl

no_minus_zero : (m z : Bool) → not (m && z) ≡ true → m ≡ true → z ≡ false
no_minus_zero true true h e = absurd (false≢true h)
no_minus_zero true false h e = refl
no_minus_zero false z h e = absurd (false≢true e)

-- a number with a minus is below zero
minus_is_out : (word : List ℕ) → is_plain word ≡ true → starts_with_minus word ≡ true → are_digits (size_of word) ≡ true → in_range U64 (signed_digits_value 10 word) ≡ false
minus_is_out word h m d =
    let other : is_zero (size_of word) ≡ false = no_minus_zero (starts_with_minus word) (is_zero (size_of word)) (and_parts _ _ h).1 m in
    let some : 0 < digits_value 10 (without_leading_sign word) = subst (λ (x : List ℕ). 0 < digits_value 10 x) (sym (no_sign word h)) (value_some (size_of word) 0 d (inr other)) in
    let value : signed_digits_value 10 word ≡ neg_ℤ (pos (digits_value 10 (without_leading_sign word))) = rw m refl in
    ap (in_range U64) value ∙ below_zero (digits_value 10 (without_leading_sign word)) some

minus_is_no_digit : (word : List ℕ) → starts_with_minus word ≡ true → ¬ (AllDigits 10 (without_leading_plus word))
minus_is_no_digit [] m all = false≢true m
minus_is_no_digit (b ∷ bs) m all =
    let is : b ≡ 45 = same_lengths _ _ m in
    let other : (b == 43) ≡ false = grind (arith, nat_tests) in
    let there : AllDigits 10 (b ∷ bs) = (rw other at all) in
    let low : digit_value 45 < 10 = subst (λ (x : ℕ). digit_value x < 10) is there.0 in
    absurd (omega arith)

plain_alone : (word : List ℕ) → is_plain word ≡ true → starts_with_minus word ≡ false → without_leading_plus word ≡ size_of word
plain_alone word h m = no_plus word (subst (λ (x : List ℕ). is_size x ≡ true) (without_minus word m) (plain_size word h)) ∙ sym (without_minus word m)

alone_value : (word : List ℕ) → is_plain word ≡ true → starts_with_minus word ≡ false → in_range U64 (signed_digits_value 10 word) ≡ nat_lt (digits_value 10 (size_of word)) (2 ^ 64)
alone_value word h m =
    let value : signed_digits_value 10 word ≡ pos (digits_value 10 (without_leading_sign word)) = rw m refl in
    ap (in_range U64) value ∙ ap (λ (x : List ℕ). in_range U64 (pos (digits_value 10 x))) (no_sign word h)

pub unsigned_is : {E : Type 0} → (word : List ℕ) (r : Result ℕ E) → is_plain word ≡ true → ParsesUnsigned 64 10 word r → is_ok r ≡ is_integer U64 word
unsigned_is word (Ok n) h parsed = elim (cases_Bool (starts_with_minus word)) [
  | inl m ↦ absurd (minus_is_no_digit word m parsed.0.0.1)
  | inr m ↦
      let digits : are_digits (size_of word) ≡ true = all_digits (size_of word) (subst (AllDigits 10) (plain_alone word h m) parsed.0.0.1) in
      let small : digits_value 10 (size_of word) < 2 ^ 64 = subst (λ (x : List ℕ). digits_value 10 x < 2 ^ 64) (plain_alone word h m) parsed.0.1 in
      sym (and_from _ _ h (and_from _ _ digits (alone_value word h m ∙ test_below _ _ small)))
]
unsigned_is word (Err e) h parsed = sym (false_from_ne_true _ (λ is.
    let p = and_parts _ _ (and_parts _ _ is).1 in
    elim (cases_Bool (starts_with_minus word)) [
      | inl m ↦ false≢true (sym (minus_is_out word h m p.0) ∙ p.1)
      | inr m ↦
          let small : digits_value 10 (size_of word) < 2 ^ 64 = less _ _ (sym (alone_value word h m) ∙ p.1) in
          parsed (subst (λ (x : List ℕ). IsNumeral 10 x × (digits_value 10 x < 2 ^ 64)) (sym (plain_alone word h m)) ((size_some (size_of word) (plain_size word h), digits_all (size_of word) p.0), small))
    ]))

pub not_plain_no_integer : (ptype : PType) (word : List ℕ) → is_plain word ≡ false → false ≡ is_integer ptype word
not_plain_no_integer ptype word h = sym (and_left (is_plain word) _ h)

-- ---- texts

pub no_minus : (text : List ℕ) → ((rest : List ℕ) → text ≢ 45 ∷ rest) → text ≡ size_of text
no_minus text other = sym (without_minus text (false_from_ne_true (starts_with_minus text) (λ m. other (drop 1 text) (minus_first text m))))
