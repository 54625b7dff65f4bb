-- Which bytes may come next in a text, by the ways that characters are written in UTF-8.
use Rattle.std.proofs.Common.{◌≡◌, ℕ, ◌+◌, ◌-◌, ◌*◌, ◌/◌, ◌%◌, ◌<◌, ◌≤◌, true, false, nat_lt, List, [], ◌∷◌, ◌++◌, ◌↔◌, ◌⊎◌, IsUtf8, inl, inr, refl, sym, ap₂, ◌∙◌, subst, arith}
use Rattle.std.proofs.lemmas.Bool.{and_parts, cases_lt, cases_eq}
use Rattle.std.proofs.lemmas.Bool.Decides.{nat_tests}
use Rattle.std.proofs.lemmas.Str.{IsUtf8-append, IsUtf8-encode, encode_ascii}
use Rattle.std.proofs.Math.Utf8.{scalar, scalars, encode, encodes, scalar_cases}
use Rattle.vortex_row.specs.Strings.{Completes, lowest_after, highest_after}
use Rattle.vortex_row.proofs.PlaceLaws.{first_of, rest_of}

encode_two : (c : ℕ) → 128 ≤ c → c < 2048 → encode c ≡ (192 + c / 64) ∷ (128 + c % 64) ∷ []
unfolding encode
encode_two c h k =
    let a : nat_lt c 128 ≡ false = grind (arith, nat_tests) in
    let b : nat_lt c 2048 ≡ true = grind (arith, nat_tests) in
    rw (a, b) refl

encode_three : (c : ℕ) → 2048 ≤ c → c < 65536 → encode c ≡ (224 + c / 4096) ∷ (128 + (c / 64) % 64) ∷ (128 + c % 64) ∷ []
unfolding encode
encode_three c h k =
    let a : nat_lt c 128 ≡ false = grind (arith, nat_tests) in
    let b : nat_lt c 2048 ≡ false = grind (arith, nat_tests) in
    let d : nat_lt c 65536 ≡ true = grind (arith, nat_tests) in
    rw (a, b, d) refl

encode_four : (c : ℕ) → 65536 ≤ c → encode c ≡ (240 + c / 262144) ∷ (128 + (c / 4096) % 64) ∷ (128 + (c / 64) % 64) ∷ (128 + c % 64) ∷ []
unfolding encode
encode_four c h =
    let a : nat_lt c 128 ≡ false = grind (arith, nat_tests) in
    let b : nat_lt c 2048 ≡ false = grind (arith, nat_tests) in
    let d : nat_lt c 65536 ≡ false = grind (arith, nat_tests) in
    rw (a, b, d) refl

-- text that begins with b and goes on with xs begins with a character of one, two, three or four bytes
record OfOne (b : ℕ) (xs : List ℕ) : Type 0 where
  small : b < 128
  rest : IsUtf8 xs

record OfTwo (b : ℕ) (xs : List ℕ) : Type 0 where
  char : ℕ
  more : List ℕ
  low : 128 ≤ char
  high : char < 2048
  first : b ≡ 192 + char / 64
  is : xs ≡ (128 + char % 64) ∷ more
  rest : IsUtf8 more

record OfThree (b : ℕ) (xs : List ℕ) : Type 0 where
  char : ℕ
  more : List ℕ
  low : 2048 ≤ char
  high : char < 65536
  none : (char < 55296) ⊎ (57344 ≤ char)
  first : b ≡ 224 + char / 4096
  is : xs ≡ (128 + (char / 64) % 64) ∷ (128 + char % 64) ∷ more
  rest : IsUtf8 more

record OfFour (b : ℕ) (xs : List ℕ) : Type 0 where
  char : ℕ
  more : List ℕ
  low : 65536 ≤ char
  high : char < 1114112
  first : b ≡ 240 + char / 262144
  is : xs ≡ (128 + (char / 4096) % 64) ∷ (128 + (char / 64) % 64) ∷ (128 + char % 64) ∷ more
  rest : IsUtf8 more

abbrev Begun : ℕ → List ℕ → Type 0
Begun b xs = OfOne b xs ⊎ (OfTwo b xs ⊎ (OfThree b xs ⊎ OfFour b xs))

surrogates : (c : ℕ) → (c < 55296) ⊎ ((57344 ≤ c) × (c < 1114112)) → (c < 55296) ⊎ (57344 ≤ c)
surrogates c (inl h) = inl h
surrogates c (inr h) = inr h.0

at_most : (c : ℕ) → (c < 55296) ⊎ ((57344 ≤ c) × (c < 1114112)) → c < 1114112
at_most c (inl h) = omega arith
at_most c (inr h) = h.1

of_char : (c b : ℕ) (ys xs : List ℕ) → scalar c ≡ true → IsUtf8 ys → encode c ++ ys ≡ b ∷ xs → Begun b xs
of_char c b ys xs ok u e = elim (cases_lt c 128) [
  | inl small ↦
      let f : c ∷ ys ≡ b ∷ xs = rw (encode_ascii c small) at e in
      let one : c ≡ b = first_of c b ys xs f in
      inl (record { small = omega arith; rest = subst IsUtf8 (rest_of c b ys xs f) u })
  | inr more ↦ elim (cases_lt c 2048) [
    | inl small ↦
        let f : (192 + c / 64) ∷ (128 + c % 64) ∷ ys ≡ b ∷ xs = rw (encode_two c more small) at e in
        inr (inl (record { char = c; more = ys; low = more; high = small; first = sym (first_of _ b _ xs f); is = sym (rest_of _ b _ xs f); rest = u }))
    | inr above ↦ elim (cases_lt c 65536) [
      | inl small ↦
          let f : (224 + c / 4096) ∷ (128 + (c / 64) % 64) ∷ (128 + c % 64) ∷ ys ≡ b ∷ xs = rw (encode_three c above small) at e in
          inr (inr (inl (record { char = c; more = ys; low = above; high = small; none = surrogates c (scalar_cases c ok); first = sym (first_of _ b _ xs f); is = sym (rest_of _ b _ xs f); rest = u })))
      | inr great ↦
          let f : (240 + c / 262144) ∷ (128 + (c / 4096) % 64) ∷ (128 + (c / 64) % 64) ∷ (128 + c % 64) ∷ ys ≡ b ∷ xs = rw (encode_four c great) at e in
          inr (inr (inr (record { char = c; more = ys; low = great; high = at_most c (scalar_cases c ok); first = sym (first_of _ b _ xs f); is = sym (rest_of _ b _ xs f); rest = u })))
    ]
  ]
]

begun : (b : ℕ) (xs : List ℕ) → IsUtf8 (b ∷ xs) → Begun b xs
begun b xs u = from_chars u.0 u.1.0 u.1.1
  where
    from_chars : (cs : List ℕ) → scalars cs ≡ true → encodes cs ≡ b ∷ xs → Begun b xs
    from_chars [] ok e = cc
    from_chars (c ∷ cs) ok e = let p = and_parts _ _ ok in of_char c b (encodes cs) xs p.0 (cs, (p.1, refl)) e

-- a byte below its limit and above it, by the byte before
low_from : (b c : ℕ) → 128 ≤ c → (b ≡ 224 → 160 ≤ c) → (b ≡ 240 → 144 ≤ c) → lowest_after b ≤ c
low_from b c h k l = grind (arith, nat_tests)

high_from : (b c : ℕ) → c ≤ 191 → (b ≡ 237 → c ≤ 159) → (b ≡ 244 → c ≤ 143) → c ≤ highest_after b
high_from b c h k l = grind (arith, nat_tests)

low_gives : (b c : ℕ) → lowest_after b ≤ c → (128 ≤ c) × ((b ≡ 224 → 160 ≤ c) × (b ≡ 240 → 144 ≤ c))
low_gives b c h = (grind (arith, nat_tests), (grind (arith, nat_tests), grind (arith, nat_tests)))

high_gives : (b c : ℕ) → c ≤ highest_after b → (c ≤ 191) × ((b ≡ 237 → c ≤ 159) × (b ≡ 244 → c ≤ 143))
high_gives b c h = (grind (arith, nat_tests), (grind (arith, nat_tests), grind (arith, nat_tests)))

-- each encoding of a character, from its first byte on

two_on : (b : ℕ) (xs : List ℕ) → OfTwo b xs → (194 ≤ b) × (b < 224) × Completes 1 (lowest_after b) (highest_after b) xs
two_on b xs h =
    let c = h.char in
    let l = h.low in
    let m = h.high in
    let f = h.first in (
      omega arith,
      omega arith,
      subst (Completes 1 (lowest_after b) (highest_after b)) (sym h.is)
          (low_from b (128 + c % 64) (omega arith) (λ e. omega arith) (λ e. omega arith), high_from b (128 + c % 64) (omega arith) (λ e. omega arith) (λ e. omega arith), h.rest),
    )

three_on : (b : ℕ) (xs : List ℕ) → OfThree b xs → (224 ≤ b) × (b < 240) × Completes 2 (lowest_after b) (highest_after b) xs
three_on b xs h =
    let c = h.char in
    let l = h.low in
    let m = h.high in
    let f = h.first in
    let n = h.none in (
      omega arith,
      omega arith,
      subst (Completes 2 (lowest_after b) (highest_after b)) (sym h.is) (
        low_from b (128 + (c / 64) % 64) (omega arith) (λ e. omega arith) (λ e. omega arith),
        high_from b (128 + (c / 64) % 64) (omega arith) (λ e. elim n [ inl q ↦ omega arith | inr q ↦ omega arith ]) (λ e. omega arith),
        (omega arith, omega arith, h.rest),
      ),
    )

four_on : (b : ℕ) (xs : List ℕ) → OfFour b xs → (240 ≤ b) × (b < 245) × Completes 3 (lowest_after b) (highest_after b) xs
four_on b xs h =
    let c = h.char in
    let l = h.low in
    let m = h.high in
    let f = h.first in (
      omega arith,
      omega arith,
      subst (Completes 3 (lowest_after b) (highest_after b)) (sym h.is) (
        low_from b (128 + (c / 4096) % 64) (omega arith) (λ e. omega arith) (λ e. omega arith),
        high_from b (128 + (c / 4096) % 64) (omega arith) (λ e. omega arith) (λ e. omega arith),
        (omega arith, omega arith, (omega arith, omega arith, h.rest)),
      ),
    )

-- and back

one_back : (b : ℕ) (xs : List ℕ) → b < 128 → IsUtf8 xs → IsUtf8 (b ∷ xs)
one_back b xs h u = let ok : scalar b ≡ true = grind (arith, nat_tests) in IsUtf8-append (b ∷ []) xs (subst IsUtf8 (encode_ascii b h) (IsUtf8-encode b ok)) u

two_back : (b : ℕ) (xs : List ℕ) → 194 ≤ b → b < 224 → Completes 1 (lowest_after b) (highest_after b) xs → IsUtf8 (b ∷ xs)
two_back b [] h k p = absurd p
two_back b (d ∷ xs) h k p =
    let low = (low_gives b d p.0).0 in
    let high = (high_gives b d p.1).0 in
    let c = (b - 192) * 64 + (d - 128) in
    let ok : scalar c ≡ true = grind (arith, nat_tests) in
    let e : encode c ≡ b ∷ d ∷ [] = encode_two c (omega arith) (omega arith) ∙ ap₂ (λ x y. x ∷ y ∷ []) (omega arith) (omega arith) in
    IsUtf8-append (b ∷ d ∷ []) xs (subst IsUtf8 e (IsUtf8-encode c ok)) p.2

three_back : (b : ℕ) (xs : List ℕ) → 224 ≤ b → b < 240 → Completes 2 (lowest_after b) (highest_after b) xs → IsUtf8 (b ∷ xs)
three_back b [] h k p = absurd p
three_back b (d ∷ []) h k p = absurd p.2
three_back b (d ∷ f ∷ xs) h k p =
    let low = low_gives b d p.0 in
    let high = high_gives b d p.1 in
    let low_first = low.0 in
    let low_other = low.1.0 in
    let high_first = high.0 in
    let high_other = high.1.0 in
    let low_next = p.2.0 in
    let high_next = p.2.1 in
    let c = (b - 224) * 4096 + (d - 128) * 64 + (f - 128) in
    let ok : scalar c ≡ true = grind (arith, nat_tests) in
    let e : encode c ≡ b ∷ d ∷ f ∷ [] = encode_three c (elim (cases_eq b 224) [ inl same ↦ let more = low_other same in omega arith | inr other ↦ omega arith ]) (omega arith) ∙ three_bytes _ _ _ _ _ _ (omega arith) (omega arith) (omega arith) in
    IsUtf8-append (b ∷ d ∷ f ∷ []) xs (subst IsUtf8 e (IsUtf8-encode c ok)) p.2.2
  where
    three_bytes : (x y z u v w : ℕ) → x ≡ u → y ≡ v → z ≡ w → x ∷ y ∷ z ∷ [] ≡ u ∷ v ∷ w ∷ []
    three_bytes x y z u v w h k l = cc

four_back : (b : ℕ) (xs : List ℕ) → 240 ≤ b → b < 245 → Completes 3 (lowest_after b) (highest_after b) xs → IsUtf8 (b ∷ xs)
four_back b [] h k p = absurd p
four_back b (d ∷ []) h k p = absurd p.2
four_back b (d ∷ f ∷ []) h k p = absurd p.2.2
four_back b (d ∷ f ∷ g ∷ xs) h k p =
    let low = low_gives b d p.0 in
    let high = high_gives b d p.1 in
    let low_first = low.0 in
    let low_other = low.1.1 in
    let high_first = high.0 in
    let high_other = high.1.1 in
    let low_next = p.2.0 in
    let high_next = p.2.1 in
    let low_last = p.2.2.0 in
    let high_last = p.2.2.1 in
    let c = (b - 240) * 262144 + (d - 128) * 4096 + (f - 128) * 64 + (g - 128) in
    let ok : scalar c ≡ true = grind (arith, nat_tests) in
    let e : encode c ≡ b ∷ d ∷ f ∷ g ∷ [] = encode_four c (elim (cases_eq b 240) [ inl same ↦ let more = low_other same in omega arith | inr other ↦ omega arith ]) ∙ four_bytes _ _ _ _ _ _ _ _ (omega arith) (omega arith) (omega arith) (omega arith) in
    IsUtf8-append (b ∷ d ∷ f ∷ g ∷ []) xs (subst IsUtf8 e (IsUtf8-encode c ok)) p.2.2.2
  where
    four_bytes : (x y z r u v w s : ℕ) → x ≡ u → y ≡ v → z ≡ w → r ≡ s → x ∷ y ∷ z ∷ r ∷ [] ≡ u ∷ v ∷ w ∷ s ∷ []
    four_bytes x y z r u v w s h k l m = cc

-- which of the encodings it is, by the first byte

between : (b m n j k : ℕ) (A : Type 0) → m ≤ b → b < n → j ≤ b → b < k → n ≤ j ⊎ k ≤ m → A
between b m n j k A p q r s h = elim h [ inl x ↦ absurd (omega arith) | inr x ↦ absurd (omega arith) ]

one_of : (b : ℕ) (xs : List ℕ) → b < 128 → Begun b xs → IsUtf8 xs
one_of b xs h (inl p) = p.rest
one_of b xs h (inr (inl p)) = let q = two_on b xs p in between b 0 128 194 224 (IsUtf8 xs) (omega arith) h q.0 q.1 (inl (omega arith))
one_of b xs h (inr (inr (inl p))) = let q = three_on b xs p in between b 0 128 224 240 (IsUtf8 xs) (omega arith) h q.0 q.1 (inl (omega arith))
one_of b xs h (inr (inr (inr p))) = let q = four_on b xs p in between b 0 128 240 245 (IsUtf8 xs) (omega arith) h q.0 q.1 (inl (omega arith))

two_of : (b : ℕ) (xs : List ℕ) → 194 ≤ b → b < 224 → Begun b xs → Completes 1 (lowest_after b) (highest_after b) xs
two_of b xs h k (inl p) = let q = p.small in absurd (omega arith)
two_of b xs h k (inr (inl p)) = (two_on b xs p).2
two_of b xs h k (inr (inr (inl p))) = let q = three_on b xs p in between b 194 224 224 240 _ h k q.0 q.1 (inl (omega arith))
two_of b xs h k (inr (inr (inr p))) = let q = four_on b xs p in between b 194 224 240 245 _ h k q.0 q.1 (inl (omega arith))

three_of : (b : ℕ) (xs : List ℕ) → 224 ≤ b → b < 240 → Begun b xs → Completes 2 (lowest_after b) (highest_after b) xs
three_of b xs h k (inl p) = let q = p.small in absurd (omega arith)
three_of b xs h k (inr (inl p)) = let q = two_on b xs p in between b 224 240 194 224 _ h k q.0 q.1 (inr (omega arith))
three_of b xs h k (inr (inr (inl p))) = (three_on b xs p).2
three_of b xs h k (inr (inr (inr p))) = let q = four_on b xs p in between b 224 240 240 245 _ h k q.0 q.1 (inl (omega arith))

four_of : (b : ℕ) (xs : List ℕ) → 240 ≤ b → b < 245 → Begun b xs → Completes 3 (lowest_after b) (highest_after b) xs
four_of b xs h k (inl p) = let q = p.small in absurd (omega arith)
four_of b xs h k (inr (inl p)) = let q = two_on b xs p in between b 240 245 194 224 _ h k q.0 q.1 (inr (omega arith))
four_of b xs h k (inr (inr (inl p))) = let q = three_on b xs p in between b 240 245 224 240 _ h k q.0 q.1 (inr (omega arith))
four_of b xs h k (inr (inr (inr p))) = (four_on b xs p).2

none_of : (b : ℕ) (xs : List ℕ) → 128 ≤ b → (b < 194) ⊎ (245 ≤ b) → Begun b xs → ⊥
none_of b xs h k (inl p) = let q = p.small in omega arith
none_of b xs h k (inr (inl p)) = let q = two_on b xs p in let l = q.0 in let m = q.1 in elim k [ inl x ↦ omega arith | inr x ↦ omega arith ]
none_of b xs h k (inr (inr (inl p))) = let q = three_on b xs p in let l = q.0 in let m = q.1 in elim k [ inl x ↦ omega arith | inr x ↦ omega arith ]
none_of b xs h k (inr (inr (inr p))) = let q = four_on b xs p in let l = q.0 in let m = q.1 in elim k [ inl x ↦ omega arith | inr x ↦ omega arith ]

-- what follows the first byte of a character of one, two, three or four bytes, and what no text begins with

pub after-one : (b : ℕ) (xs : List ℕ) → b < 128 → IsUtf8 (b ∷ xs) ↔ IsUtf8 xs
after-one b xs h = ((λ u. one_of b xs h (begun b xs u)), one_back b xs h)

pub after-two : (b : ℕ) (xs : List ℕ) → 194 ≤ b → b < 224 → IsUtf8 (b ∷ xs) ↔ Completes 1 (lowest_after b) (highest_after b) xs
after-two b xs h k = ((λ u. two_of b xs h k (begun b xs u)), two_back b xs h k)

pub after-three : (b : ℕ) (xs : List ℕ) → 224 ≤ b → b < 240 → IsUtf8 (b ∷ xs) ↔ Completes 2 (lowest_after b) (highest_after b) xs
after-three b xs h k = ((λ u. three_of b xs h k (begun b xs u)), three_back b xs h k)

pub after-four : (b : ℕ) (xs : List ℕ) → 240 ≤ b → b < 245 → IsUtf8 (b ∷ xs) ↔ Completes 3 (lowest_after b) (highest_after b) xs
after-four b xs h k = ((λ u. four_of b xs h k (begun b xs u)), four_back b xs h k)

pub no-first : (b : ℕ) (xs : List ℕ) → 128 ≤ b → (b < 194) ⊎ (245 ≤ b) → ¬ (IsUtf8 (b ∷ xs))
no-first b xs h k u = none_of b xs h k (begun b xs u)
