-- The parts of patterns, and cases: what begins with two of them, and where their bytes do not go on.
use Rattle.std.proofs.Common.{◌≡◌, ◌≢◌, ◌⊎◌, inl, inr, ℕ, zero, suc, ◌+◌, ◌*◌, ◌/◌, ◌%◌, ◌<◌, ◌≤◌, Bool, true, false, eqb, List, [], ◌∷◌, ◌++◌, refl, sym, subst, ap, ◌∙◌, arith}
use Rattle.std.proofs.Math.Utf8.{low_scalar, scalar_cases}
use Rattle.std.proofs.lemmas.Bool.{eqb-true}
use Rattle.std.proofs.lemmas.Bool.Decides.{nat_tests}
use Rattle.std.specs.Char.{IsScalar}
use Rattle.like_patterns.specs.declared.case.Case.{Case}
use Rattle.like_patterns.specs.declared.case.Case.TheVariants.{Sensitive, Insensitive}
use Rattle.like_patterns.specs.Patterns.{Part, literal, any_character, any_string}
use Rattle.filter_encoding.specs.Patterns.{IsCase, IsNumber, IsPart, case_byte, case_bytes, part_bytes, part_number, three_bytes}
use Rattle.filter_encoding.specs.Strings.{BeginAlike, HasRead, IsEncodingOf, IsStuck}
use Rattle.filter_encoding.proofs.Stuck.{AreApart, encoding_of}
use Rattle.filter_encoding.proofs.TypeLaws.{first_same}

-- what begins as a string does begins with its first byte
begun_so : (now zs xs : List ℕ) (b : ℕ) → BeginAlike now zs → zs ≡ b ∷ xs → (more : List ℕ) × (now ≡ b ∷ more)
begun_so [] zs xs b alike e = absurd (subst (BeginAlike []) e alike)
begun_so (n ∷ now) zs xs b alike e = (now, ap (λ c. c ∷ now) (subst (BeginAlike (n ∷ now)) e alike))

-- ---- cases

one_case : (c d : Case) → case_byte c ≡ case_byte d → c ≡ d
one_case Sensitive Sensitive e = refl
one_case Sensitive Insensitive e = absurd cc
one_case Insensitive Sensitive e = absurd cc
one_case Insensitive Insensitive e = refl

pub cases_apart : AreApart case_bytes IsCase
cases_apart = record {
  apart = λ c d xs ys f g e.
      let w = first_same (case_byte c) (case_byte d) xs ys e in
      (one_case c d w.0, w.1);
}

pub case_read : (case : Case) (old now : List ℕ) → old ≡ case_byte case ∷ now → HasRead case_bytes IsCase case old now
case_read case old now e = record { is_one = tt; is = e }

-- the byte of no case
pub case_stuck : (old mid now : List ℕ) → mid ≡ old → now ≡ mid → ((bs : List ℕ) → old ≢ 0 ∷ bs) → ((bs : List ℕ) → mid ≢ 1 ∷ bs) → IsStuck (IsEncodingOf case_bytes IsCase) old now
case_stuck old mid now same again none_zero none_one = record {
  done = [];
  split = sym (again ∙ same);
  more = case_bytes Sensitive;
  begins = encoding_of case_bytes IsCase Sensitive tt;
  none = λ s zs rest h alike e. none h.value (begun_so now zs rest (case_byte h.value) alike (e ∙ ap (λ xs. xs ++ rest) h.is));
}
  where
    none : (case : Case) → (more : List ℕ) × (now ≡ case_byte case ∷ more) → ⊥
    none Sensitive w = none_zero w.0 (sym (again ∙ same) ∙ w.1)
    none Insensitive w = none_one w.0 (sym again ∙ w.1)

-- ---- parts by their numbers

pub is_number : (part : Part) → IsPart part → IsNumber (part_number part)
is_number (literal c) h = by_range (scalar_cases c h)
  where
    by_range : (c < 55296) ⊎ ((57344 ≤ c) × (c < 1114112)) → IsNumber c
    by_range (inl low) = inl low
    by_range (inr high) = inr (high.0, omega (arith, high.1))
is_number any_character h = inr (omega arith, omega arith)
is_number any_string h = inr (omega arith, omega arith)

character_below : (c : ℕ) → IsScalar c → c < 1114112
character_below c h = by_range (scalar_cases c h)
  where
    by_range : (c < 55296) ⊎ ((57344 ≤ c) × (c < 1114112)) → c < 1114112
    by_range (inl low) = omega (arith, low)
    by_range (inr high) = high.1

pub number_small : (n : ℕ) → IsNumber n → n < 1114114
number_small n (inl low) = omega (arith, low)
number_small n (inr high) = high.1

one_part : (p q : Part) → IsPart p → IsPart q → part_number p ≡ part_number q → p ≡ q
one_part (literal c) (literal d) h g e = ap literal e
one_part (literal c) any_character h g e = let below = character_below c h in absurd (omega (arith, below, e))
one_part (literal c) any_string h g e = let below = character_below c h in absurd (omega (arith, below, e))
one_part any_character (literal d) h g e = let below = character_below d g in absurd (omega (arith, below, e))
one_part any_character any_character h g e = refl
one_part any_character any_string h g e = absurd (omega (arith, e))
one_part any_string (literal d) h g e = let below = character_below d g in absurd (omega (arith, below, e))
one_part any_string any_character h g e = absurd (omega (arith, e))
one_part any_string any_string h g e = refl

scalar_number : (n : ℕ) → IsNumber n → n ≢ 1114112 → n ≢ 1114113 → IsScalar n
scalar_number n (inl low) a b = low_scalar n low
scalar_number n (inr high) a b = grind (arith, nat_tests)

-- the part with a number
record Numbered (n : ℕ) : Type 0 where
  part : Part
  is_part : IsPart part
  is : part_number part ≡ n

numbered : (n : ℕ) → IsNumber n → Numbered n
numbered n h = by_tests (eqb n 1114112) (eqb n 1114113) refl refl
  where
    other : (b : Bool) (m : ℕ) → eqb n m ≡ b → b ≡ false → n ≢ m
    other b m e f same = grind (arith, nat_tests)

    by_tests : (a b : Bool) → eqb n 1114112 ≡ a → eqb n 1114113 ≡ b → Numbered n
    by_tests true b e f = record { part = any_character; is_part = tt; is = sym (eqb-true n 1114112 e) }
    by_tests false true e f = record { part = any_string; is_part = tt; is = sym (eqb-true n 1114113 f) }
    by_tests false false e f = record { part = literal n; is_part = scalar_number n h (other false 1114112 e refl) (other false 1114113 f refl); is = refl }

-- ---- three bytes

same_three : (a b c x y z : ℕ) → a ≡ x → b ≡ y → c ≡ z → a ∷ b ∷ c ∷ [] ≡ x ∷ y ∷ z ∷ []
same_three a b c x y z e f g = cc

number_again : (n : ℕ) → n ≡ n / 65536 * 65536 + n / 256 % 256 * 256 + n % 256
number_again n = omega arith

three_again : (n h m l : ℕ) → m < 256 → l < 256 → n ≡ h * 65536 + m * 256 + l → three_bytes n ≡ h ∷ m ∷ l ∷ []
three_again n h m l p q e = same_three _ _ _ _ _ _ (omega (arith, p, q, e)) (omega (arith, p, q, e)) (omega (arith, p, q, e))

pub parts_apart : AreApart part_bytes IsPart
parts_apart = record {
  apart = λ p q xs ys h g e.
      let m = part_number p in
      let n = part_number q in
      let a = first_same (m / 65536) (n / 65536) _ _ e in
      let b = first_same (m / 256 % 256) (n / 256 % 256) _ _ a.1 in
      let c = first_same (m % 256) (n % 256) xs ys b.1 in
      let same : m ≡ n = number_again m ∙ omega (arith, a.0, b.0, c.0) ∙ sym (number_again n) in
      (one_part p q h g same, c.1);
}

-- a number that is no more than those that go on with other bytes
front_number : (n : ℕ) → IsNumber n → IsNumber (n / 256 * 256)
front_number n (inl low) = inl (omega (arith, low))
front_number n (inr high) = inr (omega (arith, high.0), omega (arith, high.1))

first_number : (n : ℕ) → IsNumber n → IsNumber (n / 65536 * 65536)
first_number n (inl low) = inl (omega (arith, low))
first_number n (inr high) = by_first (n / 65536) refl
  where
    by_first : (h : ℕ) → n / 65536 ≡ h → IsNumber (h * 65536)
    by_first zero e = inl (omega arith)
    by_first (suc h) e = inr (omega (arith, high.0), omega (arith, e, high.1))

some_part : (h m l : ℕ) → m < 256 → l < 256 → IsNumber (h * 65536 + m * 256 + l) → IsEncodingOf part_bytes IsPart (h ∷ m ∷ l ∷ [])
some_part h m l p q one =
    let w = numbered (h * 65536 + m * 256 + l) one in
    record { value = w.part; is_one = w.is_part; is = sym (ap three_bytes w.is ∙ three_again (h * 65536 + m * 256 + l) h m l p q refl) }

pub null_part : IsPart any_string
null_part = tt

-- ---- where the bytes of a part do not go on

pub high_stuck : (old now : List ℕ) → now ≡ old → ((byte : ℕ) (bs : List ℕ) → old ≡ byte ∷ bs → ¬ (IsNumber (0 + byte * 65536))) → IsStuck (IsEncodingOf part_bytes IsPart) old now
high_stuck old now same none = record {
  done = [];
  split = sym same;
  more = 0 ∷ 0 ∷ 0 ∷ [];
  begins = some_part 0 0 0 (omega arith) (omega arith) (inl (omega arith));
  none = λ s zs rest h alike e.
      let n = part_number h.value in
      let w = begun_so now zs _ (n / 65536) alike (e ∙ ap (λ xs. xs ++ rest) h.is) in
      none (n / 65536) w.0 (sym same ∙ w.1) (subst IsNumber (omega arith) (first_number n (is_number h.value h.is_one)));
}

pub middle_stuck : (high front : ℕ) (old mid now : List ℕ) → front ≡ 0 + high * 65536 → IsNumber front → old ≡ high ∷ mid → now ≡ mid → ((byte : ℕ) (bs : List ℕ) → mid ≡ byte ∷ bs → ¬ (IsNumber (front + byte * 256)))
    → IsStuck (IsEncodingOf part_bytes IsPart) old now
middle_stuck high front old mid now is one first same none = record {
  done = high ∷ [];
  split = first ∙ ap (λ xs. high ∷ xs) (sym same);
  more = 0 ∷ 0 ∷ [];
  begins = some_part high 0 0 (omega arith) (omega arith) (subst IsNumber (omega (arith, is)) one);
  none = λ s zs rest h alike e.
      let n = part_number h.value in
      let a = first_same high (n / 65536) zs _ (e ∙ ap (λ xs. xs ++ rest) h.is) in
      let w = begun_so now zs _ (n / 256 % 256) alike a.1 in
      let here : n / 256 * 256 ≡ front + n / 256 % 256 * 256 = omega (arith, is, a.0) in
      none (n / 256 % 256) w.0 (sym same ∙ w.1) (subst IsNumber here (front_number n (is_number h.value h.is_one)));
}

pub low_stuck : (high middle front next : ℕ) (old mid here now : List ℕ) → middle < 256 → front ≡ 0 + high * 65536 → next ≡ front + middle * 256 → IsNumber next → old ≡ high ∷ mid → mid ≡ middle ∷ here → now ≡ here
    → ((byte : ℕ) (bs : List ℕ) → here ≡ byte ∷ bs → ¬ (IsNumber (next + byte * 1))) → IsStuck (IsEncodingOf part_bytes IsPart) old now
low_stuck high middle front next old mid here now small is then one first second same none = record {
  done = high ∷ middle ∷ [];
  split = first ∙ ap (λ xs. high ∷ xs) (second ∙ ap (λ xs. middle ∷ xs) (sym same));
  more = 0 ∷ [];
  begins = some_part high middle 0 small (omega arith) (subst IsNumber (omega (arith, is, then)) one);
  none = λ s zs rest h alike e.
      let n = part_number h.value in
      let a = first_same high (n / 65536) (middle ∷ zs) _ (e ∙ ap (λ xs. xs ++ rest) h.is) in
      let b = first_same middle (n / 256 % 256) zs _ a.1 in
      let w = begun_so now zs _ (n % 256) alike b.1 in
      let all : n ≡ next + n % 256 * 1 = omega (arith, is, then, a.0, b.0) in
      none (n % 256) w.0 (sym same ∙ w.1) (subst IsNumber all (is_number h.value h.is_one));
}

-- the part with the number that was read
pub part_read : (part : Part) (high middle low front next : ℕ) (old mid here now : List ℕ) → middle < 256 → low < 256 → front ≡ 0 + high * 65536 → next ≡ front + middle * 256 → IsPart part → part_number part ≡ next + low * 1 → old ≡ high ∷ mid → mid ≡ middle ∷ here → here ≡ low ∷ now
    → HasRead part_bytes IsPart part old now
part_read part high middle low front next old mid here now p q at then one is first second third = record {
  is_one = one;
  is =
      first ∙ ap (λ xs. high ∷ xs) (second ∙ ap (λ xs. middle ∷ xs) third)
      ∙ ap (λ xs. xs ++ now) (sym (three_again (part_number part) high middle low p q (omega (arith, at, then, is))));
}
