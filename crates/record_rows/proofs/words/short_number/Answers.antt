-- A digit more, and a word that ends.
use Rattle.std.proofs.Common.{◌≡◌, ◌≤◌, ◌<◌, ◌+◌, ◌*◌, ◌-◌, ◌^◌, ℕ, List, arith, length, take, take_all, subst, get_or, ap₂, ◌∙◌, sym}
use Rattle.std.proofs.lemmas.Fmt.{IsAscii-from_digits}
use Rattle.std.proofs.Math.Nat.{pow-le-pow_right}
use Rattle.std.proofs.lemmas.Int.Digits.{digits_more, digits_value-lt, digits_value_more}
use Rattle.std.proofs.lemmas.List.{length-take-le}
use Rattle.std.proofs.lemmas.Str.{IsUtf8-from_ascii}
use Rattle.std.specs.Char.{digit_value}
use Rattle.std.specs.Str.Parse.{AllDigits, digits_value}
use Rattle.record_rows.proofs.words.short_number.Goals as goal

-- the value of a decimal digit
digit_is : (c : ℕ) → 48 ≤ c → c ≤ 57 → digit_value c ≡ c - 48
digit_is c low high = grind arith

more : (word : List ℕ) (i n d : ℕ) → i < length word → AllDigits 10 (take i word) → n ≡ digits_value 10 (take i word) → 48 ≤ get_or word i 0 → get_or word i 0 ≤ 57 → d ≡ get_or word i 0 - 48
    → AllDigits 10 (take (i + 1) word) × (n * 10 + d ≡ digits_value 10 (take (i + 1) word))
more word i n d inside all value low high e =
    let is : digit_value (get_or word i 0) ≡ get_or word i 0 - 48 = digit_is (get_or word i 0) low high in
    (digits_more 10 word i inside all (omega (arith, is, low, high)), ap₂ (λ (a b : ℕ). a * 10 + b) value (e ∙ sym is) ∙ sym (digits_value_more 10 word i inside))

-- one digit more still fits
few : (word : List ℕ) (i n : ℕ) → i < length word → length word ≤ 19 → AllDigits 10 (take i word) → n ≡ digits_value 10 (take i word) → n < 1000000000000000000
few word i n inside short all value =
    let count : length (take i word) ≡ i = length-take-le i word (omega arith) in
    let most : 10 ^ length (take i word) ≤ 1000000000000000000 = pow-le-pow_right {n = 10} (omega arith) {i = length (take i word)} {j = 18} (omega (arith, count, inside, short)) in
    omega (arith, digits_value-lt 10 (take i word) all, most, value)

pub overflow_mul-number : goal.overflow_mul-number
overflow_mul-number c = record {
  fits = omega (arith, few c.args.word.now c.loop-byte.byte-index c.loop-byte.number c.loop-byte-test.true (omega arith) c.loop-byte.invariant.digits c.loop-byte.invariant.value);
}

pub overflow_add-number : goal.overflow_add-number
overflow_add-number c = record {
  fits = omega (arith, few c.args.word.now c.loop-byte.byte-index c.loop-byte.number c.loop-byte-test.true (omega arith) c.loop-byte.invariant.digits c.loop-byte.invariant.value, c.from.ensures);
}

pub loop-byte-preserved : goal.loop-byte-preserved
loop-byte-preserved c =
    let h = more c.args.word.now c.loop-byte.byte-index c.loop-byte.number c.from.result c.loop-byte-test.true c.loop-byte.invariant.digits c.loop-byte.invariant.value c.if-byte-lt48.false c.if-byte-gt57.false c.from.ensures in
    record { digits = h.0; value = h.1 }

pub returns-clause-text : goal.returns-clause-text
returns-clause-text c =
    let all : AllDigits 10 c.args.word.now = subst (AllDigits 10) (take_all c.loop-byte.byte-index c.args.word.now (omega arith)) c.loop-byte.invariant.digits in
    IsUtf8-from_ascii c.args.word.now (IsAscii-from_digits c.args.word.now all)
