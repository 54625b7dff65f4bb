-- What words write by a function is what they write by their relations.
use Rattle.std.proofs.Common.{◌≡◌, ◌∙◌, ◌↔◌, ◌+◌, ◌*◌, ◌/◌, ◌%◌, ◌<◌, ◌≤◌, ◌==◌, ◌&&◌, ◌*ℤ◌, ◌≤ℤ◌, ℕ, suc, ℤ, pos, negsuc, neg_ℤ, int_le, Bool, true, false, cond, List, Option, Some, None, Result, Ok, Err, T, nat_le, bytes_eq, option_and_then, refl, sym, subst, ap, arith}
use lib.Signed.{le_z_yes}
use lib.Pointwise.{bytes_decides}
use Rattle.std.proofs.Math.Nat.{div-add-mod}
use Rattle.std.proofs.lemmas.Bool.{false≢true}
use Rattle.std.proofs.lemmas.Bool.Decides.{nat_tests}
use Rattle.std.proofs.lemmas.Int.{ints}
use Rattle.jiff_core.proofs.SignedLemmas.{signed_arith}
use Rattle.jiff_core.specs.Calendar.{IsBetween, days_from_civil, days_in_month}
use Rattle.jiff_core.specs.Date.{epoch_day}
use Rattle.jiff_core.specs.declared.civil.date.Date.{Date}
use Rattle.jiff_core.specs.declared.error.Error.{Error}
use Rattle.jiff_fmt.specs.Temporal.{DateParts, date_parts, parse_date}
use Rattle.logical_types.specs.Clock.{IsTimeWord, time_written}
use Rattle.logical_types.specs.Days.{IsDayWord, day_of_parts, day_written, is_between, is_date, parts_text}
use Rattle.logical_types.specs.Shapes.{if_between, shape_of, storage_in, time_of_nanoseconds, timestamp_of_nanoseconds, whole_units}
use Rattle.logical_types.specs.Times.{IsTimestampWord, nanoseconds_of, timestamp_written}
use Rattle.logical_types.specs.Words.{Writes}
use Rattle.logical_types.specs.declared.logical.LogicalType.{LogicalType}
use Rattle.logical_types.specs.declared.logical.LogicalType.TheVariants.{Float64, Float32, Decimal, Date as Dates, Time, Timestamp}
use Rattle.logical_types.specs.declared.times.TimeUnit.{TimeUnit}
use Rattle.logical_types.specs.declared.times.TimeUnit.TheVariants.{Seconds, Milliseconds, Microseconds, Nanoseconds}
use Rattle.logical_types.proofs.DateWords.{read_as}
use Rattle.logical_types.proofs.PlacesShown.{below_zero, from_zero}
use Rattle.logical_types.proofs.TimestampWords.{one_number}

-- ---- tests

and_both : (b c : Bool) → (b && c) ≡ true → (b ≡ true) × (c ≡ true)
and_both true c h = (refl, h)
and_both false c h = absurd (false≢true h)

and_true : (b c : Bool) → b ≡ true → c ≡ true → (b && c) ≡ true
and_true b c e h = rw e h

passed : (b : Bool) → T b → b ≡ true
passed true t = refl
passed false t = absurd t

in_order : (a b : ℤ) → int_le a b ≡ true → a ≤ℤ b
in_order a b e = le_z_yes (subst T (sym e) tt)

order_in : (a b : ℤ) → a ≤ℤ b → int_le a b ≡ true
order_in a b h = passed (int_le a b) h.le

between_from : (low high z : ℤ) → is_between low high z ≡ true → IsBetween low high z
between_from low high z e = let s = and_both (int_le low z) (int_le z high) e in (in_order low z s.0, in_order z high s.1)

between_to : (low high z : ℤ) → IsBetween low high z → is_between low high z ≡ true
between_to low high z h = and_true (int_le low z) (int_le z high) (order_in low z h.0) (order_in z high h.1)

-- a number that lies between
some_between : (low high z y : ℤ) → if_between low high z ≡ Some y → IsBetween low high z × (z ≡ y)
some_between low high z y e = by_test (is_between low high z) refl e
  where
    by_test : (b : Bool) → is_between low high z ≡ b → cond b (Some z) None ≡ Some y → IsBetween low high z × (z ≡ y)
    by_test true h k = let same : z ≡ y = cc in (between_from low high z h, same)
    by_test false h k = absurd cc

between_some : (low high z : ℤ) → IsBetween low high z → if_between low high z ≡ Some z
between_some low high z h = ap (λ (b : Bool). cond b (Some z) None) (between_to low high z h)

then_from : {A : Type 0} (o : Option A) (f : A → Option ℤ) (z : ℤ) → option_and_then f o ≡ Some z → (x : A) × (o ≡ Some x) × (f x ≡ Some z)
then_from None f z h = absurd cc
then_from (Some x) f z h = (x, refl, h)

-- ---- units

module _ (n : ℕ) where
  from_pos : (m : ℕ) (z : ℤ) (b : Bool) → (m % n == 0) ≡ b → cond b (Some (pos (m / n))) None ≡ Some z → z *ℤ pos n ≡ pos m
  from_pos m z true r e =
      let same : pos (m / n) ≡ z = cc in
      let rest : m % n ≡ 0 = grind (arith, nat_tests) in
      let d : n * (m / n) + m % n ≡ m = div-add-mod m n in
      let k : n * (m / n) ≡ m = omega (arith, d, rest) in
      ap (λ (y : ℤ). y *ℤ pos n) (sym same) ∙ from_zero (m / n) n ∙ ap pos k
  from_pos m z false r e = absurd cc

  from_neg : (m : ℕ) (z : ℤ) (b : Bool) → ((m + 1) % n == 0) ≡ b → cond b (Some (neg_ℤ (pos ((m + 1) / n)))) None ≡ Some z → z *ℤ pos n ≡ negsuc m
  from_neg m z true r e =
      let same : neg_ℤ (pos ((m + 1) / n)) ≡ z = cc in
      let rest : (m + 1) % n ≡ 0 = grind (arith, nat_tests) in
      let d : n * ((m + 1) / n) + (m + 1) % n ≡ m + 1 = div-add-mod (m + 1) n in
      let k : n * ((m + 1) / n) ≡ suc m = omega (arith, d, rest) in
      ap (λ (y : ℤ). y *ℤ pos n) (sym same) ∙ below_zero ((m + 1) / n) n ∙ ap (λ (s : ℕ). neg_ℤ (pos s)) k
  from_neg m z false r e = absurd cc

  units_from : (m z : ℤ) → whole_units n m ≡ Some z → z *ℤ pos n ≡ m
  units_from (pos m) z e = from_pos m z (m % n == 0) refl e
  units_from (negsuc m) z e = from_neg m z ((m + 1) % n == 0) refl e

  rest_by : (m : ℕ) (y : ℤ) (b : Bool) → (m % n == 0) ≡ b → cond b (Some y) None ≡ None → 0 < m % n
  rest_by m y true r e = absurd cc
  rest_by m y false r e = grind (arith, nat_tests)

  rest_pos : (m : ℕ) → whole_units n (pos m) ≡ None → 0 < m % n
  rest_pos m e = rest_by m (pos (m / n)) (m % n == 0) refl e

  rest_neg : (m : ℕ) → whole_units n (negsuc m) ≡ None → 0 < (m + 1) % n
  rest_neg m e = rest_by (m + 1) (neg_ℤ (pos ((m + 1) / n))) ((m + 1) % n == 0) refl e

-- a multiple has no rest
no_rest : (unit : TimeUnit) (m z : ℤ) → z *ℤ pos (nanoseconds_of unit) ≡ m → whole_units (nanoseconds_of unit) m ≡ None → ⊥
no_rest Seconds (pos m) z e h = let r = rest_pos 1_000_000_000 m h in omega (arith, signed_arith, e, r)
no_rest Seconds (negsuc m) z e h = let r = rest_neg 1_000_000_000 m h in omega (arith, signed_arith, e, r)
no_rest Milliseconds (pos m) z e h = let r = rest_pos 1_000_000 m h in omega (arith, signed_arith, e, r)
no_rest Milliseconds (negsuc m) z e h = let r = rest_neg 1_000_000 m h in omega (arith, signed_arith, e, r)
no_rest Microseconds (pos m) z e h = let r = rest_pos 1_000 m h in omega (arith, signed_arith, e, r)
no_rest Microseconds (negsuc m) z e h = let r = rest_neg 1_000 m h in omega (arith, signed_arith, e, r)
no_rest Nanoseconds (pos m) z e h = let r = rest_pos 1 m h in omega (arith, r)
no_rest Nanoseconds (negsuc m) z e h = let r = rest_neg 1 m h in omega (arith, r)

units_to : (unit : TimeUnit) (m z : ℤ) → z *ℤ pos (nanoseconds_of unit) ≡ m → whole_units (nanoseconds_of unit) m ≡ Some z
units_to unit m z e = by_found (whole_units (nanoseconds_of unit) m) refl
  where
    by_found : (o : Option ℤ) → whole_units (nanoseconds_of unit) m ≡ o → o ≡ Some z
    by_found (Some y) h = ap Some (one_number unit y z (units_from (nanoseconds_of unit) m y h ∙ sym e))
    by_found None h = absurd (no_rest unit m z e h)

-- ---- days

date_of : (p : DateParts) → is_date p ≡ true → (d : Date) × (date_parts d ≡ p)
date_of p e =
    let year = and_both (is_between (neg_ℤ (pos 9999)) (pos 9999) p.year) ((nat_le 1 p.month && nat_le p.month 12) && (nat_le 1 p.day && nat_le p.day (days_in_month p.year p.month))) e in
    let rest = and_both (nat_le 1 p.month && nat_le p.month 12) (nat_le 1 p.day && nat_le p.day (days_in_month p.year p.month)) year.1 in
    let month = and_both (nat_le 1 p.month) (nat_le p.month 12) rest.0 in
    let day = and_both (nat_le 1 p.day) (nat_le p.day (days_in_month p.year p.month)) rest.1 in
    let least_month : 1 ≤ p.month = grind (arith, nat_tests) in
    let most_month : p.month ≤ 12 = grind (arith, nat_tests) in
    let least_day : 1 ≤ p.day = grind (arith, nat_tests) in
    let most_day : p.day ≤ days_in_month p.year p.month = grind (arith, nat_tests) in
    let d : Date = record { year = p.year; month = p.month; day = p.day; year_in = between_from (neg_ℤ (pos 9999)) (pos 9999) p.year year.0; month_in = (least_month, most_month); day_in = (least_day, most_day) } in
    (d, refl)

is_a_date : (d : Date) → is_date (date_parts d) ≡ true
is_a_date d =
    let m = d.month_in in
    let a = d.day_in in
    let month : (nat_le 1 d.month && nat_le d.month 12) ≡ true = and_true (nat_le 1 d.month) (nat_le d.month 12) (grind (arith, nat_tests, m)) (grind (arith, nat_tests, m)) in
    let day : (nat_le 1 d.day && nat_le d.day (days_in_month d.year d.month)) ≡ true =
    and_true (nat_le 1 d.day) (nat_le d.day (days_in_month d.year d.month)) (grind (arith, nat_tests, a)) (grind (arith, nat_tests, a)) in
    and_true (is_between (neg_ℤ (pos 9999)) (pos 9999) d.year) ((nat_le 1 d.month && nat_le d.month 12) && (nat_le 1 d.day && nat_le d.day (days_in_month d.year d.month)))
    (between_to (neg_ℤ (pos 9999)) (pos 9999) d.year d.year_in) (and_true (nat_le 1 d.month && nat_le d.month 12) (nat_le 1 d.day && nat_le d.day (days_in_month d.year d.month)) month day)

day_from : (word : List ℕ) (r : Result DateParts Error) (z : ℤ) → day_of_parts word r ≡ Some z → IsDayWord word z
day_from word (Err e) z k = absurd cc
day_from word (Ok p) z k = by_test (is_date p && bytes_eq word (parts_text p)) refl k
  where
    by_test : (b : Bool) → (is_date p && bytes_eq word (parts_text p)) ≡ b → cond b (Some (days_from_civil p.year p.month p.day)) None ≡ Some z → IsDayWord word z
    by_test false h e = absurd cc
    by_test true h e =
        let tests = and_both (is_date p) (bytes_eq word (parts_text p)) h in
        let found = date_of p tests.0 in
        let same : days_from_civil p.year p.month p.day ≡ z = cc in
        record {
          date = found.0;
          counted = ap (λ (q : DateParts). days_from_civil q.year q.month q.day) found.1 ∙ same;
          written = (bytes_decides _ _).0 tests.1 ∙ sym (ap parts_text found.1);
        }

pub day_to : (word : List ℕ) (z : ℤ) → IsDayWord word z → day_of_parts word (parse_date word) ≡ Some z
day_to word z w =
    let text : bytes_eq word (parts_text (date_parts w.date)) ≡ true = (bytes_decides _ _).1 w.written in
    ap (day_of_parts word) (read_as w.date word w.written)
    ∙ ap (λ (b : Bool). cond b (Some (epoch_day w.date)) None) (and_true (is_date (date_parts w.date)) (bytes_eq word (parts_text (date_parts w.date))) (is_a_date w.date) text)
    ∙ ap Some w.counted

-- a word of no day
pub day_none : (word : List ℕ) → ((z : ℤ) → IsDayWord word z → ⊥) → day_written word ≡ None
day_none word h = by_day (day_written word) refl
  where
    by_day : (o : Option ℤ) → day_written word ≡ o → day_written word ≡ None
    by_day None e = e
    by_day (Some z) e = absurd (h z (day_from word (parse_date word) z e))

-- ---- times

time_from : (unit : TimeUnit) (word : List ℕ) (z : ℤ) → option_and_then (time_of_nanoseconds unit) (time_written word) ≡ Some z → IsTimeWord unit word z
time_from unit word z h =
    let a = then_from (time_written word) (time_of_nanoseconds unit) z h in
    let b = then_from (if_between (pos 0) (pos 86_399_999_999_999) a.0) (whole_units (nanoseconds_of unit)) z a.2 in
    let c = some_between (pos 0) (pos 86_399_999_999_999) a.0 b.0 b.1 in
    let m : a.0 ≡ z *ℤ pos (nanoseconds_of unit) = c.1 ∙ sym (units_from (nanoseconds_of unit) b.0 z b.2) in
    record { is = subst (IsBetween (pos 0) (pos 86_399_999_999_999)) m c.0; moment = a.1 ∙ ap Some m }

time_to : (unit : TimeUnit) (word : List ℕ) (z : ℤ) → IsTimeWord unit word z → option_and_then (time_of_nanoseconds unit) (time_written word) ≡ Some z
time_to unit word z w =
    ap (option_and_then (time_of_nanoseconds unit)) w.moment
    ∙ ap (option_and_then (whole_units (nanoseconds_of unit))) (between_some (pos 0) (pos 86_399_999_999_999) (z *ℤ pos (nanoseconds_of unit)) w.is)
    ∙ units_to unit (z *ℤ pos (nanoseconds_of unit)) z refl

abbrev least : ℤ
least = neg_ℤ (pos 9_223_372_036_854_775_808)

abbrev most : ℤ
most = pos 9_223_372_036_854_775_807

abbrev first : ℤ
first = neg_ℤ (pos 377_705_116_800_000_000_000)

abbrev last : ℤ
last = pos 253_402_300_799_999_999_999

timestamp_from : (unit : TimeUnit) (zoned : Bool) (word : List ℕ) (z : ℤ) → option_and_then (timestamp_of_nanoseconds unit) (timestamp_written zoned word) ≡ Some z → IsTimestampWord unit zoned word z
timestamp_from unit zoned word z h =
    let a = then_from (timestamp_written zoned word) (timestamp_of_nanoseconds unit) z h in
    let f = then_from (option_and_then (whole_units (nanoseconds_of unit)) (if_between first last a.0)) (if_between least most) z a.2 in
    let g = some_between least most f.0 z f.2 in
    let b = then_from (if_between first last a.0) (whole_units (nanoseconds_of unit)) f.0 f.1 in
    let c = some_between first last a.0 b.0 b.1 in
    let m : a.0 ≡ z *ℤ pos (nanoseconds_of unit) = c.1 ∙ sym (units_from (nanoseconds_of unit) b.0 f.0 b.2) ∙ ap (λ (y : ℤ). y *ℤ pos (nanoseconds_of unit)) g.1 in
    let within : IsBetween least most z = subst (IsBetween least most) g.1 g.0 in
    record { is = record { fits = omega (arith, ints, within.0, within.1); dated = subst (IsBetween first last) m c.0 }; moment = a.1 ∙ ap Some m }

timestamp_to : (unit : TimeUnit) (zoned : Bool) (word : List ℕ) (z : ℤ) → IsTimestampWord unit zoned word z → option_and_then (timestamp_of_nanoseconds unit) (timestamp_written zoned word) ≡ Some z
timestamp_to unit zoned word z w =
    let low : least ≤ℤ z = omega (arith, ints, w.is.fits) in
    let high : z ≤ℤ most = omega (arith, ints, w.is.fits) in
    ap (option_and_then (timestamp_of_nanoseconds unit)) w.moment
    ∙ ap (λ (o : Option ℤ). option_and_then (if_between least most) (option_and_then (whole_units (nanoseconds_of unit)) o)) (between_some first last (z *ℤ pos (nanoseconds_of unit)) w.is.dated)
    ∙ ap (option_and_then (if_between least most)) (units_to unit (z *ℤ pos (nanoseconds_of unit)) z refl)
    ∙ between_some least most z (low, high)

-- ---- words

words_from : (l : LogicalType) (word : List ℕ) (z : ℤ) → storage_in (shape_of l) word ≡ Some z → Writes l word z
unfolding storage_in
words_from Float64 word z h = h
words_from Float32 word z h = h
words_from (Decimal d) word z h = h
words_from Dates word z h = day_from word (parse_date word) z h
words_from (Time unit) word z h = time_from unit word z h
words_from (Timestamp unit zoned) word z h = timestamp_from unit zoned word z h

words_to : (l : LogicalType) (word : List ℕ) (z : ℤ) → Writes l word z → storage_in (shape_of l) word ≡ Some z
unfolding storage_in
words_to Float64 word z h = h
words_to Float32 word z h = h
words_to (Decimal d) word z h = h
words_to Dates word z h = day_to word z h
words_to (Time unit) word z h = time_to unit word z h
words_to (Timestamp unit zoned) word z h = timestamp_to unit zoned word z h

pub words_say : (l : LogicalType) (word : List ℕ) (z : ℤ) → (storage_in (shape_of l) word ≡ Some z) ↔ Writes l word z
words_say l word z = (words_from l word z, words_to l word z)
