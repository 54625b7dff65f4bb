-- A value of a logical type but a float has one word that is printed.
use Rattle.std.proofs.Common.{◌≡◌, ◌∙◌, ◌++◌, ℕ, ℤ, pos, Bool, true, false, List, None, sym, ap, codes, true≢false}
use Rattle.jiff_core.proofs.DateLemmas.{epoch_day_injective}
use Rattle.jiff_core.proofs.DateTimeLemmas.{civil_nanos_injective, time_nanos_injective}
use Rattle.jiff_core.specs.Date.{epoch_day}
use Rattle.jiff_core.specs.DateTime.{civil_nanos}
use Rattle.jiff_core.specs.Time.{time_nanos}
use Rattle.jiff_core.specs.declared.civil.date.Date.{Date}
use Rattle.jiff_core.specs.declared.civil.datetime.DateTime.{DateTime}
use Rattle.jiff_core.specs.declared.civil.time.Time.{Time}
use Rattle.jiff_fmt.specs.Text.{date_text, datetime_text, time_text}
use Rattle.logical_types.specs.Printed.{IsPrinted, IsTimeText, IsTimestampText, civil_text, is_float}
use Rattle.logical_types.specs.Days.{IsDayWord}
use Rattle.logical_types.specs.declared.logical.LogicalType.{LogicalType}
use Rattle.logical_types.specs.declared.logical.LogicalType.TheVariants.{Float64, Float32, Decimal, Timestamp}
use Rattle.logical_types.specs.declared.logical.LogicalType.TheVariants as logicals
use Rattle.logical_types.specs.declared.times.TimeUnit.{TimeUnit}

same_date : (a b : Date) → epoch_day a ≡ epoch_day b → date_text a ≡ date_text b
same_date a b e =
    let p = epoch_day_injective a b e in
    rw (p.0, p.1, p.2)

same_time : (a b : Time) → time_nanos a ≡ time_nanos b → time_text None a ≡ time_text None b
same_time a b e =
    let p = time_nanos_injective a b e in
    rw (p.0, p.1, p.2, p.3)

same_civil : (a b : DateTime) → civil_nanos a ≡ civil_nanos b → datetime_text false 84 None a ≡ datetime_text false 84 None b
same_civil a b e =
    let p = civil_nanos_injective a b e in
    rw (same_date a.date b.date p.0, same_time a.time b.time p.1)

same_text : (z : Bool) (a b : DateTime) → civil_nanos a ≡ civil_nanos b → civil_text z a ≡ civil_text z b
same_text false a b e = same_civil a b e
same_text true a b e = ap (λ (x : List ℕ). x ++ codes "Z") (same_civil a b e)

pos_same : (m n : ℕ) → pos m ≡ pos n → m ≡ n
pos_same m n e = cc

one_day : (word other : List ℕ) (z : ℤ) → IsDayWord word z → IsDayWord other z → word ≡ other
one_day word other z a b = a.written ∙ same_date a.date b.date (a.counted ∙ sym b.counted) ∙ sym b.written

one_time : (unit : TimeUnit) (word other : List ℕ) (z : ℤ) → IsTimeText unit word z → IsTimeText unit other z → word ≡ other
one_time unit word other z a b = a.written ∙ same_time a.time b.time (pos_same _ _ (a.counted ∙ sym b.counted)) ∙ sym b.written

one_timestamp : (unit : TimeUnit) (is_zoned : Bool) (word other : List ℕ) (z : ℤ) → IsTimestampText unit is_zoned word z → IsTimestampText unit is_zoned other z → word ≡ other
one_timestamp unit is_zoned word other z a b = a.written ∙ same_text is_zoned a.civil b.civil (a.counted ∙ sym b.counted) ∙ sym b.written

pub one_word : (logical : LogicalType) (word other : List ℕ) (z : ℤ) → is_float logical ≡ false → IsPrinted logical word z → IsPrinted logical other z → word ≡ other
one_word Float64 word other z e a b = absurd (true≢false e)
one_word Float32 word other z e a b = absurd (true≢false e)
one_word (Decimal d) word other z e a b = a ∙ sym b
one_word logicals.Date word other z e a b = one_day word other z a b
one_word (logicals.Time unit) word other z e a b = one_time unit word other z a b
one_word (Timestamp unit is_zoned) word other z e a b = one_timestamp unit is_zoned word other z a b
