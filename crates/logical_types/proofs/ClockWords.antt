-- Times of day are read as they are written.
use Rattle.std.proofs.Common.{◌≡◌, ◌∙◌, ◌==◌, ◌-◌, ◌/◌, ◌%◌, ◌≤◌, ◌*ℤ◌, ◌+ℤ◌, ◌-ℤ◌, ℕ, zero, suc, ℤ, pos, Bool, true, false, [], ◌∷◌, ◌++◌, None, Some, Result, Ok, Err, refl, ap, arith, length, nat_lt, codes, rules, if◌then◌else◌}
use Rattle.std.specs.Result.{IsOk, OnOk}
use Rattle.std.proofs.lemmas.Bool.Decides.{nat_tests}
use Rattle.jiff_core.proofs.SignedLemmas.{signed_arith}
use Rattle.jiff_core.specs.Calendar.{day_count, days_from_civil}
use Rattle.jiff_core.specs.Date.{epoch_day}
use Rattle.jiff_core.specs.DateTime.{civil_nanos}
use Rattle.jiff_core.specs.Time.{time_nanos}
use Rattle.jiff_core.specs.declared.civil.date.Date.{Date}
use Rattle.jiff_core.specs.declared.civil.datetime.DateTime.{DateTime}
use Rattle.jiff_core.specs.declared.civil.time.Time.{Time}
use Rattle.jiff_fmt.specs.Text.{fraction_part, places, significant, time_text}
use Rattle.logical_types.specs.Clock.{time_written}
use Rattle.logical_types.specs.Times.{moment_written}
use Rattle.logical_types.proofs.TimestampWords.{plain_reads}

-- the day whose times are times of day
epoch : Date
epoch = record { year = pos 1970; month = 1; day = 1; year_in = search rules; month_in = search rules; day_in = search rules }

at : Time → DateTime
at t = record { date = epoch; time = t }

nothing : (n : ℕ) → pos n -ℤ pos n ≡ pos 0
nothing n = omega (arith, signed_arith)

first_day : epoch_day epoch ≡ pos 0
unfolding days_from_civil epoch
first_day = nothing (day_count (pos 1970) 1 1)

after_nothing : (d : ℤ) (n : ℕ) → d ≡ pos 0 → d *ℤ pos 86_400_000_000_000 +ℤ pos n ≡ pos n
after_nothing d n e = omega (arith, signed_arith, e)

nanos : (t : Time) → civil_nanos (at t) ≡ pos (time_nanos t)
unfolding civil_nanos at epoch
nanos t = after_nothing (epoch_day epoch) (time_nanos t) first_day

-- how long a word is
length_places : (k whole n : ℕ) → length (places k whole n) ≡ k
unfolding places
length_places zero whole n = refl
length_places (suc k) whole n = ap suc (length_places k (whole / 10) (n % (whole / 10)))

few : (b : Bool) (n : ℕ) → (if b then 0 else 9 - n) ≤ 9
few true n = omega arith
few false n = omega arith

length_fraction : (n : ℕ) → length (fraction_part None n) ≤ 10
length_fraction n = by (n == 0) refl
  where
    by : (b : Bool) → (n == 0) ≡ b → length (fraction_part None n) ≤ 10
    by true e = rw e (omega arith)
    by false e =
        let l : length (places (significant n) 1_000_000_000 n) ≡ significant n = length_places (significant n) 1_000_000_000 n in
        let s : significant n ≤ 9 = few (n == 0) _ in
        let p : fraction_part None n ≡ 46 ∷ places (significant n) 1_000_000_000 n = ap (λ (b : Bool). if b then [] else 46 ∷ places (significant n) 1_000_000_000 n) e in
        rw p (omega arith)

pub short : (t : Time) → nat_lt 18 (length (time_text None t)) ≡ false
short t =
    let f = length_fraction t.subsec_nanosecond in
    let l : length (time_text None t) ≤ 18 = omega arith in
    grind (arith, nat_tests)

written : (t : Time) → moment_written false (codes "1970-01-01T" ++ time_text None t) ≡ Some (civil_nanos (at t))
unfolding at epoch
written t = plain_reads (at t)

pub time_reads : (t : Time) → time_written (time_text None t) ≡ Some (pos (time_nanos t))
time_reads t =
    let e : time_written (time_text None t) ≡ moment_written false (codes "1970-01-01T" ++ time_text None t) = rw (short t) in
    e ∙ written t ∙ ap Some (nanos t)

pub on_ok : {T E : Type 0} (r : Result T E) (P : Type 0) → IsOk r → OnOk r P → P
on_ok (Ok x) P h p = p
on_ok (Err e) P h p = absurd (let k : false ≡ true = h in cc)
