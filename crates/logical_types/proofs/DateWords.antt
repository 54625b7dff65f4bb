-- A date has one word, and a word is of one date.
use Rattle.std.proofs.Common.{◌≡◌, ℕ, ℤ, List, Ok, Err, sym, ap, ◌∙◌}
use Rattle.jiff_core.specs.Date.{epoch_day}
use Rattle.jiff_core.specs.declared.civil.date.Date.{Date}
use Rattle.jiff_core.specs.declared.error.Error.{Error}
use Rattle.jiff_fmt.specs.Text.{date_text}
use Rattle.jiff_fmt.specs.Temporal.{DateParts, date_parts, date_view, parse_date}
use Rattle.jiff_fmt.proofs.RoundTrip.{parse_date-date_text}
use Rattle.logical_types.specs.Days.{IsDayWord}

-- what reads a date's word
pub read_as : (d : Date) (word : List ℕ) → word ≡ date_text d → parse_date word ≡ Ok (date_parts d)
read_as d word e = ap parse_date e ∙ parse_date-date_text d

pub none_read : (word : List ℕ) (e : Error) (day : ℤ) → date_view (Err e) ≡ parse_date word → IsDayWord word day → ⊥
none_read word e day h w = let k = read_as w.date word w.written in cc

-- the parts are all that a date's text and number see
pub same_text : (d c : Date) → date_parts d ≡ date_parts c → date_text d ≡ date_text c
same_text d c h =
    let y : d.year ≡ c.year = ap (λ (p : DateParts). p.year) h in
    let m : d.month ≡ c.month = ap (λ (p : DateParts). p.month) h in
    let a : d.day ≡ c.day = ap (λ (p : DateParts). p.day) h in
    rw (y, m, a)

pub same_day : (d c : Date) → date_parts d ≡ date_parts c → epoch_day d ≡ epoch_day c
same_day d c h =
    let y : d.year ≡ c.year = ap (λ (p : DateParts). p.year) h in
    let m : d.month ≡ c.month = ap (λ (p : DateParts). p.month) h in
    let a : d.day ≡ c.day = ap (λ (p : DateParts). p.day) h in
    rw (y, m, a)

parts_of : (d c : Date) (word : List ℕ) → date_view (Ok d) ≡ parse_date word → word ≡ date_text c → date_parts d ≡ date_parts c
parts_of d c word h e = let k = read_as c word e in cc

-- a date that was read, and whose text is not the word
pub other_text : (d : Date) (word : List ℕ) (day : ℤ) → date_view (Ok d) ≡ parse_date word → (date_text d ≡ word → ⊥) → IsDayWord word day → ⊥
other_text d word day h n w = n (same_text d w.date (parts_of d w.date word h w.written) ∙ sym w.written)

-- a word is of one day
pub one_day : (word : List ℕ) (a b : ℤ) → IsDayWord word a → IsDayWord word b → a ≡ b
one_day word a b v w =
    let p = read_as v.date word v.written in
    let q = read_as w.date word w.written in
    let e : date_parts v.date ≡ date_parts w.date = cc in
    sym v.counted ∙ same_day v.date w.date e ∙ w.counted
