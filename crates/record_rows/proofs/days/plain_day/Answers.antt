-- Ten bytes are the text of a date.
use Rattle.std.proofs.Common.{rules, ◌≡◌, ◌+◌, ◌*◌, ◌/◌, ◌%◌, ◌<◌, ℕ, pos, List, [], ◌∷◌, refl, ◌∙◌, arith, get_or, length, w8}
use Rattle.std.proofs.lemmas.Int.{ints, to_z_pos}
use Rattle.jiff_core.specs.declared.civil.date.Date.{Date}
use Rattle.jiff_fmt.specs.Text.{date_text, pad2}
use Rattle.record_rows.proofs.days.plain_day.Goals as goal

ten : (xs : List ℕ) → length xs ≡ 10 → xs ≡ get_or xs 0 0 ∷ get_or xs 1 0 ∷ get_or xs 2 0 ∷ get_or xs 3 0 ∷ get_or xs 4 0 ∷ get_or xs 5 0 ∷ get_or xs 6 0 ∷ get_or xs 7 0 ∷ get_or xs 8 0 ∷ get_or xs 9 0 ∷ []
ten (a ∷ b ∷ c ∷ d ∷ e ∷ f ∷ g ∷ h ∷ i ∷ j ∷ []) long = refl
ten xs long = absurd (omega (arith, long))

-- the text of a date whose year has four digits
text_is : (date : Date) (century year month day : ℕ) → year < 100 → date.year ≡ pos (century * 100 + year) → date.month ≡ month → date.day ≡ day → date_text date ≡ (48 + century / 10) ∷ (48 + century % 10) ∷ (48 + year / 10) ∷ (48 + year % 10) ∷ 45 ∷ (48 + month / 10) ∷ (48 + month % 10) ∷ 45 ∷ (48 + day / 10) ∷ (48 + day % 10) ∷ []
text_is date century year month day small y m d =
    let high : (century * 100 + year) / 100 ≡ century = omega arith in
    let low : (century * 100 + year) % 100 ≡ year = omega arith in
    rw (y, m, d, high, low) refl

written_is : (word : List ℕ) (date : Date) (century year month day : ℕ) → length word ≡ 10 → get_or word 4 0 ≡ 45 → get_or word 7 0 ≡ 45 → pad2 century ≡ get_or word 0 0 ∷ get_or word 1 0 ∷ [] → pad2 year ≡ get_or word 2 0 ∷ get_or word 3 0 ∷ [] → pad2 month ≡ get_or word 5 0 ∷ get_or word 6 0 ∷ [] → pad2 day ≡ get_or word 8 0 ∷ get_or word 9 0 ∷ []
    → year < 100 → date.year ≡ pos (century * 100 + year) → date.month ≡ month → date.day ≡ day → word ≡ date_text date
written_is word date century year month day long first second c y m d small in_year in_month in_day =
    let whole = ten word long in
    let text = text_is date century year month day small in_year in_month in_day in
    cc

pub returns-in-Ok : goal.returns-in-Ok
returns-in-Ok c =
    let date = c.in-Ok.date in
    let century = c.in_ok-century.century in
    let year = c.in_ok-year.year in
    let month = c.in_ok-month.month in
    let day = c.in_ok-day.day in
    let long : length c.args.word.now ≡ 10 = omega (arith, c.in-45.len_at_least, c.in-45.len_below) in
    let first : get_or c.args.word.now 4 0 ≡ 45 = first_of (cc, omega arith, search rules) in
    let second : get_or c.args.word.now 7 0 ≡ 45 = first_of (cc, omega arith, search rules) in
    let in_year : date.year ≡ pos (century * 100 + year) = omega (arith, ints, c.in-Ok.ensures.value.0) in
    let in_month : date.month ≡ month = let same : pos date.month ≡ pos month = c.in-Ok.ensures.value.1 ∙ to_z_pos w8 month (omega (arith, c.in_ok-month.ensures.small)) in cc in
    let in_day : date.day ≡ day = let same : pos date.day ≡ pos day = c.in-Ok.ensures.value.2 ∙ to_z_pos w8 day (omega (arith, c.in_ok-day.ensures.small)) in cc in
    record {
      date = date;
      counted = search rules;
      written = written_is c.args.word.now date century year month day long first second c.in_ok-century.ensures.text c.in_ok-year.ensures.text c.in_ok-month.ensures.text c.in_ok-day.ensures.text c.in_ok-year.ensures.small in_year in_month in_day;
    }
