-- Steps of the reading of a number, byte by byte.
use Rattle.std.proofs.Common.{◌≡◌, ℕ, zero, suc, ◌+◌, ◌-◌, ◌*◌, ◌/◌, ◌^◌, ◌<◌, ◌≤◌, ◌⊎◌, inl, inr, Bool, true, false, List, [], ◌∷◌, ◌++◌, length, length-append, take, drop, get_or, refl, sym, subst, ap, ◌∙◌, arith}
use Rattle.vortex_row.specs.Bytes.{inverted_again}
use Rattle.vortex_row.specs.Held.{AreBytes}
use Rattle.vortex_row.specs.Keys.{big_endian, inverted, number_bytes}
use Rattle.vortex_row.specs.Numbers.{HasDistance, HasMagnitude, IsMagnitude}
use Rattle.vortex_row.specs.Reading.{BeginAlike, IsInverted, IsStuck}
use Rattle.vortex_row.proofs.ByteLaws.{no_bytes, bytes_after, bytes_then}
use Rattle.vortex_row.proofs.NumberLaws.{number-bytes, number-length}
use Rattle.vortex_row.proofs.StuckLaws.{stuck-inverted}
use Rattle.vortex_row.proofs.ReaderSteps.{at-once, drop-inverted, none-left, inverted-append, inverted-are_bytes, inverted-back, take-length, take-more, take-then}
use Rattle.vortex_row.proofs.NumberReading.{worth, scaled, zeros, worth-append, scaled-least, scaled-monotone, worth-least, worth-zeros, zeros-length, zeros-bytes, worth-number, IsCanonical, number-of-bytes, canonical-first, canonical-from, canonical-more, canonical-number, canonical-worth, longer, scaled-to_limit, limit-from_scaled}

-- so many bytes are read, and are this number; with zeros after it, it is up to the limit
pub record Began (width limit : ℕ) (xs : List ℕ) (taken number : ℕ) : Type 0 where
  pub there : taken ≤ length xs
  pub bytes : AreBytes (take taken xs)
  pub is : number ≡ worth 0 (take taken xs)
  pub canonical : IsCanonical (take taken xs)
  pub small : scaled (width - taken) number ≤ limit

pub began-none : (width limit : ℕ) (xs : List ℕ) → Began width limit xs 0 0
began-none width limit xs = record { there = omega arith; bytes = no_bytes; is = refl; canonical = refl; small = let e : width ≡ width - 0 = omega arith in subst (λ k. scaled k 0 ≤ limit) e (nothing width limit) }
  where
    nothing : (k limit : ℕ) → scaled k 0 ≤ limit
    nothing zero limit = omega arith
    nothing (suc k) limit = nothing k limit

-- it still fits 64 bits with one byte more
pub began-fits : (width limit : ℕ) (xs : List ℕ) (taken number : ℕ) → Began width limit xs taken number → taken < width → limit < 2 ^ 64 → number * 256 + 255 < 2 ^ 64
began-fits width limit xs taken number h less fits =
    let small = h.small in
    let e : width - taken ≡ suc (width - taken - 1) = omega arith in
    let same : scaled (width - taken) number ≡ scaled (width - taken - 1) (number * 256) = ap (λ k. scaled k number) e in
    let least = scaled-least (width - taken - 1) (number * 256) in
    omega arith

-- one byte more

more-canonical : (done : List ℕ) (number b : ℕ) → number ≡ worth 0 done → IsCanonical done → 0 < number * 256 + b → IsCanonical (done ++ b ∷ [])
more-canonical [] number b is c h = canonical-from b [] (omega arith)
more-canonical (d ∷ done) number b is c h = canonical-more (d ∷ done) (b ∷ []) (λ e. cc) c

pub began-more : (width limit : ℕ) (xs : List ℕ) (taken number b : ℕ) → Began width limit xs taken number → taken < width → width ≤ 8 → taken < length xs → b ≡ get_or xs taken 0 → b < 256
    → 0 < number * 256 + b → number * 256 + b ≤ limit / 2 ^ (8 * (width - 1 - taken)) → Began width limit xs (suc taken) (number * 256 + b)
began-more width limit xs taken number b h less eight there is byte some few =
    let step : take (suc taken) xs ≡ take taken xs ++ b ∷ [] = take-more taken xs there ∙ ap (λ c. take taken xs ++ c ∷ []) (sym is) in
    let k : width - 1 - taken ≡ width - suc taken = omega arith in
    record {
      there = omega arith;
      bytes = subst AreBytes (sym step) (bytes_then (take taken xs) (b ∷ []) h.bytes (bytes_after b [] byte no_bytes));
      is = ap (λ n. n * 256 + b) h.is ∙ sym (worth-append 0 (take taken xs) (b ∷ [])) ∙ sym (ap (worth 0) step);
      canonical = subst IsCanonical (sym step) (more-canonical (take taken xs) number b h.is h.canonical some);
      small = subst (λ j. scaled j (number * 256 + b) ≤ limit) k (scaled-to_limit (width - 1 - taken) (number * 256 + b) limit (omega arith) few);
    }

-- all bytes are there
pub began-all : (width limit : ℕ) (xs : List ℕ) (number : ℕ) → Began width limit xs width number → width ≤ 8 → HasMagnitude width limit xs number
began-all width limit xs number h eight =
    let count = take-length width xs h.there in
    let same : number_bytes number ≡ take width xs = ap number_bytes h.is ∙ number-of-bytes (take width xs) h.canonical h.bytes (omega arith) in
    let small = h.small in
    let none : width - width ≡ 0 = omega arith in
    record {
      small = subst (λ k. scaled k number ≤ limit) none small;
      count = ap length same ∙ count;
      is = take-then width xs ∙ ap (λ ys. ys ++ drop width xs) (sym same);
    }

-- the bytes so far begin a number, as they do with zeros after them

began-whole : (width limit taken number : ℕ) (done : List ℕ) → taken ≤ width → width ≤ 8 → AreBytes done → number ≡ worth 0 done → IsCanonical (done ++ zeros (width - taken)) → length done ≡ taken
    → scaled (width - taken) number ≤ limit → IsMagnitude width limit (done ++ zeros (width - taken))
began-whole width limit taken number done less eight bytes is c count small =
    let more = zeros (width - taken) in
    let long = length-append done more in
    let rest = zeros-length (width - taken) in
    let same : number_bytes (worth 0 (done ++ more)) ≡ done ++ more = number-of-bytes (done ++ more) c (bytes_then done more bytes (zeros-bytes (width - taken))) (omega arith) in
    let value : worth 0 (done ++ more) ≡ scaled (width - taken) number = worth-append 0 done more ∙ worth-zeros (width - taken) (worth 0 done) ∙ ap (scaled (width - taken)) (sym is) in
    let all : length (done ++ more) ≡ width = omega arith in
    record { number = worth 0 (done ++ more); small = subst (λ n. n ≤ limit) (sym value) small; count = ap length same ∙ all; is = sym same }

began-begins : (width limit taken number : ℕ) (done : List ℕ) → taken ≤ width → width ≤ 8 → AreBytes done → number ≡ worth 0 done → IsCanonical done → length done ≡ taken
    → scaled (width - taken) number ≤ limit → (done ≡ []) ⊎ ((more : List ℕ) × IsMagnitude width limit (done ++ more))
began-begins width limit taken number [] less eight bytes is c count small = inl refl
began-begins width limit taken number (d ∷ done) less eight bytes is c count small =
    inr (zeros (width - taken), began-whole width limit taken number (d ∷ done) less eight bytes is (canonical-more (d ∷ done) (zeros (width - taken)) (λ e. cc) c) count small)

-- where no number goes on

no-canonical : (done : List ℕ) (number b : ℕ) (bs : List ℕ) → number ≡ worth 0 done → IsCanonical done → number * 256 + b ≡ 0 → ¬ (IsCanonical (done ++ b ∷ bs))
no-canonical [] number b bs is c e whole = let some = canonical-first b bs whole in omega arith
no-canonical (d ∷ done) number b bs is c e whole = let some = canonical-worth d done c in omega arith

-- a number that goes on with this byte is not up to the limit, or begins with 0
no-number : (width limit taken number b : ℕ) (done more : List ℕ) (whole : ℕ) → width ≤ 8 → taken < width → limit < 2 ^ 64 → number ≡ worth 0 done → IsCanonical done → length done ≡ taken
    → whole ≤ limit → length (number_bytes whole) ≡ width → number_bytes whole ≡ done ++ b ∷ more → (number * 256 + b ≡ 0) ⊎ (limit / 2 ^ (8 * (width - 1 - taken)) < number * 256 + b) → ⊥
no-number width limit taken number b done more whole eight less fits is c count small wide e (inl nothing) =
    no-canonical done number b more is c nothing (subst IsCanonical e (canonical-number (big_endian 8 whole)))
no-number width limit taken number b done more whole eight less fits is c count small wide e (inr great) =
    let long = length-append done (b ∷ more) in
    let all : length (number_bytes whole) ≡ length (done ++ b ∷ more) = ap length e in
    let rest : length more ≡ width - 1 - taken = omega arith in
    let value : whole ≡ worth (number * 256 + b) more =
    sym (worth-number whole (omega arith)) ∙ ap (worth 0) e ∙ worth-append 0 done (b ∷ more) ∙ ap (λ n. worth (n * 256 + b) more) (sym is) in
    let least : scaled (length more) (number * 256 + b) ≤ worth (number * 256 + b) more = worth-least (number * 256 + b) more in
    let least_at : scaled (width - 1 - taken) (number * 256 + b) ≤ worth (number * 256 + b) more = subst (λ k. scaled k (number * 256 + b) ≤ worth (number * 256 + b) more) rest least in
    let few = limit-from_scaled (width - 1 - taken) (number * 256 + b) limit (omega arith) (omega arith) in
    omega arith

pub number-bad : (width limit : ℕ) (xs : List ℕ) (taken number b : ℕ) → Began width limit xs taken number → width ≤ 8 → taken < width → limit < 2 ^ 64 → taken < length xs → b ≡ get_or xs taken 0
    → (number * 256 + b ≡ 0) ⊎ (limit / 2 ^ (8 * (width - 1 - taken)) < number * 256 + b) → IsStuck (IsMagnitude width limit) xs (drop taken xs)
number-bad width limit xs taken number b h eight less fits there is wrong =
    let count = take-length taken xs h.there in
    record {
      done = take taken xs;
      split = take-then taken xs;
      begins = began-begins width limit taken number (take taken xs) (omega arith) eight h.bytes h.is h.canonical count h.small;
      none = λ s zs rest m alike e.
          let wide = ap length m.is in
          let wide_enough = m.count in
          let more = longer (take taken xs) s zs rest e (omega arith) in
          let first : drop taken xs ≡ b ∷ drop (suc taken) xs = at-once taken xs there ∙ ap (λ c. c ∷ drop (suc taken) xs) (sym is) in
          let same : b ≡ more.next = subst (λ ys. BeginAlike ys (more.next ∷ more.more ++ rest)) first (subst (BeginAlike (drop taken xs)) more.after alike) in
          no-number width limit taken number b (take taken xs) more.more m.number eight less fits h.is h.canonical count m.small m.count
          (sym m.is ∙ more.whole ∙ ap (λ c. take taken xs ++ c ∷ more.more) (sym same)) wrong;
    }

pub number-ends : (width limit : ℕ) (xs : List ℕ) (taken number : ℕ) → Began width limit xs taken number → width ≤ 8 → taken < width → length xs ≤ taken
    → IsStuck (IsMagnitude width limit) xs (drop taken xs)
number-ends width limit xs taken number h eight less past =
    let count = take-length taken xs h.there in
    record {
      done = take taken xs;
      split = take-then taken xs;
      begins = began-begins width limit taken number (take taken xs) (omega arith) eight h.bytes h.is h.canonical count h.small;
      none = λ s zs rest m alike e.
          let wide = ap length m.is in
          let wide_enough = m.count in
          let more = longer (take taken xs) s zs rest e (omega arith) in
          subst (λ ys. BeginAlike ys (more.next ∷ more.more ++ rest)) (none-left taken xs past) (subst (BeginAlike (drop taken xs)) more.after alike);
    }

-- how many bytes a number up to the limit may have

pub width-some : (width limit : ℕ) → width ≤ 8 → (width ≡ 0) ⊎ (0 < limit / 2 ^ (8 * (width - 1))) → (bs : List ℕ) × IsMagnitude width limit bs
width-some zero limit h either = ([], record { number = 0; small = omega arith; count = refl; is = refl })
width-some (suc k) limit h (inl e) = absurd (omega arith)
width-some (suc k) limit h (inr some) =
    let less : suc k - 1 ≡ k = omega arith in
    let few : 0 < limit / 2 ^ (8 * k) = subst (λ j. 0 < limit / 2 ^ (8 * j)) less some in
    let bs = 1 ∷ zeros k in
    let rest = zeros-length k in
    let same : number_bytes (worth 0 bs) ≡ bs = number-of-bytes bs refl (bytes_after 1 (zeros k) (omega arith) (zeros-bytes k)) (omega arith) in
    let value : worth 0 bs ≡ scaled k 1 = worth-zeros k 1 in
    let small = scaled-to_limit k 1 limit (omega arith) (omega arith) in
    (bs, record { number = worth 0 bs; small = omega arith; count = ap length same ∙ ap suc rest; is = sym same })

first-worth : (k limit n : ℕ) (bs : List ℕ) → n < 2 ^ 64 → number_bytes n ≡ bs → IsCanonical bs → length bs ≡ suc k → scaled k 1 ≤ n
first-worth k limit n [] h e c count = absurd (omega arith)
first-worth k limit n (b ∷ bs) h e c count =
    let first = canonical-first b bs c in
    let value : n ≡ worth (0 * 256 + b) bs = sym (worth-number n h) ∙ ap (worth 0) e in
    let least = worth-least (0 * 256 + b) bs in
    let one = scaled-monotone (length bs) 1 (0 * 256 + b) (omega arith) in
    let same : length bs ≡ k = omega arith in
    let at : scaled k 1 ≤ scaled k (0 * 256 + b) = subst (λ j. scaled j 1 ≤ scaled j (0 * 256 + b)) same one in
    let low : scaled k (0 * 256 + b) ≤ worth (0 * 256 + b) bs = subst (λ j. scaled j (0 * 256 + b) ≤ worth (0 * 256 + b) bs) same least in
    omega arith

pub width-none : (width limit : ℕ) → limit < 2 ^ 64 → (8 < width) ⊎ ((0 < width) × (limit / 2 ^ (8 * (width - 1)) ≡ 0)) → (bs : List ℕ) → ¬ (IsMagnitude width limit bs)
width-none width limit h (inl wide) bs m = let few = number-length m.number in let count = m.count in omega arith
width-none zero limit h (inr none) bs m = let some = none.0 in omega arith
width-none (suc k) limit h (inr none) bs m =
    let few = number-length m.number in
    let count = m.count in
    let small = m.small in
    let least = first-worth k limit m.number (number_bytes m.number) (omega arith) refl (canonical-number (big_endian 8 m.number)) m.count in
    let less : suc k - 1 ≡ k = omega arith in
    let nothing : limit / 2 ^ (8 * k) ≡ 0 = subst (λ j. limit / 2 ^ (8 * j) ≡ 0) less none.1 in
    let one = limit-from_scaled k 1 limit (omega arith) (omega arith) in
    omega arith

-- the distance of a number from 0, its bytes inverted or not

twice : (i below : Bool) (bs : List ℕ) → AreBytes bs → inverted i bs ≡ inverted below (inverted (inverted_again i below) bs)
twice false false bs h = refl
twice true false bs h = refl
twice false true bs h = sym (inverted-back bs h)
twice true true bs h = refl

pub distance-stuck : (i below d : Bool) (width limit place : ℕ) (bs old now : List ℕ) → AreBytes bs → d ≡ inverted_again i below → old ≡ inverted i bs → now ≡ drop place old
    → IsStuck (IsMagnitude width limit) (inverted d bs) (drop place (inverted d bs)) → IsStuck (IsInverted below (IsMagnitude width limit)) old now
distance-stuck i below d width limit place bs old now h same is after stuck =
    let xs = inverted (inverted_again i below) bs in
    let e : old ≡ inverted below xs = is ∙ twice i below bs h in
    let f : now ≡ inverted below (drop place xs) = after ∙ ap (drop place) e ∙ drop-inverted below place xs in
    let plain = subst (λ b. IsStuck (IsMagnitude width limit) (inverted b bs) (drop place (inverted b bs))) same stuck in
    subst (λ ys. IsStuck (IsInverted below (IsMagnitude width limit)) ys now) (sym e)
    (subst (λ ys. IsStuck (IsInverted below (IsMagnitude width limit)) (inverted below xs) ys) (sym f)
    (stuck-inverted below (IsMagnitude width limit) xs (drop place xs) (λ s m. subst AreBytes (sym m.is) (number-bytes m.number)) (inverted-are_bytes (inverted_again i below) bs h) plain))

pub distance-read : (i below d : Bool) (width limit n : ℕ) (bs old now : List ℕ) → AreBytes bs → d ≡ inverted_again i below → old ≡ inverted i bs → now ≡ drop width old → HasMagnitude width limit (inverted d bs) n
    → HasDistance below width limit n old now
distance-read i below d width limit n bs old now h same is after m =
    let xs = inverted (inverted_again i below) bs in
    let e : old ≡ inverted below xs = is ∙ twice i below bs h in
    let f : now ≡ inverted below (drop width xs) = after ∙ ap (drop width) e ∙ drop-inverted below width xs in
    let g : xs ≡ number_bytes n ++ drop width xs = subst (λ b. inverted b bs ≡ number_bytes n ++ drop width (inverted b bs)) same m.is in
    record { small = m.small; count = m.count; is = e ∙ ap (inverted below) g ∙ inverted-append below (number_bytes n) (drop width xs) ∙ ap (λ ys. inverted below (number_bytes n) ++ ys) (sym f) }

pub distance-within : (width limit n : ℕ) (xs : List ℕ) → HasMagnitude width limit xs n → width ≤ length xs
distance-within width limit n xs m =
    let count = m.count in
    let long = ap length m.is in
    let all = length-append (number_bytes n) (drop width xs) in
    omega arith

pub ruleset widths = (width-some, width-none)
