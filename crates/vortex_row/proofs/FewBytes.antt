-- The number of a few bytes, one by one and without a limit.
use Rattle.std.proofs.Common.{◌≡◌, ℕ, zero, suc, ◌+◌, ◌-◌, ◌*◌, ◌/◌, ◌^◌, ◌<◌, ◌≤◌, List, length, take, get_or, subst, arith}
use Rattle.vortex_row.specs.Held.{AreBytes}
use Rattle.vortex_row.specs.Numbers.{HasMagnitude}
use Rattle.vortex_row.proofs.NumberReading.{worth, scaled, IsCanonical}
use Rattle.vortex_row.proofs.NumberSteps.{Began, began-all, began-more, began-none}
use Rattle.vortex_row.proofs.NumberWords.{worth-most}
use Rattle.vortex_row.proofs.ReaderSteps.{take-length}

-- so many bytes are read, do not begin with 0, and are this number
pub record AreFirst (xs : List ℕ) (taken number : ℕ) : Type 0 where
  pub there : taken ≤ length xs
  pub bytes : AreBytes (take taken xs)
  pub is : number ≡ worth 0 (take taken xs)
  pub canonical : IsCanonical (take taken xs)

pub first-none : (xs : List ℕ) → AreFirst xs 0 0
first-none xs = let none = began-none 0 0 xs in record { there = none.there; bytes = none.bytes; is = none.is; canonical = none.canonical }

few-scaled : (k : ℕ) → k ≤ 7 → scaled k 1 ≤ 2 ^ 56
few-scaled zero h = omega arith
few-scaled (suc zero) h = omega arith
few-scaled (suc (suc zero)) h = omega arith
few-scaled (suc (suc (suc zero))) h = omega arith
few-scaled (suc (suc (suc (suc zero)))) h = omega arith
few-scaled (suc (suc (suc (suc (suc zero))))) h = omega arith
few-scaled (suc (suc (suc (suc (suc (suc zero)))))) h = omega arith
few-scaled (suc (suc (suc (suc (suc (suc (suc zero))))))) h = omega arith
few-scaled (suc (suc (suc (suc (suc (suc (suc (suc k)))))))) h = absurd (omega arith)

-- it still fits 64 bits with one byte more
pub first-fits : (xs : List ℕ) (taken number : ℕ) → AreFirst xs taken number → taken ≤ 7 → number * 256 + 255 < 2 ^ 64
first-fits xs taken number h few =
    let most : worth 0 (take taken xs) < scaled taken 1 = subst (λ k. worth 0 (take taken xs) < scaled k 1) (take-length taken xs h.there) (worth-most 0 (take taken xs) h.bytes) in
    let top = few-scaled taken few in
    let is = h.is in
    omega arith

-- one byte more
pub first-more : (xs : List ℕ) (taken number b : ℕ) → AreFirst xs taken number → taken ≤ 7 → taken < length xs → b ≡ get_or xs taken 0 → b < 256 → 0 < number * 256 + b → AreFirst xs (suc taken) (number * 256 + b)
first-more xs taken number b h few there is byte some =
    let limit = number * 256 + b in
    let one : 1 ≡ suc taken - taken = omega arith in
    let none : 0 ≡ suc taken - 1 - taken = omega arith in
    let begun : Began (suc taken) limit xs taken number =
    record { there = h.there; bytes = h.bytes; is = h.is; canonical = h.canonical; small = subst (λ k. scaled k number ≤ limit) one (omega arith) } in
    let more : Began (suc taken) limit xs (suc taken) limit = began-more (suc taken) limit xs taken number b begun (omega arith) (omega arith) there is byte some (subst (λ k. limit ≤ limit / 2 ^ (8 * k)) none (omega arith)) in
    record { there = more.there; bytes = more.bytes; is = more.is; canonical = more.canonical }

-- all bytes are there
pub first-all : (width limit : ℕ) (xs : List ℕ) (number : ℕ) → AreFirst xs width number → width ≤ 8 → number ≤ limit → HasMagnitude width limit xs number
first-all width limit xs number h eight small =
    let none : 0 ≡ width - width = omega arith in
    began-all width limit xs number (record { there = h.there; bytes = h.bytes; is = h.is; canonical = h.canonical; small = subst (λ k. scaled k number ≤ limit) none small }) eight
