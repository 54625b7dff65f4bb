-- A name is of one type: what is tried, in order.
use Rattle.std.proofs.Common.{◌≡◌, ◌≢◌, ◌∙◌, ◌+◌, ◌<◌, ℕ, Bool, true, false, List, refl, arith, nat_lt, get_or}
use Rattle.std.proofs.lemmas.Bool.Decides.{nat_tests}
use Rattle.logical_types.specs.Names.{decimal_name, plain_types}
use Rattle.logical_types.specs.declared.times.TimeUnit.TheVariants.{Seconds, Milliseconds, Microseconds, Nanoseconds}
use Rattle.logical_types.specs.declared.logical.DecimalType.{DecimalType}
use Rattle.logical_types.specs.declared.logical.LogicalType.{LogicalType}
use Rattle.logical_types.specs.declared.logical.LogicalType.TheVariants.{Float64, Float32, Decimal, Date, Time, Timestamp}

-- what holds of each type in the list and of decimals holds of all
pub by_list : (P : LogicalType → Type 0) → ((k : ℕ) → k < 15 → P (get_or plain_types k Float64)) → ((d : DecimalType) → P (Decimal d)) → (l : LogicalType) → P l
by_list P f g Float64 = f 0 (omega arith)
by_list P f g Float32 = f 1 (omega arith)
by_list P f g (Decimal d) = g d
by_list P f g Date = f 2 (omega arith)
by_list P f g (Time Seconds) = f 3 (omega arith)
by_list P f g (Time Milliseconds) = f 4 (omega arith)
by_list P f g (Time Microseconds) = f 5 (omega arith)
by_list P f g (Time Nanoseconds) = f 6 (omega arith)
by_list P f g (Timestamp Seconds false) = f 7 (omega arith)
by_list P f g (Timestamp Milliseconds false) = f 8 (omega arith)
by_list P f g (Timestamp Microseconds false) = f 9 (omega arith)
by_list P f g (Timestamp Nanoseconds false) = f 10 (omega arith)
by_list P f g (Timestamp Seconds true) = f 11 (omega arith)
by_list P f g (Timestamp Milliseconds true) = f 12 (omega arith)
by_list P f g (Timestamp Microseconds true) = f 13 (omega arith)
by_list P f g (Timestamp Nanoseconds true) = f 14 (omega arith)

-- a name tells no more of a type of decimals than its precision and its scale
same_name : (d e : DecimalType) → d.precision ≡ e.precision → d.scale ≡ e.scale → decimal_name d ≡ decimal_name e
same_name d e p s = rw (p, s)

-- one scale more
pub next_scale : (word : List ℕ) (tried : DecimalType) → word ≢ decimal_name tried
    → ((d : DecimalType) → d.precision ≡ tried.precision → d.scale < tried.scale → word ≢ decimal_name d)
    → (d : DecimalType) → d.precision ≡ tried.precision → d.scale < tried.scale + 1 → word ≢ decimal_name d
next_scale word tried fresh before d p s w = go (nat_lt d.scale tried.scale) refl
  where
    go : (b : Bool) → nat_lt d.scale tried.scale ≡ b → ⊥
    go true e = before d p (grind (arith, nat_tests)) w
    go false e = let q : d.scale ≡ tried.scale = grind (arith, nat_tests) in fresh (w ∙ same_name d tried p q)

-- one precision more
pub next_precision : (word : List ℕ) (precision : ℕ) → ((d : DecimalType) → d.precision ≡ precision → word ≢ decimal_name d)
    → ((d : DecimalType) → d.precision < precision → word ≢ decimal_name d)
    → (d : DecimalType) → d.precision < precision + 1 → word ≢ decimal_name d
next_precision word precision fresh before d p w = go (nat_lt d.precision precision) refl
  where
    go : (b : Bool) → nat_lt d.precision precision ≡ b → ⊥
    go true e = before d (grind (arith, nat_tests)) w
    go false e = let q : d.precision ≡ precision = grind (arith, nat_tests) in fresh d q w
