-- The byte of flags says what it was made of.
use Rattle.std.proofs.Common.{◌≡◌, ℕ, ◌/◌, ◌%◌, ◌<◌, ◌==◌, Bool, true, false, if◌then◌else◌, Option, Some, None, is_some, refl, sym, ap, ◌∙◌, arith}
use Rattle.std.proofs.lemmas.Bool.{eqb-false, eqb-true}
use Rattle.statistics_bytes.specs.Encoding.{bound_flags, count_flag, flags}
use Rattle.vortex_statistics.specs.Statistics.{Known, KnownBound}
use Rattle.statistics_bytes.specs.declared.flags.BoundState.{BoundState}
use Rattle.statistics_bytes.specs.declared.flags.BoundState.TheVariants.{Missing, Inexact, Exact}
use Rattle.statistics_bytes.specs.declared.flags.Flags.{Flags}
use Rattle.statistics_bytes.specs.EncodingSteps.{flag_bit, flags_byte, flags_of, state_at, state_bits, state_of}

bits_below_4 : (s : BoundState) → state_bits s < 4
bits_below_4 Missing = omega arith
bits_below_4 Inexact = omega arith
bits_below_4 Exact = omega arith

bit_below_2 : (b : Bool) → flag_bit b < 2
bit_below_2 true = omega arith
bit_below_2 false = omega arith

-- what the byte of flags says
pub record SaysFlags (f : Flags) (byte : ℕ) : Type 0 where
  pub nulls : flag_bit f.has_null_count ≡ byte % 2
  pub lower : state_bits f.lower ≡ byte / 2 % 4
  pub upper : state_bits f.upper ≡ byte / 8

pub says_flags : (f : Flags) (byte : ℕ) → flags_byte f ≡ byte → SaysFlags f byte
says_flags f byte e =
    let nulls = bit_below_2 f.has_null_count in
    let lower = bits_below_4 f.lower in
    let upper = bits_below_4 f.upper in
    record { nulls = omega arith; lower = omega arith; upper = omega arith }

pub made_flags : (odd : Bool) (lower upper : BoundState) (byte : ℕ) → flag_bit odd ≡ byte % 2 → state_bits lower ≡ byte / 2 % 4 → state_bits upper ≡ byte / 8 → flags_byte (record { has_null_count = odd; lower = lower; upper = upper }) ≡ byte
made_flags odd lower upper byte e f g = omega arith

pub odd_bit : (byte : ℕ) → flag_bit (byte % 2 == 1) ≡ byte % 2
odd_bit byte = by_test (byte % 2 == 1) refl
  where
    by_test : (b : Bool) → (byte % 2 == 1) ≡ b → flag_bit b ≡ byte % 2
    by_test true e = sym (eqb-true (byte % 2) 1 e)
    by_test false e = let odd : byte % 2 ≡ 1 → ⊥ = eqb-false (byte % 2) 1 e in omega arith

bits-apart : (s t : BoundState) → state_bits s ≡ state_bits t → s ≡ t
bits-apart Missing Missing e = refl
bits-apart Missing Inexact e = absurd (omega arith)
bits-apart Missing Exact e = absurd (omega arith)
bits-apart Inexact Missing e = absurd (omega arith)
bits-apart Inexact Inexact e = refl
bits-apart Inexact Exact e = absurd (omega arith)
bits-apart Exact Missing e = absurd (omega arith)
bits-apart Exact Inexact e = absurd (omega arith)
bits-apart Exact Exact e = refl

bit-apart : (b c : Bool) → flag_bit b ≡ flag_bit c → b ≡ c
bit-apart true true e = refl
bit-apart true false e = absurd (omega arith)
bit-apart false true e = absurd (omega arith)
bit-apart false false e = refl

-- two flags with one byte are the same
pub flags-apart : (f g : Flags) → flags_byte f ≡ flags_byte g → f ≡ g
flags-apart f g e =
    let p = says_flags f (flags_byte g) e in
    let q = says_flags g (flags_byte g) refl in
    let nulls : f.has_null_count ≡ g.has_null_count = bit-apart f.has_null_count g.has_null_count (p.nulls ∙ sym q.nulls) in
    let lower : f.lower ≡ g.lower = bits-apart f.lower g.lower (p.lower ∙ sym q.lower) in
    let upper : f.upper ≡ g.upper = bits-apart f.upper g.upper (p.upper ∙ sym q.upper) in
    let made : Bool → BoundState → BoundState → Flags = λ n l u. record { has_null_count = n; lower = l; upper = u } in
    ap (λ n. made n f.lower f.upper) nulls ∙ ap (λ l. made g.has_null_count l f.upper) lower ∙ ap (λ u. made g.has_null_count g.lower u) upper

pub no_lower : (byte : ℕ) → ((s : BoundState) → state_bits s ≡ byte / 2 % 4 → ⊥) → (f : Flags) → flags_byte f ≡ byte → ⊥
no_lower byte none f e = none f.lower (says_flags f byte e).lower

pub no_upper : (byte : ℕ) → ((s : BoundState) → state_bits s ≡ byte / 8 → ⊥) → (f : Flags) → flags_byte f ≡ byte → ⊥
no_upper byte none f e = none f.upper (says_flags f byte e).upper

pub ruleset decoded = (made_flags, odd_bit, no_lower, no_upper)

-- ---- the byte of statistics

bound_bits : (b : Option KnownBound) → bound_flags b ≡ state_bits (state_of b)
bound_bits None = refl
bound_bits (Some b) = by_test b.is_exact
  where
    by_test : (e : Bool) → (if e then 3 else 1) ≡ state_bits (state_at e)
    by_test true = refl
    by_test false = refl

count_bit : (n : Option ℕ) → count_flag n ≡ flag_bit (is_some n)
count_bit None = refl
count_bit (Some n) = refl

pub flags-byte : (s : Known) → flags s ≡ flags_byte (flags_of s)
flags-byte s =
    let nulls = count_bit s.null_count in
    let lower = bound_bits s.lower in
    let upper = bound_bits s.upper in
    omega arith

bound_flags_below : (b : Option KnownBound) → bound_flags b < 4
bound_flags_below b = let e = bound_bits b in let h = bits_below_4 (state_of b) in omega arith
