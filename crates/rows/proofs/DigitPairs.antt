-- Pairs of hexadecimal digits that are read into just the bytes that they need.
use Rattle.std.proofs.Common.{◌≡◌, ℕ, ◌+◌, ◌*◌, ◌/◌, ◌%◌, ◌<◌, ◌≤◌, Option, None, Some, Ok, Err, List, length, slice_index, slice_set, take, drop, refl, arith}
use Rattle.std.specs.Prelude.{MatchResult}
use Rattle.hex.specs.Hex.{decode_pairs, decode_sized, hex_digit_value, pair_value}
use Rattle.hex.specs.declared.error.FromHexError.{FromHexError}
use Rattle.hex.specs.declared.error.FromHexError.TheVariants.{InvalidHexCharacter}
use Rattle.hex.proofs.Pairs.{prepend, decode_done, decode_err, decode_sized-pairs, decode_step}
use Rattle.rows.specs.Digits.{byte_of_digits, byte_of_values}

-- both are digits
pair_ok : (a b i v : ℕ) (high low : Option ℕ) → hex_digit_value a ≡ high → hex_digit_value b ≡ low → byte_of_values high low ≡ Some v → pair_value a b i ≡ Ok v
pair_ok a b i v (Some h) (Some l) eh el e = rw (eh, el) (grind arith)
pair_ok a b i v (Some h) None eh el e = cc e
pair_ok a b i v None low eh el e = cc e

pub pair_is : (a b i v : ℕ) → byte_of_digits a b ≡ Some v → pair_value a b i ≡ Ok v
pair_is a b i v e = pair_ok a b i v _ _ refl refl e

-- one is no digit
pair_bad : (a b i : ℕ) (high low : Option ℕ) → hex_digit_value a ≡ high → hex_digit_value b ≡ low → byte_of_values high low ≡ None → (e : FromHexError) × (pair_value a b i ≡ Err e)
pair_bad a b i (Some h) (Some l) eh el e = cc e
pair_bad a b i (Some h) None eh el e = (InvalidHexCharacter b (i + 1), rw (eh, el) refl)
pair_bad a b i None low eh el e = (InvalidHexCharacter a i, rw eh refl)

pub pair_is_none : (a b i : ℕ) → byte_of_digits a b ≡ None → (e : FromHexError) × (pair_value a b i ≡ Err e)
pair_is_none a b i e = pair_bad a b i _ _ refl refl e

-- what is said of digits that are read, or not
abbrev pub IsRead : List ℕ → ℕ → Option Unit → List ℕ → Type 0
IsRead word n r bytes = MatchResult (decode_sized word n) (λ read. (r ≡ Some tt) × (bytes ≡ read)) (λ _. r ≡ None)

-- the invariant of the loop
abbrev pub IsReadTo : List ℕ → List ℕ → ℕ → Type 0
IsReadTo word bytes i = decode_pairs 0 word ≡ prepend (take i bytes) (decode_pairs (2 * i) (drop (2 * i) word))

pub one_more : (word bytes : List ℕ) (i v : ℕ) → 2 * i + 1 < length word → i < length bytes → byte_of_digits (slice_index word (2 * i)) (slice_index word (2 * i + 1)) ≡ Some v
    → IsReadTo word bytes i → IsReadTo word (slice_set bytes i v) (i + 1)
one_more word bytes i v fits room e so_far = decode_step word bytes i v fits room (pair_is (slice_index word (2 * i)) (slice_index word (2 * i + 1)) (2 * i) v e) so_far

pub one_bad : (word bytes : List ℕ) (i n : ℕ) (r : Option Unit) → length word % 2 ≡ 0 → length word / 2 ≡ n → 2 * i + 1 < length word → byte_of_digits (slice_index word (2 * i)) (slice_index word (2 * i + 1)) ≡ None
    → IsReadTo word bytes i → r ≡ None → IsRead word n r bytes
one_bad word bytes i n r even half fits e so_far none =
    let bad = pair_is_none (slice_index word (2 * i)) (slice_index word (2 * i + 1)) (2 * i) e in
    rw (decode_sized-pairs word n even half, decode_err word bytes i bad.0 fits bad.1 so_far) none

pub all_read : (word bytes : List ℕ) (i n : ℕ) → length word % 2 ≡ 0 → length word / 2 ≡ n → length bytes ≤ i → length word ≤ 2 * i
    → IsReadTo word bytes i → IsRead word n (Some tt) bytes
all_read word bytes i n even half done fits so_far =
    rw (decode_sized-pairs word n even half, decode_done word bytes i done fits so_far) (refl, refl)
