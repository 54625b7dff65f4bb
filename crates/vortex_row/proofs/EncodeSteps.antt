-- What the bytes are that the encoder chooses.
use Rattle.std.proofs.Common.{◌≡◌, ℕ, zero, suc, ◌+◌, ◌-◌, ◌*◌, ◌/◌, ◌%◌, ◌^◌, ◌<◌, ◌≤◌, Bool, true, false, List, [], ◌∷◌, ◌++◌, take, drop, length, get_or, Option, refl, sym, ap, ap₂, ◌∙◌, rules, arith}
use Rattle.std.specs.Global.{Vec}
use Rattle.std.specs.Int.{w64, to_be_bytes, byte_at, bytes_high_first}
use Rattle.std.proofs.Math.Nat.{div-div-eq-div-mul}
use Rattle.std.proofs.lemmas.List.{drop_more}
use Rattle.vortex_value.specs.Values.Content.{Content, content, contents, null}
use Rattle.vortex_value.specs.Values.RawTree.{RawTree, absent, is_absent}
use Rattle.vortex_value.specs.Values.RawOf.{raw_of, value_tree, value_trees}
use Rattle.vortex_value.specs.declared.values.ScalarValue.{ScalarValue, Tuple, the_lemmas}
use Rattle.vortex_value.proofs.ValueSteps.{value_tree-Tuple}
use Rattle.vortex_row.specs.Bytes.{inverted_again, inverted_byte}
use Rattle.vortex_row.specs.Columns.{key_with}
use Rattle.vortex_row.specs.Keys.{inverted, big_endian, number_bytes, escape, escaped, key, keys}
use Rattle.vortex_row.specs.Steps.{inverted_word, side_byte, side_key}
use Rattle.vortex_row.specs.declared.options.SortOptions.{SortOptions}
use Rattle.vortex_row.proofs.ByteLaws.{inverted-length}
use Rattle.vortex_row.proofs.LengthSteps.{escape-plain}
use Rattle.vortex_row.proofs.ReaderSteps.{inverted-append}

-- the bytes that std writes are those of the key

byte_higher : (k n : ℕ) → byte_at (suc k) n ≡ byte_at k (n / 256)
byte_higher zero n = refl
byte_higher (suc k) n =
    let e : 256 * 256 ^ suc k ≡ 256 ^ suc (suc k) = omega arith in
    let f : n / 256 ^ suc (suc k) ≡ n / 256 / 256 ^ suc k = sym (div-div-eq-div-mul n 256 (256 ^ suc k) ∙ ap (λ m. n / m) e) in
    ap (λ m. m % 256) f

last_byte : (k n : ℕ) → bytes_high_first (suc k) n ≡ bytes_high_first k (n / 256) ++ (n % 256) ∷ []
last_byte zero n = refl
last_byte (suc k) n = ap₂ (λ b bs. b ∷ bs) (byte_higher k n) (last_byte k n)

bytes-big_endian : (k n : ℕ) → bytes_high_first k n ≡ big_endian k n
bytes-big_endian zero n = refl
bytes-big_endian (suc k) n = last_byte k n ∙ ap (λ bs. bs ++ (n % 256) ∷ []) (bytes-big_endian k (n / 256))

pub bytes-64 : (n : ℕ) → to_be_bytes w64 n ≡ big_endian 8 n
bytes-64 n = bytes-big_endian 8 n

-- the bytes of what is left to the greatest number are inverted

pub inverted-big_endian : (k n : ℕ) → n < 256 ^ k → big_endian k (256 ^ k - 1 - n) ≡ inverted true (big_endian k n)
inverted-big_endian zero n h = refl
inverted-big_endian (suc k) n h =
    let high : (256 ^ suc k - 1 - n) / 256 ≡ 256 ^ k - 1 - n / 256 = omega arith in
    let low : (256 ^ suc k - 1 - n) % 256 ≡ 255 - n % 256 = omega arith in
    ap₂ (λ m b. big_endian k m ++ b ∷ []) high low ∙ ap (λ xs. xs ++ (255 - n % 256) ∷ []) (inverted-big_endian k (n / 256) (omega arith)) ∙ sym (inverted-append true (big_endian k (n / 256)) ((n % 256) ∷ []))

pub inverted-drop : (j : ℕ) (bs : List ℕ) → drop j (inverted true bs) ≡ inverted true (drop j bs)
inverted-drop zero bs = refl
inverted-drop (suc j) [] = refl
inverted-drop (suc j) (b ∷ bs) = inverted-drop j bs

-- the used bytes of a number, inverted once and twice

turned-bytes : (n j : ℕ) → n < 2 ^ 64 → number_bytes n ≡ drop j (big_endian 8 n) → drop j (big_endian 8 (2 ^ 64 - 1 - n)) ≡ inverted true (number_bytes n)
turned-bytes n j h f = ap (drop j) (inverted-big_endian 8 n h) ∙ inverted-drop j (big_endian 8 n) ∙ ap (inverted true) (sym f)

twice-turned : (n j : ℕ) → n < 2 ^ 64 → number_bytes n ≡ drop j (big_endian 8 n) → drop j (big_endian 8 n) ≡ inverted true (inverted true (number_bytes n))
twice-turned n j h f =
    let m : ℕ = 2 ^ 64 - 1 - n in
    let back : 2 ^ 64 - 1 - m ≡ n = omega arith in
    let once : drop j (big_endian 8 m) ≡ inverted true (number_bytes n) = turned-bytes n j h f in
    let again : drop j (big_endian 8 (2 ^ 64 - 1 - m)) ≡ inverted true (drop j (big_endian 8 m)) = ap (drop j) (inverted-big_endian 8 m (omega arith)) ∙ inverted-drop j (big_endian 8 m) in
    ap (λ k. drop j (big_endian 8 k)) (sym back) ∙ again ∙ ap (inverted true) once

-- the key of a number, inverted or not, whose first byte and whose bytes were chosen

pub side-bytes : (s d : Bool) (n j : ℕ) → n < 2 ^ 64 → length (number_bytes n) + j ≡ 8 → number_bytes n ≡ drop j (big_endian 8 n)
    → inverted_byte d (side_byte s j) ∷ drop j (big_endian 8 (inverted_word (inverted_again s d) n)) ≡ inverted d (side_key s n)
side-bytes false false n j h e f = let first : 20 - j ≡ 12 + length (number_bytes n) = omega arith in ap₂ (λ x xs. x ∷ xs) first (sym f)
side-bytes true false n j h e f = let first : 4 + j ≡ 12 - length (number_bytes n) = omega arith in ap₂ (λ x xs. x ∷ xs) first (turned-bytes n j h f)
side-bytes false true n j h e f = let first : 255 - (20 - j) ≡ 255 - (12 + length (number_bytes n)) = omega arith in ap₂ (λ x xs. x ∷ xs) first (turned-bytes n j h f)
side-bytes true true n j h e f = let first : 255 - (4 + j) ≡ 255 - (12 - length (number_bytes n)) = omega arith in ap₂ (λ x xs. x ∷ xs) first (twice-turned n j h f)

pub side-length : (s : Bool) (n : ℕ) → length (side_key s n) ≡ 1 + length (number_bytes n)
side-length true n = let e = inverted-length true (number_bytes n) in omega arith
side-length false n = omega arith

-- one byte of a string

pub escape-two : (b : ℕ) → b < 2 → escape b ≡ 1 ∷ (b + 1) ∷ []
escape-two zero h = refl
escape-two (suc zero) h = refl
escape-two (suc (suc b)) h = absurd (omega arith)

-- a string of which the bytes before an offset are written as one each

pub plain-step : (bs : List ℕ) (i : ℕ) → i < length bs → 2 ≤ get_or bs i 0 → take i bs ++ escaped (drop i bs) ≡ take (i + 1) bs ++ escaped (drop (i + 1) bs)
plain-step [] i h more = absurd (omega arith)
plain-step (b ∷ bs) zero h more = ap (λ xs. xs ++ escaped bs) (escape-plain b (omega arith))
plain-step (b ∷ bs) (suc i) h more =
    let e : suc i + 1 ≡ suc (i + 1) = omega arith in
    rw e (ap (λ xs. b ∷ xs) (plain-step bs i (omega arith) more))

pub ruleset doubled = (escape-two)

-- a tuple

pub tuple-key : (v : ScalarValue) (vs : Vec (Option ScalarValue)) → v ≡ Tuple vs → key (content (value_tree v)) ≡ 23 ∷ keys (contents (value_trees vs.items))
tuple-key v vs e = ap (λ w. key (content (value_tree w))) e ∙ ap (λ r. key (content r)) (value_tree-Tuple vs)

-- the parts from a place on
pub keys-at : (i : ℕ) (vs : List (Option ScalarValue)) (v : Option ScalarValue) → i < length vs → v ≡ get_or vs i v
    → keys (contents (value_trees (drop i vs))) ≡ key (content (raw_of v)) ++ keys (contents (value_trees (drop (i + 1) vs)))
keys-at i vs v h is = rw (drop_more vs i v h, ← is) refl

-- a value is no null

not_absent : (v : ScalarValue) → is_absent (value_tree v) ≡ false
not_absent v = search (rules, the_lemmas)

key_with-present : (o : SortOptions) (v : RawTree) → is_absent v ≡ false → key_with o (content v) ≡ inverted o.descending (key (content v))
key_with-present o absent h = cc
key_with-present o _ h = refl

pub key_with-value : (o : SortOptions) (v : ScalarValue) (d : Bool) → o.descending ≡ d → key_with o (content (value_tree v)) ≡ inverted d (key (content (value_tree v)))
key_with-value o v d e = key_with-present o (value_tree v) (not_absent v) ∙ ap (λ b. inverted b (key (content (value_tree v)))) e

-- the key in a column is as long as the key

pub key_with-length : (o : SortOptions) (c : Content) → length (key_with o c) ≡ length (key c)
key_with-length o null = refl
key_with-length o c = inverted-length o.descending (key c)
