-- What the steps of the encoder do to the bytes that they append to, and how they choose the bytes of a number.
use Rattle.std.specs.Prelude.{◌≡◌, ℕ, ◌+◌, ◌-◌, ◌^◌, ◌≤◌, Bool, true, false, List, [], ◌∷◌, ◌++◌, length, take}
use Rattle.std.specs.Global.{Vec}
use Rattle.std.specs.Vec.{vec_len, vec_capacity}
use Rattle.vortex_value.specs.Values.Content.{Content}
use Rattle.vortex_row.specs.Keys.{downward_key, key, number_bytes, upward_key}

-- there is capacity for these bytes
abbrev pub HasRoom : Vec ℕ → List ℕ → Type 0
HasRoom out bytes = vec_len out + length bytes ≤ vec_capacity out

-- just these bytes are appended, and no capacity is lost
pub record Appends (bytes : List ℕ) (before after : Vec ℕ) : Type 0 where
  pub items : after.items ≡ before.items ++ bytes
  pub count : vec_len after ≡ vec_len before + length bytes
  pub room : vec_capacity before ≤ vec_capacity after

-- so many bytes are appended, whatever they are
pub record HasAppended (count : ℕ) (before after : Vec ℕ) : Type 0 where
  pub begins : take (vec_len before) after.items ≡ before.items
  pub more : vec_len after ≡ vec_len before + count

-- how many bytes the keys of these contents have together
abbrev pub keys_length : List Content → ℕ
keys_length [] = 0
keys_length (c ∷ cs) = length (key c) + keys_length cs

-- the key of the number that is so far from 0, below it or not
abbrev pub side_key : Bool → ℕ → List ℕ
side_key true n = downward_key (number_bytes n)
side_key false n = upward_key (number_bytes n)

-- its first byte, if so many of the eight bytes of how far it is are not used
abbrev pub side_byte : Bool → ℕ → ℕ
side_byte true unused = 4 + unused
side_byte false unused = 20 - unused

-- the number as it is, or each of its 64 bits inverted
abbrev pub inverted_word : Bool → ℕ → ℕ
inverted_word true n = 2 ^ 64 - 1 - n
inverted_word false n = n
