-- What the steps of the encoder do to a slice that they write into, from an offset on.
use Rattle.std.specs.Prelude.{◌≡◌, ℕ, ◌+◌, ◌≤◌, List, ◌++◌, length, take}

-- these bytes fit from the offset on
abbrev pub HasSlot : List ℕ → ℕ → List ℕ → Type 0
HasSlot room place bytes = place + length bytes ≤ length room

-- just these bytes are written, from an offset to the next, and what is before them stays
pub record Writes (bytes : List ℕ) (place next : ℕ) (before after : List ℕ) : Type 0 where
  pub items : take next after ≡ take place before ++ bytes
  pub next' : next ≡ place + length bytes
  pub count : length after ≡ length before

-- of all that is to be written these bytes are left
pub record IsLeftAt (rest all : List ℕ) (start place : ℕ) (before now : List ℕ) : Type 0 where
  pub items : take place now ++ rest ≡ take start before ++ all
  pub next' : place + length rest ≡ start + length all
  pub count : length now ≡ length before
