-- Bytes with which many others are compared.
use Rattle.std.specs.Prelude.{ℕ, ◌==◌, ◌&&◌, Bool, List, length}

-- whether this is the number of the first eight bytes, and so many they all are
abbrev pub is_alike : ℕ → ℕ → ℕ → List ℕ → Bool
is_alike word size own bytes = word == own && size == length bytes
