-- Hexadecimal digits that are read into just the bytes that they need.
use Rattle.std.proofs.Common.{◌≡◌, ℕ, ◌/◌, List, length, refl}
use Rattle.std.proofs.lemmas.Bool.{eq-eqb}
use Rattle.hex.specs.Hex.{decode_of, decode_sized}

-- into half as many bytes as there are digits: what they represent
pub sized : (word : List ℕ) (n : ℕ) → n ≡ length word / 2 → decode_sized word n ≡ decode_of word
sized word n e = rw (e, eq-eqb (length word / 2) (length word / 2) refl) refl
