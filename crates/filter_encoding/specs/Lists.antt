-- Lists in bytes: how many items there are, and then the bytes of each.
use Rattle.std.specs.Prelude.{◌≡◌, ℕ, ◌<◌, ◌^◌, List, [], ◌∷◌, ◌++◌, length}
use Rattle.std.specs.List.{AllByRecursion}
use Rattle.vortex_row.specs.Keys.{big_endian}

-- a count or a place, the highest of its 8 bytes first
abbrev pub count_bytes : ℕ → List ℕ
count_bytes n = big_endian 8 n

-- a count or a place that 8 bytes can hold
abbrev pub Fits : ℕ → Type 0
Fits n = n < 2 ^ 64

-- the bytes of each, one after the other
abbrev pub each_bytes : {X : Type 0} → (X → List ℕ) → List X → List ℕ
each_bytes bytes_of [] = []
each_bytes bytes_of (x ∷ xs) = bytes_of x ++ each_bytes bytes_of xs

-- how many there are, and then the bytes of each
abbrev pub listed : {X : Type 0} → (X → List ℕ) → List X → List ℕ
listed bytes_of xs = count_bytes (length xs) ++ each_bytes bytes_of xs

-- so many, each of this kind
pub record AreSo {X : Type 0} (n : ℕ) (Is : X → Type 0) (xs : List X) : Type 0 where
  pub count : length xs ≡ n
  pub each : AllByRecursion Is xs

-- as many as 8 bytes can say, each of this kind
pub record AreListed {X : Type 0} (Is : X → Type 0) (xs : List X) : Type 0 where
  pub fit : Fits (length xs)
  pub each : AllByRecursion Is xs
